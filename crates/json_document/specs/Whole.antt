-- Documents.
use Rattle.std.specs.Prelude.{[], ◌∷◌, codes, Option, Some, if◌then◌else◌}
use Rattle.serde_json.specs.Data.{Data}
use Rattle.json_document.specs.declared.document.Known.{Known}
use Rattle.json_document.specs.declared.document.Document.{Document}
use Rattle.ir_flags.specs.declared.capabilities.Capabilities.{Capabilities}
use Rattle.ir_flags.specs.declared.valid.ShaderStages.{ShaderStages}
use Rattle.ir_flags.specs.declared.valid.SubgroupOperationSet.{SubgroupOperationSet}
use Rattle.ir_flags.specs.declared.valid.ValidationFlags.{ValidationFlags}
use Rattle.ir_module.specs.declared.module.Module.{Module}
use Rattle.json_document.specs.Ids.{id_in}
use Rattle.json_values.specs.Form.{field_of, fields_of, given, has_field, list_of, made_of_six, optional, six_fields}
use Rattle.json_values.specs.ReadNumbers.{u32_of}
use Rattle.json_values.specs.Sets.{capabilities_of, stages_of, subgroup_operations_of, validation_flags_of}
use Rattle.json_document.specs.Document.Facts.{function_fact_of, mesh_analysis_fact_of, type_info_of}
use Rattle.json_document.specs.Document.Modules.{module_of}
use Rattle.json_types.specs.ReadTypes.{type_resolution_of}

-- what is known of a module
abbrev pub known_of : Data → Option Known
known_of d = made_of_six
    (λ type_infos global_types sizes mesh_analyses functions entry_points. record {
      type_infos = type_infos;
      global_types = global_types;
      facts = record {
        sizes = sizes;
        mesh_analyses = mesh_analyses;
        functions = functions;
        entry_points = entry_points;
      };
    })
    (six_fields (codes "type_infos") (list_of type_info_of) (codes "global_types") (list_of type_resolution_of)
    (codes "sizes") (list_of (optional u32_of)) (codes "mesh_analyses") (list_of (optional mesh_analysis_fact_of))
    (codes "functions") (list_of function_fact_of) (codes "entry_points") (list_of function_fact_of) d)

abbrev pub DocumentParts : Type 0
DocumentParts = ValidationFlags × Capabilities × ShaderStages × SubgroupOperationSet × Module × Option Known

abbrev pub settings_of : Data → Option (ValidationFlags × Capabilities × ShaderStages × SubgroupOperationSet)
settings_of d =
    given (field_of validation_flags_of (codes "flags") d) (λ flags.
    given (field_of capabilities_of (codes "capabilities") d) (λ capabilities.
    given (field_of stages_of (codes "subgroup_stages") d) (λ stages.
    given (field_of subgroup_operations_of (codes "subgroup_operations") d) (λ operations.
    Some (flags, capabilities, stages, operations)))))

-- what the six fields of a document stand for, whatever stands beside them; the facts may be null
abbrev pub all_parts : Data → Option DocumentParts
all_parts d =
    given (settings_of d) (λ s.
    given (field_of module_of (codes "module") d) (λ m.
    given (field_of (optional known_of) (codes "facts") d) (λ known. Some (s.0, s.1, s.2, s.3, m, known))))

-- the same of an object with exactly these fields and an id
abbrev pub named_parts : Data → Option DocumentParts
named_parts d =
    given (fields_of (codes "id" ∷ codes "flags" ∷ codes "capabilities" ∷ codes "subgroup_stages"
    ∷ codes "subgroup_operations" ∷ codes "module" ∷ codes "facts" ∷ []) d) (λ d.
    given (id_in d) (λ id. all_parts d))

-- the same of an object with an id or without one
abbrev pub parts_of : Data → Option DocumentParts
parts_of d =
    if has_field (codes "id") d then named_parts d else
    (six_fields (codes "flags") validation_flags_of (codes "capabilities") capabilities_of
    (codes "subgroup_stages") stages_of (codes "subgroup_operations") subgroup_operations_of
    (codes "module") module_of (codes "facts") (optional known_of) d)

-- a document, with or without an id
abbrev pub document_of : Data → Option Document
document_of d = made_of_six
    (λ flags capabilities subgroup_stages subgroup_operations m known. record {
      settings = record {
        flags = flags;
        capabilities = capabilities;
        subgroup_stages = subgroup_stages;
        subgroup_operations = subgroup_operations;
      };
      «module» = m;
      known = known;
    })
    (parts_of d)
