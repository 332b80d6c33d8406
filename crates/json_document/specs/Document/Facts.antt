-- Facts: what lower layers say of a module.
use Rattle.std.specs.Prelude.{ℕ, List, [], ◌∷◌, codes, Option, option_map, ⊤}
use Rattle.std.specs.Prelude.{Result, Ok, Err}
use Rattle.serde_json.specs.Data.{Data}
use Rattle.serde_json.specs.Find.{as_bool, as_null}
use Rattle.ir_errors.specs.declared.mesh.MeshFault.{MeshFault}
use Rattle.ir_errors.specs.declared.mesh.MeshFault.TheVariants as mesh_fault
use Rattle.json_document.specs.declared.facts.OutcomeName.{OutcomeName}
use Rattle.json_document.specs.declared.facts.OutcomeName.TheVariants as outcome_name
use Rattle.ir_types.specs.declared.type_info.Disalignment.{Disalignment}
use Rattle.ir_types.specs.declared.type_info.ImmediateError.{ImmediateError}
use Rattle.ir_types.specs.declared.type_info.TypeInfo.{TypeInfo}
use Rattle.ir_facts.specs.declared.facts.MeshAnalysisFact.{MeshAnalysisFact}
use Rattle.ir_facts.specs.declared.facts.ExpressionFact.{ExpressionFact}
use Rattle.ir_facts.specs.declared.facts.ExpressionFact.TheVariants as expression_fact
use Rattle.json_document.specs.declared.facts.ExpressionFactName.{ExpressionFactName}
use Rattle.json_document.specs.declared.facts.ExpressionFactName.TheVariants as expression_fact_name
use Rattle.ir_facts.specs.declared.facts.InfoFact.{InfoFact}
use Rattle.ir_facts.specs.declared.facts.FunctionFact.{FunctionFact}
use Rattle.ir_facts.specs.declared.facts.FunctionFact.TheVariants as function_fact
use Rattle.json_document.specs.declared.facts.FunctionFactName.{FunctionFactName}
use Rattle.json_document.specs.declared.facts.FunctionFactName.TheVariants as function_fact_name
use Rattle.json_values.specs.Form.{five_fields, four_fields, given, list_of, made_of_five, made_of_four, made_of_three, named, optional, three_fields, two_of}
use Rattle.json_values.specs.ReadNumbers.{u32_of}
use Rattle.json_values.specs.Sets.{global_use_of, stages_of, type_flags_of}
use Rattle.json_values.specs.Variants.{variant_of, either}
use Rattle.json_document.specs.Document.EntryPoints.{mesh_stage_info_of}
use Rattle.json_document.specs.Document.Errors.{expression_error_of, lower_function_error_of}
use Rattle.json_types.specs.ReadTypes.{type_resolution_of}

-- the faults of outputs of mesh shaders
abbrev pub mesh_faults : List (List ℕ × MeshFault)
mesh_faults =
    (codes "OutputType", mesh_fault.OutputType) ∷ (codes "OutputField", mesh_fault.OutputField) ∷ []

abbrev pub mesh_fault_of : Data → Option MeshFault
mesh_fault_of = named mesh_faults

-- good or bad
abbrev pub outcomes : List (List ℕ × OutcomeName)
outcomes = (codes "Ok", outcome_name.Ok) ∷ (codes "Err", outcome_name.Err) ∷ []

abbrev pub layout_from : OutcomeName → Data → Option (Result ℕ (ℕ × Disalignment))
layout_from outcome_name.Ok d = option_map Ok (u32_of d)
layout_from outcome_name.Err d = option_map (λ p. Err (p.0, record { 0 = p.1 })) (two_of u32_of u32_of d)

-- the alignment of a layout, or the type that spoils it and why
abbrev pub layout_of : Data → Option (Result ℕ (ℕ × Disalignment))
layout_of d = given (variant_of [] outcomes d) (either layout_from)

abbrev pub immediates_from : OutcomeName → Data → Option (Result ⊤ ImmediateError)
immediates_from outcome_name.Ok d = option_map Ok (as_null d)
immediates_from outcome_name.Err d = option_map (λ n. Err (record { 0 = n })) (u32_of d)

-- whether a type can be an immediate, and why not
abbrev pub immediates_of : Data → Option (Result ⊤ ImmediateError)
immediates_of d = given (variant_of [] outcomes d) (either immediates_from)

-- what is known of a type
abbrev pub type_info_of : Data → Option TypeInfo
type_info_of d = made_of_four
    (λ flags storage_layout uniform_layout immediates_compatibility. record {
      flags = flags;
      storage_layout = storage_layout;
      uniform_layout = uniform_layout;
      immediates_compatibility = immediates_compatibility;
    })
    (four_fields (codes "flags") type_flags_of (codes "storage_layout") layout_of (codes "uniform_layout") layout_of
    (codes "immediates_compatibility") immediates_of d)

-- two overrides, each of which may be missing
abbrev pub overrides_from : Option ℕ × Option ℕ → List (Option ℕ)
overrides_from two = two.0 ∷ two.1 ∷ []

-- what a global implies as the output of a mesh shader
abbrev pub mesh_analysis_fact_of : Data → Option MeshAnalysisFact
mesh_analysis_fact_of d = made_of_three
    (λ implied two fault. record { implied = implied; overrides = overrides_from two; fault = fault })
    (three_fields (codes "implied") mesh_stage_info_of (codes "overrides") (two_of (optional u32_of) (optional u32_of))
    (codes "fault") (optional mesh_fault_of) d)

-- what is known of an expression
abbrev pub expression_facts : List (List ℕ × ExpressionFactName)
expression_facts =
    (codes "stages", expression_fact_name.Stages) ∷ (codes "error", expression_fact_name.Error) ∷ []

-- what a variant that holds something stands for
abbrev pub expression_fact_from : ExpressionFactName → Data → Option ExpressionFact
expression_fact_from expression_fact_name.Stages d = option_map expression_fact.Stages (stages_of d)
expression_fact_from expression_fact_name.Error d = option_map expression_fact.Error (expression_error_of d)

abbrev pub expression_fact_of : Data → Option ExpressionFact
expression_fact_of d = given (variant_of [] expression_facts d) (either expression_fact_from)

-- what is known of a function
abbrev pub info_fact_of : Data → Option InfoFact
info_fact_of d = made_of_five
    (λ types uses stages dual_source_blending expressions. record {
      types = types;
      uses = uses;
      stages = stages;
      dual_source_blending = dual_source_blending;
      expressions = expressions;
    })
    (five_fields (codes "types") (list_of type_resolution_of) (codes "uses") (list_of global_use_of)
    (codes "stages") stages_of (codes "dual_source_blending") as_bool
    (codes "expressions") (list_of expression_fact_of) d)

-- what is known of a function, or what is wrong with it
abbrev pub function_facts : List (List ℕ × FunctionFactName)
function_facts =
    (codes "info", function_fact_name.Info) ∷ (codes "error", function_fact_name.Error) ∷ []

-- what a variant that holds something stands for
abbrev pub function_fact_from : FunctionFactName → Data → Option FunctionFact
function_fact_from function_fact_name.Info d = option_map function_fact.Info (info_fact_of d)
function_fact_from function_fact_name.Error d = option_map function_fact.Error (lower_function_error_of d)

abbrev pub function_fact_of : Data → Option FunctionFact
function_fact_of d = given (variant_of [] function_facts d) (either function_fact_from)
