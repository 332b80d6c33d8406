-- What facts are as answers of a lower layer.
use Rattle.std.specs.Prelude.{ℕ, [], ◌∷◌, None, Some, slice_get, unwrap_or}
use Rattle.std.specs.Option.{option_flatten}
use Rattle.ir_module.specs.declared.module.MeshOutputTopology.TheVariants.{Points}
use Rattle.ir_facts.specs.declared.valid.info.FunctionInfo.{FunctionInfo}
use Rattle.ir_errors.specs.declared.function.FunctionError.{FunctionError}
use Rattle.ir_errors.specs.declared.function.FunctionError.TheVariants as fault
use Rattle.ir_facts.specs.declared.proc.mesh.MeshAnalysis.{MeshAnalysis}
use Rattle.ir_errors.specs.declared.mesh.MeshFault.TheVariants.{OutputType}
use Rattle.ir_facts.specs.declared.facts.Facts.{Facts}
use Rattle.ir_facts.specs.declared.facts.InfoFact.{InfoFact}
use Rattle.ir_facts.specs.declared.facts.LowerFunctionError.{LowerFunctionError}
use Rattle.ir_facts.specs.declared.facts.LowerFunctionError.TheVariants as lower
use Rattle.ir_facts.specs.declared.facts.MeshAnalysisFact.{MeshAnalysisFact}

-- nothing is recorded
abbrev pub no_facts : Facts
no_facts = record { sizes = []; mesh_analyses = []; functions = []; entry_points = [] }

-- an error of a lower layer is the fault of the same name
abbrev pub fault_of : LowerFunctionError → FunctionError
fault_of (lower.Expression h source) = fault.Expression h source
fault_of (lower.MissingRayQueryVertexReturn h) = fault.MissingRayQueryVertexReturn h
fault_of (lower.NonUniformControlFlow r h d) = fault.NonUniformControlFlow r h d
fault_of (lower.NonUniformWorkgroupUniformLoad d) = fault.NonUniformWorkgroupUniformLoad d
fault_of (lower.InvalidMeshFunctionCall h) = fault.InvalidMeshFunctionCall h
fault_of (lower.ConflictingMeshOutputTypes h i) = fault.ConflictingMeshOutputTypes h i
fault_of (lower.ConflictingTaskPayloadVariables h i) = fault.ConflictingTaskPayloadVariables h i
fault_of (lower.InvalidMeshShaderOutputType h) = fault.InvalidMeshShaderOutputType h

-- the info that is recorded
abbrev pub info_of : InfoFact → FunctionInfo
info_of i =
    record {
      expression_types = i.types;
      global_uses = i.uses;
      available_stages = i.stages;
      dual_source_blending = i.dual_source_blending;
    }

-- the analysis that is recorded
abbrev pub analysis_of : MeshAnalysisFact → MeshAnalysis
analysis_of a = record { implied = a.implied; overrides = a.overrides; fault = a.fault }

-- the analysis of a global of which none is recorded: its type can't be put out
abbrev pub unknown_analysis : MeshAnalysisFact
unknown_analysis =
    record {
      implied = record {
        topology = Points;
        max_vertices = 0;
        max_vertices_override = None;
        max_primitives = 0;
        max_primitives_override = None;
        vertex_output_type = 0;
        primitive_output_type = 0;
        output_variable = 0;
      };
      overrides = None ∷ None ∷ [];
      fault = Some OutputType;
    }

-- what is recorded of the global with this handle, where something is
abbrev pub analysis_at : Facts → ℕ → MeshAnalysisFact
analysis_at facts h = unwrap_or (option_flatten (slice_get facts.mesh_analyses h)) unknown_analysis
