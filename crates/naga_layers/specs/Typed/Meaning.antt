-- What the layer that computes means.
use Rattle.std.specs.Prelude.{ℕ, false, List, [], Result, Ok, Err, slice_get}
use Rattle.ir_flags.specs.Bits.{ALL_STAGES}
use Rattle.ir_flags.specs.declared.valid.ShaderStages.{ShaderStages}
use Rattle.ir_errors.specs.declared.expression.ExpressionError.{ExpressionError}
use Rattle.ir_errors.specs.declared.expression.ExpressionError.TheVariants.{Lower}
use Rattle.ir_facts.specs.declared.valid.info.FunctionInfo.{FunctionInfo}
use Rattle.ir_facts.specs.declared.valid.info.ModuleInfo.{ModuleInfo}
use Rattle.ir_facts.specs.declared.valid.settings.Settings.{Settings}
use Rattle.ir_module.specs.declared.functions.Function.{Function}
use Rattle.ir_module.specs.declared.module.Module.{Module}
use Rattle.ir_types.specs.declared.typifier.TypeResolution.{TypeResolution}
use Rattle.ir_facts.specs.Meaning.{Meaning}
use Rattle.ir_errors.specs.declared.function.FunctionError.{FunctionError}
use Rattle.ir_errors.specs.declared.function.FunctionError.TheVariants.{Expression as InExpression}
use Rattle.layer_expressions.specs.RuleNumbers.{number_of}
use Rattle.layer_expressions.specs.ComputedTypes.{types_of}
use Rattle.layer_expressions.specs.declared.types.Untyped.{Untyped}
use Rattle.layer_types.specs.Sizes.{size_at}
use Rattle.naga_layers.specs.Kinds.{kinds_from}
use Rattle.naga_layers.specs.Stages.{stages_of}
use Rattle.layer_uses.specs.Uses.{uses_of}
use Rattle.naga_layers.specs.Typed.Mesh.{mesh_analysis}

-- the fault of an expression that has no type: the number of the rule that it breaks
abbrev pub fault_of : Untyped → FunctionError
fault_of untyped = InExpression untyped.handle (Lower (number_of untyped.rule))

-- the info of a function whose expressions have these types
abbrev pub info_of_types : Function → Module → ModuleInfo → List TypeResolution → FunctionInfo
info_of_types f m infos types =
    record {
      expression_types = types;
      global_uses = uses_of m f infos;
      available_stages = ALL_STAGES;
      dual_source_blending = false;
    }

abbrev pub with_types : Function → Module → ModuleInfo → Result (List TypeResolution) Untyped → Result FunctionInfo FunctionError
with_types f m infos (Err untyped) = Err (fault_of untyped)
with_types f m infos (Ok types) = Ok (info_of_types f m infos types)

-- the types of its expressions, the uses of globals, and all stages; or the first expression that has no type
abbrev pub computed_info : Function → Module → ModuleInfo → Result FunctionInfo FunctionError
computed_info f m infos = with_types f m infos (types_of m f.arguments f.local_variables f.expressions)

-- the stages of an expression by itself
abbrev pub stages_at : Settings → ℕ → Function → ModuleInfo → Result ShaderStages ExpressionError
stages_at settings h f infos = stages_of settings infos (slice_get f.expressions h)

-- each answer is computed from the arguments of its call
abbrev pub typed_meaning : Meaning
typed_meaning =
    record {
      function_info = λ f m infos flags capabilities. computed_info f m infos;
      expression_stages = λ settings h f m info infos kinds. stages_at settings h f infos;
      mesh_analysis = λ m output. mesh_analysis m output;
      kinds_of = λ es. kinds_from [] es;
      size_of = λ m t. size_at m.types t;
    }
