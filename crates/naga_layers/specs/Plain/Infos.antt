-- What the plain layer knows of a function.
use Rattle.std.specs.Prelude.{false, List, [], Result, Ok, Err}
use Rattle.ir_flags.specs.Bits.{ALL_STAGES}
use Rattle.ir_module.specs.declared.functions.Function.{Function}
use Rattle.ir_module.specs.declared.module.Module.{Module}
use Rattle.ir_types.specs.declared.typifier.TypeResolution.{TypeResolution}
use Rattle.ir_facts.specs.declared.valid.info.FunctionInfo.{FunctionInfo}
use Rattle.ir_errors.specs.declared.function.FunctionError.{FunctionError}
use Rattle.naga_layers.specs.Plain.Types.{types_from}
use Rattle.naga_layers.specs.Plain.Uses.{uses_of}

-- the info of a function whose expressions have these types
abbrev pub info_of_types : Module → Function → List TypeResolution → FunctionInfo
info_of_types m f types =
    record { expression_types = types; global_uses = uses_of m f; available_stages = ALL_STAGES; dual_source_blending = false }

abbrev pub with_types : Module → Function → Result (List TypeResolution) FunctionError → Result FunctionInfo FunctionError
with_types m f (Err fault) = Err fault
with_types m f (Ok types) = Ok (info_of_types m f types)

-- the types of its expressions, the globals that they name as read, and all stages; or the first expression that the
-- layer has no type for
abbrev pub plain_info : Function → Module → Result FunctionInfo FunctionError
plain_info f m = with_types m f (types_from m f [] f.expressions)
