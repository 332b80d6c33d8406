-- The check list of a local variable.
use Rattle.std.specs.Prelude.{ℕ, Bool, true, false, List, [], ◌∷◌, Option, None, Some, slice_get}
use Rattle.ir_flags.specs.Bits.{CONSTRUCTIBLE}
use Rattle.ir_arena.specs.Points.{Point}
use Rattle.ir_types.specs.TypeTests.{is_same_type}
use Rattle.ir_module.specs.declared.functions.LocalVariable.{LocalVariable}
use Rattle.ir_types.specs.declared.types.Type.{«Type» as IrType}
use Rattle.ir_facts.specs.declared.proc.expression_kinds.ExpressionKind.{ExpressionKind}
use Rattle.ir_facts.specs.declared.proc.expression_kinds.ExpressionKind.TheVariants.{Const, Override, Runtime}
use Rattle.ir_types.specs.declared.typifier.TypeResolution.{TypeResolution}
use Rattle.ir_types.specs.declared.typifier.TypeResolution.TheVariants.{Handle}
use Rattle.ir_types.specs.declared.type_info.TypeInfo.{TypeInfo}
use Rattle.ir_types.specs.TypeInfos.{type_has}
use Rattle.ir_errors.specs.declared.function.LocalVariableError.{LocalVariableError}
use Rattle.ir_errors.specs.declared.function.LocalVariableError.TheVariants.{InvalidType, InitializerType, NonConstOrOverrideInitializer}

-- the value is known before the pipeline runs
abbrev pub is_const_or_override : Option ExpressionKind → Bool
is_const_or_override (Some Const) = true
is_const_or_override (Some Override) = true
is_const_or_override (Some Runtime) = false
is_const_or_override None = false

abbrev pub is_declared_as : List IrType → ℕ → Option TypeResolution → Bool
is_declared_as types declared None = false
is_declared_as types declared (Some given) = is_same_type types (Handle declared) given

-- an initializer, if there is one: of the declared type, and known before the pipeline runs
abbrev pub initializer_points : List IrType → List TypeResolution → List ExpressionKind → ℕ → Option ℕ →
    List (Point LocalVariableError)
initializer_points types given kinds declared None = []
initializer_points types given kinds declared (Some init) =
    (is_declared_as types declared (slice_get given init), InitializerType)
    ∷ (is_const_or_override (slice_get kinds init), NonConstOrOverrideInitializer)
    ∷ []

-- a local variable: its type can be constructed; then its initializer. The infos are indexed by the types, types and
-- kinds of expressions by the function's expressions
abbrev pub local_points : List IrType → List TypeInfo → List TypeResolution → List ExpressionKind → LocalVariable →
    List (Point LocalVariableError)
local_points types infos given kinds var =
    (type_has infos var.ty CONSTRUCTIBLE, InvalidType var.ty)
    ∷ initializer_points types given kinds var.ty var.init
