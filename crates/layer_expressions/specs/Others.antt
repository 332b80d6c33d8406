-- The types of array lengths and of cooperative operations.
use Rattle.std.specs.Prelude.{ℕ, Bool, true, false, ◌/◌, ◌&&◌, List, [], ◌∷◌, Option, None, Some, Result, Ok, Err, is_some, if◌then◌else◌, option_and_then}
use Rattle.ir_types.specs.Types.{inner_at}
use Rattle.ir_types.specs.declared.types.ArraySize.{ArraySize}
use Rattle.ir_types.specs.declared.types.ArraySize.TheVariants as size
use Rattle.ir_leaves.specs.declared.scalars.Scalar.{Scalar}
use Rattle.ir_leaves.specs.declared.scalars.ScalarKind.TheVariants.{Uint}
use Rattle.ir_types.specs.declared.types.Type.{«Type» as IrType}
use Rattle.ir_types.specs.declared.types.TypeInner.{TypeInner}
use Rattle.ir_types.specs.declared.types.TypeInner.TheVariants as inner
use Rattle.ir_types.specs.declared.typifier.TypeResolution.{TypeResolution}
use Rattle.ir_types.specs.declared.typifier.TypeResolution.TheVariants.{Value}
use Rattle.layer_expressions.specs.declared.rules.Rule.{Rule}
use Rattle.layer_expressions.specs.declared.rules.Rule.TheVariants as rule
use Rattle.layer_expressions.specs.OperandTypes.{type_of_operand}
use Rattle.layer_expressions.specs.RuleNumbers.{or_broken}
use Rattle.layer_shapes.specs.Shapes.{four_bytes}

abbrev pub is_dynamic_size : ArraySize → Bool
is_dynamic_size size.Dynamic = true
is_dynamic_size _ = false

-- an array of dynamic size
abbrev pub is_dynamic : TypeInner → Bool
is_dynamic (inner.Array base n stride) = is_dynamic_size n
is_dynamic _ = false

abbrev pub is_dynamic_at : Option TypeInner → Bool
is_dynamic_at None = false
is_dynamic_at (Some i) = is_dynamic i

-- a pointer to one
abbrev pub has_length : List IrType → Option TypeInner → Bool
has_length types (Some (inner.Pointer b p)) = is_dynamic_at (inner_at types b)
has_length types _ = false

-- ArrayLength: of such a pointer a number
abbrev pub length_type : List IrType → List TypeResolution → List ℕ → Result TypeResolution Rule
length_type types earlier (h ∷ []) =
    if has_length types (type_of_operand types earlier h)
    then Ok (Value (inner.Scalar (four_bytes Uint)))
    else Err rule.ArrayLength
length_type types earlier _ = Err rule.ArrayLength

abbrev pub scalar_alone : TypeInner → Option Scalar
scalar_alone (inner.Scalar s) = Some s
scalar_alone _ = None

-- the scalar that a pointer points to
abbrev pub scalar_behind : List IrType → Option TypeInner → Option Scalar
scalar_behind types (Some (inner.Pointer b p)) = option_and_then scalar_alone (inner_at types b)
scalar_behind types (Some (inner.ValuePointer None s p)) = Some s
scalar_behind types _ = None

abbrev pub matrix_of : ℕ → Option Scalar → Result TypeResolution Rule
matrix_of detail None = Err rule.Cooperative
matrix_of detail (Some s) = Ok (Value (inner.CooperativeMatrix s (detail / 2)))

-- CooperativeLoad: the matrix of the scalar that is pointed to; `detail` is twice that of its type, and 1 where it lies by rows
abbrev pub cooperative_load : List IrType → List TypeResolution → List ℕ → ℕ → Result TypeResolution Rule
cooperative_load types earlier [] detail = Err rule.Cooperative
cooperative_load types earlier (h ∷ hs) detail = matrix_of detail (scalar_behind types (type_of_operand types earlier h))

abbrev pub cooperative_of : Option TypeInner → Option TypeResolution
cooperative_of (Some (inner.CooperativeMatrix s d)) = Some (Value (inner.CooperativeMatrix s d))
cooperative_of _ = None

-- CooperativeMultiplyAdd: of three such matrices the type of the third
abbrev pub multiply_add : List IrType → List TypeResolution → List ℕ → Result TypeResolution Rule
multiply_add types earlier (a ∷ b ∷ c ∷ []) =
    if is_some (cooperative_of (type_of_operand types earlier a)) && is_some (cooperative_of (type_of_operand types earlier b))
    then or_broken rule.Cooperative (cooperative_of (type_of_operand types earlier c))
    else Err rule.Cooperative
multiply_add types earlier _ = Err rule.Cooperative
