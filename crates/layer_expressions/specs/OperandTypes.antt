-- The types of operands.
use Rattle.std.specs.Prelude.{ℕ, List, [], ◌∷◌, Option, None, Some, slice_get, option_and_then}
use Rattle.ir_types.specs.Types.{resolved}
use Rattle.ir_types.specs.declared.types.Type.{«Type» as IrType}
use Rattle.ir_types.specs.declared.types.TypeInner.{TypeInner}
use Rattle.ir_types.specs.declared.typifier.TypeResolution.{TypeResolution}
use Rattle.layer_expressions.specs.declared.operands.Arguments.{Arguments}
use Rattle.layer_expressions.specs.declared.operands.Arguments.TheVariants.{One, Two, Three, Four}
use Rattle.layer_shapes.specs.declared.shapes.Shape.{Shape}
use Rattle.layer_shapes.specs.Shapes.{shape_of}

-- the type of an operand, which is an earlier expression
abbrev pub type_of_operand : List IrType → List TypeResolution → ℕ → Option TypeInner
type_of_operand types earlier h = option_and_then (resolved types) (slice_get earlier h)

-- its shape, where it has one
abbrev pub shape_of_operand : List IrType → List TypeResolution → ℕ → Option Shape
shape_of_operand types earlier h = option_and_then shape_of (type_of_operand types earlier h)

abbrev pub two_arguments : Option Shape → Option Shape → Option Arguments
two_arguments (Some a) (Some b) = Some (Two a b)
two_arguments _ _ = None

abbrev pub three_arguments : Option Shape → Option Shape → Option Shape → Option Arguments
three_arguments (Some a) (Some b) (Some c) = Some (Three a b c)
three_arguments _ _ _ = None

abbrev pub four_arguments : Option Shape → Option Shape → Option Shape → Option Shape → Option Arguments
four_arguments (Some a) (Some b) (Some c) (Some d) = Some (Four a b c d)
four_arguments _ _ _ _ = None

-- the shapes of one to four operands, where each has one
abbrev pub arguments_of : List IrType → List TypeResolution → List ℕ → Option Arguments
arguments_of types earlier (a ∷ []) = option_and_then (λ x. Some (One x)) (shape_of_operand types earlier a)
arguments_of types earlier (a ∷ b ∷ []) = two_arguments (shape_of_operand types earlier a) (shape_of_operand types earlier b)
arguments_of types earlier (a ∷ b ∷ c ∷ []) =
    three_arguments (shape_of_operand types earlier a) (shape_of_operand types earlier b) (shape_of_operand types earlier c)
arguments_of types earlier (a ∷ b ∷ c ∷ d ∷ []) =
    four_arguments (shape_of_operand types earlier a) (shape_of_operand types earlier b) (shape_of_operand types earlier c)
    (shape_of_operand types earlier d)
arguments_of types earlier _ = None
