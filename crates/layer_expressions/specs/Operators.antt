-- The shapes that operators give; None where they don't take their operands.
use Rattle.std.specs.Prelude.{ℕ, Bool, true, false, not, ◌&&◌, ◌||◌, Option, None, Some, unwrap_or, if◌then◌else◌}
use Rattle.ir_types.specs.Types.{bool_scalar}
use Rattle.ir_leaves.specs.declared.scalars.Scalar.{Scalar}
use Rattle.ir_leaves.specs.declared.scalars.ScalarKind.{ScalarKind}
use Rattle.ir_leaves.specs.declared.scalars.ScalarKind.TheVariants as kind
use Rattle.ir_leaves.specs.declared.scalars.VectorSize.{VectorSize}
use Rattle.ir_leaves.specs.declared.scalars.VectorSize.TheVariants.{Bi, Tri, Quad}
use Rattle.layer_forms.specs.declared.casts.Cast.{Cast}
use Rattle.layer_forms.specs.declared.operators.BinaryOperator.{BinaryOperator}
use Rattle.layer_forms.specs.declared.operators.BinaryOperator.TheVariants as binary
use Rattle.layer_forms.specs.declared.operators.RelationalFunction.{RelationalFunction}
use Rattle.layer_forms.specs.declared.operators.RelationalFunction.TheVariants as relational
use Rattle.layer_forms.specs.declared.operators.UnaryOperator.{UnaryOperator}
use Rattle.layer_forms.specs.declared.operators.UnaryOperator.TheVariants as unary
use Rattle.layer_forms.specs.declared.vectors.Swizzle.{Swizzle}
use Rattle.layer_forms.specs.declared.vectors.SwizzleComponent.{SwizzleComponent}
use Rattle.layer_forms.specs.declared.vectors.SwizzleComponent.TheVariants as component
use Rattle.layer_types.specs.LeafInfos.{is_known, is_number}
use Rattle.layer_expressions.specs.declared.operands.Arguments.{Arguments}
use Rattle.layer_expressions.specs.declared.operands.Arguments.TheVariants.{One, Two, Three}
use Rattle.layer_shapes.specs.declared.shapes.Shape.{Shape}
use Rattle.layer_shapes.specs.declared.shapes.Shape.TheVariants as shape
use Rattle.layer_shapes.specs.Products.{own_of, number_of_two, product_of}
use Rattle.layer_shapes.specs.Shapes.{scalar_of, with_scalar, is_matrix, is_same, is_integer, is_signed, is_float, is_bool}

-- Splat: of a scalar the vector
abbrev pub splat_of : VectorSize → Arguments → Option Shape
splat_of n (One (shape.Scalar s)) = Some (shape.Vector n s)
splat_of n _ = None

-- Swizzle: of a vector that has each component which is taken, the vector of so many
abbrev pub has_component : VectorSize → SwizzleComponent → Bool
has_component n component.X = true
has_component n component.Y = true
has_component Bi component.Z = false
has_component Tri component.Z = true
has_component Quad component.Z = true
has_component Bi component.W = false
has_component Tri component.W = false
has_component Quad component.W = true

abbrev pub covers_as : VectorSize → VectorSize → Swizzle → Bool
covers_as n Bi w = has_component n w.first && has_component n w.second
covers_as n Tri w = (has_component n w.first && has_component n w.second) && has_component n w.third
covers_as n Quad w =
    (has_component n w.first && has_component n w.second) && (has_component n w.third && has_component n w.fourth)

abbrev pub covers : VectorSize → Swizzle → Bool
covers n w = covers_as n w.size w

abbrev pub swizzled : Swizzle → Arguments → Option Shape
swizzled w (One (shape.Vector n s)) = if covers n w then Some (shape.Vector w.size s) else None
swizzled w _ = None

-- Unary: the operand's type. Negate takes what has a sign, LogicalNot bools, BitwiseNot integers; only Negate takes matrices
abbrev pub unary_takes : UnaryOperator → Shape → Bool
unary_takes unary.Negate x = is_signed (scalar_of x).kind
unary_takes unary.LogicalNot x = is_bool (scalar_of x).kind && not (is_matrix x)
unary_takes unary.BitwiseNot x = is_integer (scalar_of x).kind && not (is_matrix x)

abbrev pub unary_of : UnaryOperator → Arguments → Option Shape
unary_of operator (One x) = if unary_takes operator x then Some x else None
unary_of operator _ = None

-- Add, Subtract: the same, and two matrices of one type
abbrev pub sum_of : Shape → Shape → Option Shape
sum_of a b = if is_matrix a && is_same a b then Some a else number_of_two a b

-- a bool, or the vector of bools of the same size
abbrev pub bools_of : Shape → Shape
bools_of x = with_scalar x bool_scalar

-- comparisons of two of one type, no matrices: of numbers, and for equality of bools
abbrev pub is_comparable : ScalarKind → Bool → Bool
is_comparable k takes_bools = is_number k || (takes_bools && is_bool k)

abbrev pub compared : Bool → Shape → Shape → Option Shape
compared takes_bools a b =
    if is_matrix a || not (is_same a b) then None else own_of (bools_of a) (is_comparable (scalar_of a).kind takes_bools)

-- And, ExclusiveOr, InclusiveOr, of two of one type: of integers, and but for ExclusiveOr of bools
abbrev pub has_bits : ScalarKind → Bool → Bool
has_bits k takes_bools = is_integer k || (takes_bools && is_bool k)

abbrev pub bits_of : Bool → Shape → Shape → Option Shape
bits_of takes_bools a b =
    if is_matrix a || not (is_same a b) then None else own_of a (has_bits (scalar_of a).kind takes_bools)

-- LogicalAnd, LogicalOr: of two bools a bool
abbrev pub logical_of : Shape → Shape → Option Shape
logical_of a b =
    own_of (shape.Scalar bool_scalar) (is_same a (shape.Scalar bool_scalar) && is_same b (shape.Scalar bool_scalar))

abbrev pub is_unsigned : ScalarKind → Bool
is_unsigned kind.Uint = true
is_unsigned _ = false

-- ShiftLeft, ShiftRight: of integers by as many unsigned ones, the left type
abbrev pub shifted : Shape → Shape → Option Shape
shifted a b =
    if is_matrix a || not (is_integer (scalar_of a).kind) then None
    else own_of a (is_unsigned (scalar_of b).kind && is_same (with_scalar a (scalar_of b)) b)

-- the operators of two operands
abbrev pub binary_shape : BinaryOperator → Shape → Shape → Option Shape
binary_shape binary.Add a b = sum_of a b
binary_shape binary.Subtract a b = sum_of a b
binary_shape binary.Multiply a b = product_of a b
binary_shape binary.Divide a b = number_of_two a b
binary_shape binary.Modulo a b = number_of_two a b
binary_shape binary.Equal a b = compared true a b
binary_shape binary.NotEqual a b = compared true a b
binary_shape binary.Less a b = compared false a b
binary_shape binary.LessEqual a b = compared false a b
binary_shape binary.Greater a b = compared false a b
binary_shape binary.GreaterEqual a b = compared false a b
binary_shape binary.And a b = bits_of true a b
binary_shape binary.ExclusiveOr a b = bits_of false a b
binary_shape binary.InclusiveOr a b = bits_of true a b
binary_shape binary.LogicalAnd a b = logical_of a b
binary_shape binary.LogicalOr a b = logical_of a b
binary_shape binary.ShiftLeft a b = shifted a b
binary_shape binary.ShiftRight a b = shifted a b

abbrev pub binary_of : BinaryOperator → Arguments → Option Shape
binary_of operator (Two a b) = binary_shape operator a b
binary_of operator _ = None

-- Select: of two of one type, no matrices, by a bool or by a vector of as many bools: that type
abbrev pub selects : Shape → Shape → Bool
selects condition x = is_same condition (shape.Scalar bool_scalar) || is_same condition (bools_of x)

abbrev pub selected : Arguments → Option Shape
selected (Three condition accept reject) =
    if is_matrix accept || not (is_same accept reject) then None else own_of accept (selects condition accept)
selected _ = None

-- Derivative: of floats, no matrix: that type
abbrev pub derived : Arguments → Option Shape
derived (One x) = own_of x (is_float (scalar_of x).kind && not (is_matrix x))
derived _ = None

-- Relational: All and Any of bools a bool; IsNan and IsInf of floats as many bools
abbrev pub related_to : RelationalFunction → Shape → Option Shape
related_to relational.All x = own_of (shape.Scalar bool_scalar) (is_bool (scalar_of x).kind)
related_to relational.Any x = own_of (shape.Scalar bool_scalar) (is_bool (scalar_of x).kind)
related_to relational.IsNan x = own_of (bools_of x) (is_float (scalar_of x).kind)
related_to relational.IsInf x = own_of (bools_of x) (is_float (scalar_of x).kind)

abbrev pub related : RelationalFunction → Arguments → Option Shape
related function (One x) = if is_matrix x then None else related_to function x
related function _ = None

-- As: the scalar of the kind and the width that are given; a bitcast keeps the width
abbrev pub cast_scalar : Cast → Scalar → Scalar
cast_scalar cast s = record { kind = cast.kind; width = unwrap_or cast.convert s.width }

-- of numbers and bools to any kind, of a matrix to floats alone; a bitcast is of numbers to numbers, and no matrix
abbrev pub is_cast_to : ScalarKind → Option ℕ → Shape → Bool
is_cast_to k (Some width) x =
    (is_number (scalar_of x).kind || is_bool (scalar_of x).kind) && (not (is_matrix x) || is_float k)
is_cast_to k None x = is_number (scalar_of x).kind && (is_number k && not (is_matrix x))

abbrev pub is_cast : Cast → Shape → Bool
is_cast cast x = is_cast_to cast.kind cast.convert x

abbrev pub cast_of : Cast → Arguments → Option Shape
cast_of cast (One x) =
    let s = cast_scalar cast (scalar_of x) in
    own_of (with_scalar x s) (is_known s && is_cast cast x)
cast_of cast _ = None
