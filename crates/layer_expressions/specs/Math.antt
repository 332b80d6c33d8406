-- The shapes that the functions of Math give, by what each takes; None where it doesn't take its arguments.
use Rattle.std.specs.Prelude.{ℕ, Bool, true, false, not, ◌==◌, ◌&&◌, ◌||◌, Option, None, Some, if◌then◌else◌, option_and_then}
use Rattle.ir_leaves.specs.declared.scalars.ScalarKind.{ScalarKind}
use Rattle.ir_leaves.specs.declared.scalars.ScalarKind.TheVariants as kind
use Rattle.ir_leaves.specs.declared.scalars.VectorSize.{VectorSize}
use Rattle.ir_leaves.specs.declared.scalars.VectorSize.TheVariants.{Tri}
use Rattle.layer_forms.specs.declared.math.MathClass.{MathClass}
use Rattle.layer_forms.specs.declared.math.MathClass.TheVariants as class
use Rattle.layer_types.specs.LeafInfos.{is_number}
use Rattle.layer_expressions.specs.declared.operands.Arguments.{Arguments}
use Rattle.layer_expressions.specs.declared.operands.Arguments.TheVariants.{One, Two, Three, Four}
use Rattle.layer_shapes.specs.declared.shapes.Shape.{Shape}
use Rattle.layer_shapes.specs.declared.shapes.Shape.TheVariants as shape
use Rattle.layer_shapes.specs.Products.{own_of, is_same_size}
use Rattle.layer_shapes.specs.Shapes.{scalar_of, four_bytes, with_scalar, is_matrix, is_same, is_same_scalar, is_integer, is_signed, is_float}

-- so many of one type, which is given
abbrev pub alike : ℕ → Arguments → Option Shape
alike n (One a) = own_of a (n == 1)
alike n (Two a b) = own_of a (n == 2 && is_same a b)
alike n (Three a b c) = own_of a (n == 3 && (is_same a b && is_same a c))
alike n (Four a b c d) = None

-- scalars and vectors of numbers, of numbers with a sign, of floats, of integers
abbrev pub are_numbers : Shape → Bool
are_numbers x = is_number (scalar_of x).kind && not (is_matrix x)

abbrev pub are_signed : Shape → Bool
are_signed x = is_signed (scalar_of x).kind && not (is_matrix x)

abbrev pub are_floats : Shape → Bool
are_floats x = is_float (scalar_of x).kind && not (is_matrix x)

abbrev pub are_integers : Shape → Bool
are_integers x = is_integer (scalar_of x).kind && not (is_matrix x)

abbrev pub is_vector : Shape → Bool
is_vector (shape.Vector n s) = true
is_vector _ = false

abbrev pub has_three : Shape → Bool
has_three (shape.Vector Tri s) = true
has_three _ = false

abbrev pub is_sint : ScalarKind → Bool
is_sint kind.Sint = true
is_sint _ = false

abbrev pub is_u32 : Shape → Bool
is_u32 x = is_same x (shape.Scalar (four_bytes kind.Uint))

-- so many numbers of one type: that type; the same of numbers with a sign, of floats, of vectors of floats
abbrev pub numbers_of : ℕ → Arguments → Option Shape
numbers_of n given = option_and_then (λ x. own_of x (are_numbers x)) (alike n given)

abbrev pub signed_of : Arguments → Option Shape
signed_of given = option_and_then (λ x. own_of x (are_signed x)) (alike 1 given)

abbrev pub floats_of : ℕ → Arguments → Option Shape
floats_of n given = option_and_then (λ x. own_of x (are_floats x)) (alike n given)

abbrev pub float_vectors_of : ℕ → Arguments → Option Shape
float_vectors_of n given = option_and_then (λ x. own_of x (is_vector x && are_floats x)) (alike n given)

-- so many floats of one type: their scalar
abbrev pub distance_of : ℕ → Arguments → Option Shape
distance_of n given = option_and_then (λ x. Some (shape.Scalar (scalar_of x))) (floats_of n given)

-- two vectors of numbers: their scalar
abbrev pub dot_of : Arguments → Option Shape
dot_of given = option_and_then (λ x. own_of (shape.Scalar (scalar_of x)) (is_vector x)) (numbers_of 2 given)

-- two vectors of three floats: that type
abbrev pub cross_of : Arguments → Option Shape
cross_of given = option_and_then (λ x. own_of x (has_three x)) (floats_of 2 given)

-- two vectors of floats and their scalar: the vector
abbrev pub refracted : Arguments → Option Shape
refracted (Three a b c) =
    if not (is_vector a) || not (are_floats a) then None
    else own_of a (is_same a b && is_same c (shape.Scalar (scalar_of a)))
refracted _ = None

-- floats of one type, the third also their scalar: that type
abbrev pub mix_of : Arguments → Option Shape
mix_of (Three a b c) =
    if not (are_floats a) || not (is_same a b) then None
    else own_of a (is_same a c || is_same c (shape.Scalar (scalar_of a)))
mix_of _ = None

-- floats and as many signed integers: the floats
abbrev pub ldexp_of : Arguments → Option Shape
ldexp_of (Two a b) =
    if not (are_floats a) then None else own_of a (is_sint (scalar_of b).kind && is_same (with_scalar a (scalar_of b)) b)
ldexp_of _ = None

-- two numbers of 32 bits: a scalar of a kind, of 4 bytes
abbrev pub packed_dot_of : ScalarKind → Arguments → Option Shape
packed_dot_of k (Two a b) = own_of (shape.Scalar (four_bytes k)) (is_u32 a && is_u32 b)
packed_dot_of k _ = None

-- a matrix: the matrix of so many rows as it has columns, and the other way round
abbrev pub transposed : Arguments → Option Shape
transposed (One (shape.Matrix c r s)) = Some (shape.Matrix r c s)
transposed _ = None

-- a square matrix: its scalar
abbrev pub determinant_of : Arguments → Option Shape
determinant_of (One (shape.Matrix c r s)) = own_of (shape.Scalar s) (is_same_size c r)
determinant_of _ = None

-- floats of 4 bytes: that type
abbrev pub quantized : Arguments → Option Shape
quantized given = option_and_then (λ x. own_of x (is_same_scalar (scalar_of x) (four_bytes kind.Float))) (floats_of 1 given)

-- integers: that type
abbrev pub integers_of : Arguments → Option Shape
integers_of given = option_and_then (λ x. own_of x (are_integers x)) (alike 1 given)

-- integers, an offset and a count of 32 bits: the integers
abbrev pub extracted : Arguments → Option Shape
extracted (Three a b c) = own_of a (are_integers a && (is_u32 b && is_u32 c))
extracted _ = None

-- two of the same integers, an offset and a count: the integers
abbrev pub inserted : Arguments → Option Shape
inserted (Four a b c d) =
    if not (are_integers a) || not (is_same a b) then None else own_of a (is_u32 c && is_u32 d)
inserted _ = None

-- a vector of this size and kind, of 4 bytes: a number of 32 bits; and the other way round
abbrev pub packed : VectorSize → ScalarKind → Arguments → Option Shape
packed n k (One a) = own_of (shape.Scalar (four_bytes kind.Uint)) (is_same a (shape.Vector n (four_bytes k)))
packed n k _ = None

abbrev pub unpacked : VectorSize → ScalarKind → Arguments → Option Shape
unpacked n k (One a) = own_of (shape.Vector n (four_bytes k)) (is_u32 a)
unpacked n k _ = None

-- what a function of a class gives; the functions that give a struct have no type here
abbrev pub math_of : MathClass → Arguments → Option Shape
math_of (class.Numbers n) given = numbers_of n given
math_of class.Signed given = signed_of given
math_of (class.Floats n) given = floats_of n given
math_of (class.FloatVectors n) given = float_vectors_of n given
math_of (class.Distance n) given = distance_of n given
math_of class.Dot given = dot_of given
math_of class.Cross given = cross_of given
math_of class.Refract given = refracted given
math_of class.Mix given = mix_of given
math_of class.Ldexp given = ldexp_of given
math_of class.Split given = None
math_of (class.PackedDot k) given = packed_dot_of k given
math_of class.Transpose given = transposed given
math_of class.Determinant given = determinant_of given
math_of class.Quantize given = quantized given
math_of class.Bits given = integers_of given
math_of class.ExtractBits given = extracted given
math_of class.InsertBits given = inserted given
math_of (class.Pack n k) given = packed n k given
math_of (class.Unpack n k) given = unpacked n k given
