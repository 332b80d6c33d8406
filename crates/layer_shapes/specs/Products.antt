-- The shapes of two numbers together, and of products; None where these don't fit each other.
use Rattle.std.specs.Prelude.{Bool, not, ◌&&◌, Option, None, Some, if◌then◌else◌}
use Rattle.ir_leaves.specs.contracts.scalars.VectorSizePartialEq.TheImpl as size
use Rattle.ir_leaves.specs.declared.scalars.Scalar.{Scalar}
use Rattle.ir_leaves.specs.declared.scalars.VectorSize.{VectorSize}
use Rattle.layer_types.specs.LeafInfos.{is_number}
use Rattle.layer_shapes.specs.declared.shapes.Shape.{Shape}
use Rattle.layer_shapes.specs.declared.shapes.Shape.TheVariants as shape
use Rattle.layer_shapes.specs.Shapes.{scalar_of, is_matrix, is_same, is_same_scalar}

-- this shape, where it fits
abbrev pub own_of : Shape → Bool → Option Shape
own_of x fits = if fits then Some x else None

abbrev pub is_same_size : VectorSize → VectorSize → Bool
is_same_size a b = (size.ghosts).eq a b

-- a vector and its own scalar, either side: the vector
abbrev pub mixed : Shape → Shape → Option Shape
mixed (shape.Vector n s) (shape.Scalar t) = own_of (shape.Vector n s) (is_same_scalar s t)
mixed (shape.Scalar t) (shape.Vector n s) = own_of (shape.Vector n s) (is_same_scalar s t)
mixed _ _ = None

-- two numbers of one type, no matrices: that type; or a vector of numbers and its own scalar
abbrev pub number_of_two : Shape → Shape → Option Shape
number_of_two a b =
    if is_number (scalar_of a).kind then (if not (is_matrix a) && is_same a b then Some a else mixed a b) else None

-- Multiply, with a matrix on the left: by its scalar the matrix, by a vector of its columns one of its rows, by a matrix of
-- as many rows as it has columns the matrix of those columns and its rows
abbrev pub matrix_product : VectorSize → VectorSize → Scalar → Shape → Option Shape
matrix_product c r s (shape.Scalar t) = own_of (shape.Matrix c r s) (is_same_scalar s t)
matrix_product c r s (shape.Vector n t) = own_of (shape.Vector r s) (is_same_size n c && is_same_scalar s t)
matrix_product c r s (shape.Matrix d k t) = own_of (shape.Matrix d r s) (is_same_size c k && is_same_scalar s t)

-- with a matrix on the right alone: of its scalar the matrix, of a vector of its rows one of its columns
abbrev pub product_by_matrix : Shape → VectorSize → VectorSize → Scalar → Option Shape
product_by_matrix (shape.Scalar t) c r s = own_of (shape.Matrix c r s) (is_same_scalar s t)
product_by_matrix (shape.Vector n t) c r s = own_of (shape.Vector c s) (is_same_size n r && is_same_scalar s t)
product_by_matrix (shape.Matrix d k t) c r s = None

-- and with none two numbers, or a vector and its own scalar
abbrev pub product_of : Shape → Shape → Option Shape
product_of (shape.Matrix c r s) b = matrix_product c r s b
product_of a (shape.Matrix c r s) = product_by_matrix a c r s
product_of a b = number_of_two a b
