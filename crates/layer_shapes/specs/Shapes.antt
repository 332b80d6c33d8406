-- Scalars, vectors and matrices: what operators and functions compute with.
use Rattle.std.specs.Prelude.{Bool, true, false, Option, None, Some}
use Rattle.ir_leaves.specs.contracts.scalars.ScalarPartialEq.TheImpl as scalar
use Rattle.ir_leaves.specs.declared.scalars.Scalar.{Scalar}
use Rattle.ir_leaves.specs.declared.scalars.ScalarKind.{ScalarKind}
use Rattle.ir_leaves.specs.declared.scalars.ScalarKind.TheVariants as kind
use Rattle.ir_types.specs.declared.types.TypeInner.{TypeInner}
use Rattle.ir_types.specs.declared.types.TypeInner.TheVariants as inner
use Rattle.ir_types.specs.declared.typifier.TypeResolution.{TypeResolution}
use Rattle.ir_types.specs.declared.typifier.TypeResolution.TheVariants.{Value}
use Rattle.layer_shapes.specs.contracts.shapes.ShapePartialEq.TheImpl as shapes
use Rattle.layer_shapes.specs.declared.shapes.Shape.{Shape}
use Rattle.layer_shapes.specs.declared.shapes.Shape.TheVariants as shape

-- the shape of a type, where it has one
abbrev pub shape_of : TypeInner → Option Shape
shape_of (inner.Scalar s) = Some (shape.Scalar s)
shape_of (inner.Vector n s) = Some (shape.Vector n s)
shape_of (inner.Matrix c r s) = Some (shape.Matrix c r s)
shape_of _ = None

-- the type of a value of a shape
abbrev pub inner_of : Shape → TypeInner
inner_of (shape.Scalar s) = inner.Scalar s
inner_of (shape.Vector n s) = inner.Vector n s
inner_of (shape.Matrix c r s) = inner.Matrix c r s

abbrev pub value_of : Shape → TypeResolution
value_of x = Value (inner_of x)

-- the scalar that a shape is made of
abbrev pub scalar_of : Shape → Scalar
scalar_of (shape.Scalar s) = s
scalar_of (shape.Vector n s) = s
scalar_of (shape.Matrix c r s) = s

-- the scalar of a kind, of 4 bytes
abbrev pub four_bytes : ScalarKind → Scalar
four_bytes k = record { kind = k; width = 4 }

-- the same shape of another scalar
abbrev pub with_scalar : Shape → Scalar → Shape
with_scalar (shape.Scalar s) t = shape.Scalar t
with_scalar (shape.Vector n s) t = shape.Vector n t
with_scalar (shape.Matrix c r s) t = shape.Matrix c r t

abbrev pub is_matrix : Shape → Bool
is_matrix (shape.Matrix c r s) = true
is_matrix _ = false

-- the same shape, and the same scalar
abbrev pub is_same : Shape → Shape → Bool
is_same a b = (shapes.ghosts).eq a b

abbrev pub is_same_scalar : Scalar → Scalar → Bool
is_same_scalar a b = (scalar.ghosts).eq a b

abbrev pub is_integer : ScalarKind → Bool
is_integer kind.Sint = true
is_integer kind.Uint = true
is_integer _ = false

-- numbers with a sign
abbrev pub is_signed : ScalarKind → Bool
is_signed kind.Sint = true
is_signed kind.Float = true
is_signed _ = false

abbrev pub is_float : ScalarKind → Bool
is_float kind.Float = true
is_float _ = false

abbrev pub is_bool : ScalarKind → Bool
is_bool kind.Bool = true
is_bool _ = false
