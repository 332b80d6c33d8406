-- Images, samplers, and what goes with them: what samples, loads and queries share.
use Rattle.std.specs.Prelude.{ℕ, Bool, true, false, not, ◌==◌, ◌&&◌, List, Option, None, Some, slice_get}
use Rattle.ir_module.specs.declared.expressions.Expression.{Expression}
use Rattle.ir_module.specs.declared.expressions.Expression.TheVariants as e
use Rattle.ir_module.specs.Operands.{access_base}
use Rattle.ir_types.specs.declared.types.ImageClass.{ImageClass}
use Rattle.ir_types.specs.declared.types.ImageClass.TheVariants as class
use Rattle.ir_leaves.specs.declared.images.ImageDimension.{ImageDimension}
use Rattle.ir_leaves.specs.declared.images.ImageDimension.TheVariants.{D1, D2, D3, Cube}
use Rattle.ir_leaves.specs.declared.scalars.ScalarKind.{ScalarKind}
use Rattle.ir_leaves.specs.declared.scalars.ScalarKind.TheVariants as kind
use Rattle.ir_types.specs.declared.types.TypeInner.{TypeInner}
use Rattle.ir_types.specs.declared.types.TypeInner.TheVariants as inner
use Rattle.ir_leaves.specs.declared.scalars.VectorSize.TheVariants.{Bi, Tri}
use Rattle.layer_expressions.specs.declared.images.Image.{Image}
use Rattle.layer_shapes.specs.declared.shapes.Shape.{Shape}
use Rattle.layer_shapes.specs.declared.shapes.Shape.TheVariants as shape
use Rattle.layer_shapes.specs.Shapes.{scalar_of, is_integer}

-- the image that a type is
abbrev pub image_of : Option TypeInner → Option Image
image_of (Some (inner.Image dim arrayed class)) = Some (record { dim = dim; arrayed = arrayed; class = class })
image_of _ = None

-- whether the sampler that a type is compares
abbrev pub comparison_of : Option TypeInner → Option Bool
comparison_of (Some (inner.Sampler comparison)) = Some comparison
comparison_of _ = None

-- images and samplers come from globals and arguments, and from items of these
abbrev pub is_source : Expression → Bool
is_source (e.GlobalVariable g) = true
is_source (e.FunctionArgument n) = true
is_source _ = false

abbrev pub is_source_in : Option Expression → Bool
is_source_in None = false
is_source_in (Some x) = is_source x

abbrev pub is_source_at : List Expression → ℕ → Bool
is_source_at expressions h = is_source_in (slice_get expressions h)

abbrev pub is_resource_by : List Expression → Expression → Option ℕ → Bool
is_resource_by expressions x None = is_source x
is_resource_by expressions x (Some base) = is_source_at expressions base

abbrev pub is_resource_in : List Expression → Option Expression → Bool
is_resource_in expressions None = false
is_resource_in expressions (Some x) = is_resource_by expressions x (access_base x)

abbrev pub is_resource : List Expression → ℕ → Bool
is_resource expressions h = is_resource_in expressions (slice_get expressions h)

-- a coordinate is a scalar for one dimension, a vector of 2 for two, of 3 for three and for a cube
abbrev pub has_dimension : ImageDimension → Shape → Bool
has_dimension D1 (shape.Scalar s) = true
has_dimension D2 (shape.Vector Bi s) = true
has_dimension D3 (shape.Vector Tri s) = true
has_dimension Cube (shape.Vector Tri s) = true
has_dimension _ _ = false

-- made of floats of 4 bytes, of signed integers of 4 bytes
abbrev pub is_f32_of : ScalarKind → ℕ → Bool
is_f32_of kind.Float w = w == 4
is_f32_of _ w = false

abbrev pub is_f32 : Shape → Bool
is_f32 x = is_f32_of (scalar_of x).kind (scalar_of x).width

abbrev pub is_i32_of : ScalarKind → ℕ → Bool
is_i32_of kind.Sint w = w == 4
is_i32_of _ w = false

abbrev pub is_i32 : Shape → Bool
is_i32 x = is_i32_of (scalar_of x).kind (scalar_of x).width

-- a coordinate of floats; a float; a coordinate of integers, and an offset, which a cube has not; an integer
abbrev pub is_float_coordinate : ImageDimension → Option Shape → Bool
is_float_coordinate dim None = false
is_float_coordinate dim (Some x) = has_dimension dim x && is_f32 x

abbrev pub is_f32_scalar : Option Shape → Bool
is_f32_scalar (Some (shape.Scalar s)) = is_f32 (shape.Scalar s)
is_f32_scalar _ = false

abbrev pub is_integer_coordinate : ImageDimension → Option Shape → Bool
is_integer_coordinate Cube x = false
is_integer_coordinate dim None = false
is_integer_coordinate dim (Some x) = has_dimension dim x && is_integer (scalar_of x).kind

abbrev pub is_offset : ImageDimension → Option Shape → Bool
is_offset Cube x = false
is_offset dim None = false
is_offset dim (Some x) = has_dimension dim x && is_i32 x

abbrev pub is_integer_scalar : Option Shape → Bool
is_integer_scalar (Some (shape.Scalar s)) = is_integer s.kind
is_integer_scalar _ = false

-- whether images of a class have levels of detail, and whether they are multisampled
abbrev pub has_levels : ImageClass → Bool
has_levels (class.Sampled kind multi) = not multi
has_levels (class.Depth multi) = not multi
has_levels class.External = false
has_levels (class.Storage format access) = false

abbrev pub is_multisampled : ImageClass → Bool
is_multisampled (class.Sampled kind multi) = multi
is_multisampled (class.Depth multi) = multi
is_multisampled class.External = false
is_multisampled (class.Storage format access) = false
