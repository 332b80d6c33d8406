-- The types of image loads and image queries.
use Rattle.std.specs.Prelude.{ℕ, Bool, true, false, ◌+◌, ◌==◌, ◌&&◌, List, [], ◌∷◌, Option, None, Some, Result, Err, length, slice_get, if◌then◌else◌}
use Rattle.ir_arena.specs.Points.{Point, first_fault, answer}
use Rattle.ir_flags.specs.Bits.{contains, LOAD}
use Rattle.ir_module.specs.declared.expressions.Expression.{Expression}
use Rattle.ir_leaves.specs.Formats.{format_scalar}
use Rattle.ir_types.specs.declared.types.ImageClass.{ImageClass}
use Rattle.ir_types.specs.declared.types.ImageClass.TheVariants as class
use Rattle.ir_leaves.specs.declared.images.ImageDimension.{ImageDimension}
use Rattle.ir_leaves.specs.declared.images.ImageDimension.TheVariants.{D1, D2, D3, Cube}
use Rattle.ir_leaves.specs.declared.scalars.ScalarKind.TheVariants as kind
use Rattle.ir_types.specs.declared.types.Type.{«Type» as IrType}
use Rattle.ir_leaves.specs.declared.scalars.VectorSize.TheVariants.{Bi, Tri, Quad}
use Rattle.ir_types.specs.declared.typifier.TypeResolution.{TypeResolution}
use Rattle.layer_forms.specs.declared.images.ImageQuery.{ImageQuery}
use Rattle.layer_forms.specs.declared.images.ImageQuery.TheVariants as query
use Rattle.layer_forms.specs.declared.images.Loading.{Loading}
use Rattle.layer_forms.specs.ImageForms.{load_of, queries}
use Rattle.layer_expressions.specs.declared.images.Image.{Image}
use Rattle.layer_expressions.specs.declared.loading.Loaded.{Loaded}
use Rattle.layer_expressions.specs.declared.rules.Rule.{Rule}
use Rattle.layer_expressions.specs.declared.rules.Rule.TheVariants as rule
use Rattle.layer_shapes.specs.declared.shapes.Shape.{Shape}
use Rattle.layer_shapes.specs.declared.shapes.Shape.TheVariants as shape
use Rattle.layer_expressions.specs.Images.{is_resource, is_integer_coordinate, is_integer_scalar, has_levels, is_multisampled}
use Rattle.layer_expressions.specs.RuleNumbers.{or_broken}
use Rattle.layer_expressions.specs.Sampling.{ones, shape_if, takes_integer, four_of, image_among}
use Rattle.layer_shapes.specs.Shapes.{four_bytes}

-- the operands of a load: image and coordinate; then array index, sample and level, where they are there
abbrev pub before_level : Loading → ℕ
before_level form = 2 + ones form.has_array_index + ones form.has_sample

abbrev pub loaded_of : List IrType → List TypeResolution → Loading → List ℕ → Loaded
loaded_of types earlier form hs =
    record {
      coordinate = shape_if types earlier hs true 1;
      array_index = shape_if types earlier hs form.has_array_index 2;
      sample = shape_if types earlier hs form.has_sample (2 + ones form.has_array_index);
      level = shape_if types earlier hs form.has_level (before_level form);
    }

-- storage images are loaded where their access allows it, all others are
abbrev pub is_readable : ImageClass → Bool
is_readable (class.Storage format access) = contains access.0 LOAD.0
is_readable (class.Sampled kind multi) = true
is_readable (class.Depth multi) = true
is_readable class.External = true

-- the rules of a load, in order: there is a sample exactly where the image is multisampled, a level where it has levels
abbrev pub load_points : Loading → Image → Loaded → List (Point Rule)
load_points form image loaded =
    (is_readable image.class, rule.Image)
    ∷ (is_integer_coordinate image.dim loaded.coordinate, rule.Coordinate)
    ∷ (takes_integer image.arrayed form.has_array_index loaded.array_index, rule.ArrayIndex)
    ∷ (takes_integer (is_multisampled image.class) form.has_sample loaded.sample, rule.Sample)
    ∷ (takes_integer (has_levels image.class) form.has_level loaded.level, rule.Level)
    ∷ []

-- what a load gives: four of the image's kind, of its format's scalar; of depths one float
abbrev pub load_shape : ImageClass → Shape
load_shape (class.Sampled kind multi) = four_of kind
load_shape (class.Depth multi) = shape.Scalar (four_bytes kind.Float)
load_shape class.External = four_of kind.Float
load_shape (class.Storage format access) = shape.Vector Quad (format_scalar format)

abbrev pub is_resource_at : List Expression → Option ℕ → Bool
is_resource_at expressions None = false
is_resource_at expressions (Some h) = is_resource expressions h

abbrev pub is_resource_first : List Expression → List ℕ → Bool
is_resource_first expressions hs = is_resource_at expressions (slice_get hs 0)

-- a load of the image, where it breaks no rule
abbrev pub load_of_image : List IrType → List TypeResolution → Loading → List ℕ → Option Image → Result Shape Rule
load_of_image types earlier form hs None = Err rule.Image
load_of_image types earlier form hs (Some image) =
    answer (first_fault (load_points form image (loaded_of types earlier form hs))) (load_shape image.class)

abbrev pub load_as : List IrType → List Expression → List TypeResolution → List ℕ → Option Loading → Result Shape Rule
load_as types expressions earlier hs None = Err rule.Detail
load_as types expressions earlier hs (Some form) =
    if length hs == before_level form + ones form.has_level
    then (if is_resource_first expressions hs
    then load_of_image types earlier form hs (image_among types earlier hs)
    else Err rule.Image)
    else Err rule.Detail

-- ImageLoad
abbrev pub load_type : List IrType → List Expression → List TypeResolution → List ℕ → ℕ → Result Shape Rule
load_type types expressions earlier hs detail = load_as types expressions earlier hs (load_of detail)

-- sizes: one number, two of planes and cubes, three
abbrev pub size_shape : ImageDimension → Shape
size_shape D1 = shape.Scalar (four_bytes kind.Uint)
size_shape D2 = shape.Vector Bi (four_bytes kind.Uint)
size_shape Cube = shape.Vector Bi (four_bytes kind.Uint)
size_shape D3 = shape.Vector Tri (four_bytes kind.Uint)

abbrev pub query_shape : ImageQuery → ImageDimension → Shape
query_shape query.Size dim = size_shape dim
query_shape query.NumLevels dim = shape.Scalar (four_bytes kind.Uint)
query_shape query.NumLayers dim = shape.Scalar (four_bytes kind.Uint)
query_shape query.NumSamples dim = shape.Scalar (four_bytes kind.Uint)

-- the number of levels, layers and samples is asked of images that have them
abbrev pub can_be_asked : ImageQuery → Image → Bool
can_be_asked query.Size image = true
can_be_asked query.NumLevels image = has_levels image.class
can_be_asked query.NumLayers image = image.arrayed
can_be_asked query.NumSamples image = is_multisampled image.class

abbrev pub queried : ImageQuery → Image → Option Shape
queried q image = if can_be_asked q image then Some (query_shape q image.dim) else None

abbrev pub is_size : ImageQuery → Bool
is_size query.Size = true
is_size _ = false

-- one operand, the image; or two, where the size of a level is asked
abbrev pub takes_query_level : List IrType → List TypeResolution → ImageQuery → Image → List ℕ → Bool
takes_query_level types earlier q image hs =
    if length hs == 1 then true
    else (is_size q && has_levels image.class && is_integer_scalar (shape_if types earlier hs (length hs == 2) 1))

abbrev pub query_of_image : List IrType → List TypeResolution → ImageQuery → List ℕ → Option Image → Result Shape Rule
query_of_image types earlier q hs None = Err rule.Image
query_of_image types earlier q hs (Some image) =
    if takes_query_level types earlier q image hs then or_broken rule.Image (queried q image) else Err rule.Level

abbrev pub query_as : List IrType → List Expression → List TypeResolution → List ℕ → Option ImageQuery → Result Shape Rule
query_as types expressions earlier hs None = Err rule.Detail
query_as types expressions earlier hs (Some q) =
    if is_resource_first expressions hs then query_of_image types earlier q hs (image_among types earlier hs) else Err rule.Image

-- ImageQuery
abbrev pub query_type : List IrType → List Expression → List TypeResolution → List ℕ → ℕ → Result Shape Rule
query_type types expressions earlier hs detail = query_as types expressions earlier hs (slice_get queries detail)
