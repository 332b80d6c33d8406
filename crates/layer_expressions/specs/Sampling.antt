-- The types of image samples.
use Rattle.std.specs.Prelude.{ℕ, Bool, true, false, not, ◌+◌, ◌==◌, ◌&&◌, ◌||◌, List, [], ◌∷◌, Option, None, Some, Result, Err, length, slice_get, is_some, is_none, if◌then◌else◌, option_and_then}
use Rattle.ir_arena.specs.Points.{Point, first_fault, answer}
use Rattle.ir_module.specs.declared.expressions.Expression.{Expression}
use Rattle.ir_types.specs.declared.types.ImageClass.{ImageClass}
use Rattle.ir_types.specs.declared.types.ImageClass.TheVariants as class
use Rattle.ir_leaves.specs.declared.images.ImageDimension.{ImageDimension}
use Rattle.ir_leaves.specs.declared.images.ImageDimension.TheVariants.{D1, D2, D3, Cube}
use Rattle.ir_leaves.specs.declared.scalars.ScalarKind.{ScalarKind}
use Rattle.ir_leaves.specs.declared.scalars.ScalarKind.TheVariants as kind
use Rattle.ir_types.specs.declared.types.Type.{«Type» as IrType}
use Rattle.ir_leaves.specs.declared.scalars.VectorSize.TheVariants.{Quad}
use Rattle.ir_types.specs.declared.typifier.TypeResolution.{TypeResolution}
use Rattle.layer_forms.specs.declared.images.LevelKind.{LevelKind}
use Rattle.layer_forms.specs.declared.images.LevelKind.TheVariants as level
use Rattle.layer_forms.specs.declared.images.SampleForm.{SampleForm}
use Rattle.layer_forms.specs.ImageForms.{sampling_of}
use Rattle.layer_expressions.specs.declared.images.Image.{Image}
use Rattle.layer_expressions.specs.declared.rules.Rule.{Rule}
use Rattle.layer_expressions.specs.declared.rules.Rule.TheVariants as rule
use Rattle.layer_expressions.specs.declared.sampling.Sampled.{Sampled}
use Rattle.layer_shapes.specs.declared.shapes.Shape.{Shape}
use Rattle.layer_shapes.specs.declared.shapes.Shape.TheVariants as shape
use Rattle.layer_expressions.specs.Images.{image_of, comparison_of, is_resource, is_float_coordinate, is_f32_scalar, is_offset, is_integer_scalar}
use Rattle.layer_expressions.specs.OperandTypes.{type_of_operand, shape_of_operand}
use Rattle.layer_shapes.specs.Shapes.{four_bytes, is_float}

-- how many operands there are: image, sampler and coordinate, then array index and offset where they are there, those of the
-- level, and the depth reference where it is there
abbrev pub ones : Bool → ℕ
ones true = 1
ones false = 0

abbrev pub level_count : LevelKind → ℕ
level_count level.Auto = 0
level_count level.Zero = 0
level_count level.Exact = 1
level_count level.Bias = 1
level_count level.Gradient = 2

abbrev pub before_level : SampleForm → ℕ
before_level form = 3 + ones form.has_array_index + ones form.has_offset

abbrev pub before_depth : SampleForm → ℕ
before_depth form = before_level form + level_count form.level

-- levels that have an operand, and the one that has two
abbrev pub has_level : LevelKind → Bool
has_level level.Auto = false
has_level level.Zero = false
has_level level.Exact = true
has_level level.Bias = true
has_level level.Gradient = true

abbrev pub has_gradients : LevelKind → Bool
has_gradients level.Gradient = true
has_gradients _ = false

-- the operands by their places
abbrev pub shape_if : List IrType → List TypeResolution → List ℕ → Bool → ℕ → Option Shape
shape_if types earlier hs is_there place =
    if is_there then option_and_then (shape_of_operand types earlier) (slice_get hs place) else None

abbrev pub comparison_at : List IrType → List TypeResolution → Option ℕ → Option Bool
comparison_at types earlier None = None
comparison_at types earlier (Some h) = comparison_of (type_of_operand types earlier h)

abbrev pub comparison_among : List IrType → List TypeResolution → List ℕ → Option Bool
comparison_among types earlier hs = comparison_at types earlier (slice_get hs 1)

abbrev pub sampled_of : List IrType → List TypeResolution → SampleForm → List ℕ → Sampled
sampled_of types earlier form hs =
    record {
      comparison = comparison_among types earlier hs;
      coordinate = shape_if types earlier hs true 2;
      array_index = shape_if types earlier hs form.has_array_index 3;
      offset = shape_if types earlier hs form.has_offset (3 + ones form.has_array_index);
      level = shape_if types earlier hs (has_level form.level) (before_level form);
      second_gradient = shape_if types earlier hs (has_gradients form.level) (before_level form + 1);
      depth_ref = shape_if types earlier hs form.has_depth_ref (before_depth form);
    }

-- the classes: images of floats, and gathered of any numbers; of depths; external images are clamped to the edge, depths
-- are not. None is multisampled, and a depth reference asks for depths
abbrev pub takes_class : SampleForm → ImageClass → Bool
takes_class form (class.Sampled kind multi) = not multi && not form.has_depth_ref && (is_some form.gather || is_float kind)
takes_class form (class.Depth multi) = not multi && not form.clamp_to_edge
takes_class form class.External = form.clamp_to_edge && not form.has_depth_ref
takes_class form (class.Storage format access) = false

abbrev pub can_be_gathered : ImageDimension → Bool
can_be_gathered D2 = true
can_be_gathered Cube = true
can_be_gathered D1 = false
can_be_gathered D3 = false

abbrev pub can_be_clamped : ImageDimension → Bool
can_be_clamped D2 = true
can_be_clamped _ = false

-- the dimensions: a gather is of two or of a cube; clamping is of two alone, not arrayed, without offset and gather
abbrev pub takes_dimension : SampleForm → Image → Bool
takes_dimension form image =
    (is_none form.gather || can_be_gathered image.dim)
    && (not form.clamp_to_edge || (can_be_clamped image.dim && not image.arrayed && not form.has_offset && is_none form.gather))

abbrev pub is_zero : LevelKind → Bool
is_zero level.Zero = true
is_zero _ = false

abbrev pub is_depth : ImageClass → Bool
is_depth (class.Depth multi) = true
is_depth _ = false

-- an exact level is an integer for depths, else a float; a bias is a float; gradients are as the coordinate. The last two
-- are not for depths
abbrev pub takes_exact : ImageClass → Option Shape → Bool
takes_exact class x = if is_depth class then is_integer_scalar x else is_f32_scalar x

abbrev pub takes_level : LevelKind → Image → Sampled → Bool
takes_level level.Auto image sampled = true
takes_level level.Zero image sampled = true
takes_level level.Exact image sampled = takes_exact image.class sampled.level
takes_level level.Bias image sampled = not (is_depth image.class) && is_f32_scalar sampled.level
takes_level level.Gradient image sampled =
    not (is_depth image.class) && is_float_coordinate image.dim sampled.level
    && is_float_coordinate image.dim sampled.second_gradient

-- a gather and clamping ask for level zero, a depth reference for it or the automatic one
abbrev pub fits_level : SampleForm → Bool
fits_level form =
    (not (is_some form.gather || form.clamp_to_edge) || is_zero form.level)
    && (not form.has_depth_ref || not (has_level form.level))

-- a sampler compares exactly where there is a depth reference
abbrev pub takes_sampler : SampleForm → Option Bool → Bool
takes_sampler form None = false
takes_sampler form (Some comparison) = if form.has_depth_ref then comparison else not comparison

-- an operand is there exactly where it is asked for, an integer
abbrev pub takes_integer : Bool → Bool → Option Shape → Bool
takes_integer true is_there operand = is_there && is_integer_scalar operand
takes_integer false is_there operand = not is_there

-- the rules of a sample, in order
abbrev pub sample_points : SampleForm → Image → Sampled → List (Point Rule)
sample_points form image sampled =
    (takes_class form image.class && takes_dimension form image, rule.Image)
    ∷ (takes_sampler form sampled.comparison, rule.Sampler)
    ∷ (is_float_coordinate image.dim sampled.coordinate, rule.Coordinate)
    ∷ (takes_integer image.arrayed form.has_array_index sampled.array_index, rule.ArrayIndex)
    ∷ (not form.has_offset || is_offset image.dim sampled.offset, rule.Offset)
    ∷ (fits_level form && takes_level form.level image sampled, rule.Level)
    ∷ (not form.has_depth_ref || is_f32_scalar sampled.depth_ref, rule.DepthReference)
    ∷ []

-- four of a kind, of 4 bytes
abbrev pub four_of : ScalarKind → Shape
four_of k = shape.Vector Quad (four_bytes k)

-- what a sample gives: four of the image's kind; of depths one float, gathered four
abbrev pub sample_shape : ImageClass → Bool → Shape
sample_shape (class.Sampled kind multi) gathers = four_of kind
sample_shape (class.Depth multi) true = four_of kind.Float
sample_shape (class.Depth multi) false = shape.Scalar (four_bytes kind.Float)
sample_shape class.External gathers = four_of kind.Float
sample_shape (class.Storage format access) gathers = four_of kind.Float

-- image and sampler come from globals, arguments or binding arrays
abbrev pub are_resources : List Expression → List ℕ → Bool
are_resources expressions (image ∷ sampler ∷ hs) = is_resource expressions image && is_resource expressions sampler
are_resources expressions _ = false

abbrev pub image_at : List IrType → List TypeResolution → Option ℕ → Option Image
image_at types earlier None = None
image_at types earlier (Some h) = image_of (type_of_operand types earlier h)

abbrev pub image_among : List IrType → List TypeResolution → List ℕ → Option Image
image_among types earlier hs = image_at types earlier (slice_get hs 0)

-- a sample of the image, where it breaks no rule
abbrev pub sample_of_image : List IrType → List TypeResolution → SampleForm → List ℕ → Option Image → Result Shape Rule
sample_of_image types earlier form hs None = Err rule.Image
sample_of_image types earlier form hs (Some image) =
    answer (first_fault (sample_points form image (sampled_of types earlier form hs)))
    (sample_shape image.class (is_some form.gather))

-- with as many operands as the form says
abbrev pub sample_as : List IrType → List Expression → List TypeResolution → List ℕ → Option SampleForm → Result Shape Rule
sample_as types expressions earlier hs None = Err rule.Detail
sample_as types expressions earlier hs (Some form) =
    if length hs == before_depth form + ones form.has_depth_ref
    then (if are_resources expressions hs
    then sample_of_image types earlier form hs (image_among types earlier hs)
    else Err rule.Image)
    else Err rule.Detail

-- ImageSample
abbrev pub sample_type : List IrType → List Expression → List TypeResolution → List ℕ → ℕ → Result Shape Rule
sample_type types expressions earlier hs detail = sample_as types expressions earlier hs (sampling_of detail)
