-- What the check lists of ImageStore and ImageAtomic share: the image and the texel.
use Rattle.std.specs.Prelude.{ℕ, Bool, true, false, not, [], ◌∷◌, Option, None, Some, is_some, slice_get, option_and_then, unwrap_or}
use Rattle.std.specs.Option.{option_map}
use Rattle.ir_flags.specs.Bits.{NO_ACCESS}
use Rattle.ir_types.specs.Types.{image_coordinates_of}
use Rattle.ir_leaves.specs.contracts.images.ImageDimensionPartialEq.TheImpl as dimension
use Rattle.ir_module.specs.declared.expressions.Expression.{Expression}
use Rattle.ir_module.specs.declared.expressions.Expression.TheVariants as e
use Rattle.ir_flags.specs.declared.ir.StorageAccess.{StorageAccess}
use Rattle.ir_types.specs.declared.types.ImageClass.{ImageClass}
use Rattle.ir_types.specs.declared.types.ImageClass.TheVariants as class
use Rattle.ir_leaves.specs.declared.images.ImageDimension.{ImageDimension}
use Rattle.ir_leaves.specs.declared.images.ImageDimension.TheVariants.{D1}
use Rattle.ir_leaves.specs.declared.images.StorageFormat.{StorageFormat}
use Rattle.ir_leaves.specs.declared.images.StorageFormat.TheVariants.{R8Unorm}
use Rattle.ir_types.specs.declared.types.TypeInner.{TypeInner}
use Rattle.ir_types.specs.declared.types.TypeInner.TheVariants as inner
use Rattle.ir_errors.specs.declared.expression.ExpressionError.{ExpressionError}
use Rattle.ir_errors.specs.declared.expression.ExpressionError.TheVariants as wrong
use Rattle.ir_errors.specs.declared.function.FunctionError.{FunctionError}
use Rattle.naga_runs.specs.Visits.{VisitPlace}
use Rattle.check_scope.specs.Context.{Context}
use Rattle.check_scope.specs.ScopePoints.{Points, use_point}
use Rattle.check_scope.specs.Roots.{access_base_in}
use Rattle.check_scope.specs.ExpressionTypes.{is_integer_kind, expression_at, type_at}

-- the type that the global is declared with which an expression is
abbrev pub global_type_of : Context → Option Expression → Option ℕ
global_type_of context (Some (e.GlobalVariable g)) = option_map (λ v. v.ty) (slice_get context.program.global_variables g)
global_type_of context _ = None

abbrev pub global_type_at : Context → ℕ → Option ℕ
global_type_at context h = global_type_of context (expression_at context h)

-- whether an image is an element of what a global is
abbrev pub is_element_at : Context → ℕ → Bool
is_element_at context image = is_some (access_base_in (expression_at context image))

abbrev pub global_type_behind : Context → ℕ → Option ℕ → Option ℕ
global_type_behind context image None = global_type_at context image
global_type_behind context image (Some base) = global_type_at context base

-- and of the global which an image is, or of which it is an element
abbrev pub image_global_at : Context → ℕ → Option ℕ
image_global_at context image = global_type_behind context image (access_base_in (expression_at context image))

-- the same, where there is such a global
abbrev pub image_global : Context → ℕ → ℕ
image_global context image = unwrap_or (image_global_at context image) 0

-- an image, as its type has it
pub record ImageShape : Type 0 where
  pub dim : ImageDimension
  pub arrayed : Bool
  pub class : ImageClass

abbrev pub is_image : Option TypeInner → Bool
is_image (Some (inner.Image dim arrayed class)) = true
is_image _ = false

-- the image that a type is; anything where it is none
abbrev pub shape_of : Option TypeInner → ImageShape
shape_of (Some (inner.Image dim arrayed class)) = record { dim = dim; arrayed = arrayed; class = class }
shape_of _ = record { dim = D1; arrayed = false; class = class.External }

abbrev pub is_storage_class : ImageClass → Bool
is_storage_class (class.Storage format access) = true
is_storage_class _ = false

-- how the texels of a storage image are stored; anything where it is none
abbrev pub stored_format : ImageClass → StorageFormat
stored_format (class.Storage format access) = format
stored_format _ = R8Unorm

abbrev pub stored_access : ImageClass → StorageAccess
stored_access (class.Storage format access) = access
stored_access _ = NO_ACCESS

-- the dimension that a coordinate is of
abbrev pub coordinates_at : Context → ℕ → Option ImageDimension
coordinates_at context coordinate = option_and_then image_coordinates_of (type_at context coordinate)

abbrev pub is_dimension : ImageDimension → Option ImageDimension → Bool
is_dimension dim None = false
is_dimension dim (Some given) = (dimension.ghosts).eq given dim

-- whether a coordinate is of this dimension
abbrev pub is_coordinate : Context → ImageDimension → ℕ → Bool
is_coordinate context dim coordinate = is_dimension dim (coordinates_at context coordinate)

-- an integer of any width, and no vector
abbrev pub is_integer_scalar : Option TypeInner → Bool
is_integer_scalar (Some (inner.Scalar s)) = is_integer_kind (Some s.kind)
is_integer_scalar _ = false

-- the array index: there where the image is arrayed, put by every run, and an integer. Its faults stand inside the statement's
abbrev pub array_index_points : (ExpressionError → FunctionError) → Context → VisitPlace → Bool → Option ℕ → Points
array_index_points inside context place arrayed None = (not arrayed, inside wrong.InvalidImageArrayIndex) ∷ []
array_index_points inside context place arrayed (Some h) =
    (arrayed, inside wrong.InvalidImageArrayIndex)
    ∷ use_point place h
    ∷ (is_integer_scalar (type_at context h), inside (wrong.InvalidImageArrayIndexType h))
    ∷ []
