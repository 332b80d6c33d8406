-- The check list of ImageStore.
use Rattle.std.specs.Prelude.{ℕ, Bool, true, false, not, ◌||◌, List, [], ◌∷◌, ◌++◌, Option, None, Some, is_some, option_and_then}
use Rattle.ir_leaves.specs.Formats.{format_scalar}
use Rattle.ir_arena.specs.Points.{Point}
use Rattle.ir_types.specs.TypeTests.{is_same_inner}
use Rattle.ir_types.specs.Types.{inner_at}
use Rattle.ir_leaves.specs.declared.images.StorageFormat.{StorageFormat}
use Rattle.ir_types.specs.declared.types.Type.{«Type» as IrType}
use Rattle.ir_types.specs.declared.types.TypeInner.{TypeInner}
use Rattle.ir_types.specs.declared.types.TypeInner.TheVariants as inner
use Rattle.ir_leaves.specs.declared.scalars.VectorSize.TheVariants.{Quad}
use Rattle.ir_errors.specs.declared.expression.ExpressionError.{ExpressionError}
use Rattle.ir_errors.specs.declared.expression.ExpressionError.TheVariants as wrong
use Rattle.check_variables.specs.Globals.{element_of}
use Rattle.ir_errors.specs.declared.function.FunctionError.{FunctionError}
use Rattle.ir_errors.specs.declared.function.FunctionError.TheVariants.{InvalidImageStore, InvalidStoreValue}
use Rattle.naga_runs.specs.Visits.{VisitPlace}
use Rattle.check_scope.specs.Context.{Context}
use Rattle.check_scope.specs.ScopePoints.{Points, use_point}
use Rattle.check_scope.specs.ExpressionTypes.{type_at, named_type_at}
use Rattle.check_resources.specs.Image.{is_element_at, image_global_at, image_global, ImageShape, is_image, shape_of, is_storage_class, stored_format, is_coordinate, array_index_points}

abbrev pub is_binding_array : Context → ℕ → Bool
is_binding_array context ty = is_some (element_of (inner_at context.program.types ty))

-- the type of a global, or that of its elements
abbrev pub stored_type : List IrType → Bool → ℕ → Option TypeInner
stored_type types true ty = option_and_then (inner_at types) (element_of (inner_at types ty))
stored_type types false ty = inner_at types ty

-- the type of the image that is stored to, and the image
abbrev pub stored_type_at : Context → ℕ → Option TypeInner
stored_type_at context image =
    stored_type context.program.types (is_element_at context image) (image_global context image)

abbrev pub stored_shape : Context → ℕ → ImageShape
stored_shape context image = shape_of (stored_type_at context image)

-- what is stored in a texel of a format: four of its scalar
abbrev pub texel_type : StorageFormat → TypeInner
texel_type format = inner.Vector Quad (format_scalar format)

-- the conditions of a validation say that there is a type
abbrev pub is_of_type : TypeInner → Option TypeInner → Bool
is_of_type expected None = true
is_of_type expected (Some given) = is_same_inner given expected

-- a point whose fault stands inside InvalidImageStore
abbrev pub store_point : Bool → ExpressionError → Point FunctionError
store_point holds error = (holds, InvalidImageStore error)

-- ImageStore: its image, the texel, and the value
abbrev pub image_store_points : Context → VisitPlace → ℕ → ℕ → Option ℕ → ℕ → Points
image_store_points context place image coordinate array_index value =
    let global = image_global context image in
    let shape = stored_shape context image in
    let texel = texel_type (stored_format shape.class) in
    store_point (is_some (image_global_at context image)) wrong.ExpectedGlobalVariable
    ∷ store_point (not (is_element_at context image) || is_binding_array context global) (wrong.ExpectedBindingArrayType global)
    ∷ store_point (is_image (stored_type_at context image)) (wrong.ExpectedImageType global)
    ∷ store_point (is_storage_class shape.class) (wrong.InvalidImageClass shape.class)
    ∷ use_point place coordinate
    ∷ store_point (is_coordinate context shape.dim coordinate) (wrong.InvalidImageCoordinateType shape.dim coordinate)
    ∷ array_index_points InvalidImageStore context place shape.arrayed array_index
    ++ use_point place value
    ∷ (is_of_type texel (type_at context value), InvalidStoreValue value (named_type_at context value) texel)
    ∷ []
