-- Parts of the check lists of images, as the code checks them: work of lemmas, cited by functions that the validator alone calls.
use Rattle.std.specs.Prelude.{ℕ, Bool, not, ◌||◌, [], ◌∷◌, ◌++◌, Option, is_some}
use Rattle.ir_leaves.specs.Formats.{format_scalar}
use Rattle.ir_types.specs.TypeTests.{is_scalar}
use Rattle.ir_statements.specs.declared.operations.AtomicFunction.{AtomicFunction}
use Rattle.ir_types.specs.declared.types.ImageClass.{ImageClass}
use Rattle.ir_leaves.specs.declared.images.ImageDimension.{ImageDimension}
use Rattle.ir_leaves.specs.declared.images.StorageFormat.{StorageFormat}
use Rattle.ir_errors.specs.declared.expression.ExpressionError.{ExpressionError}
use Rattle.ir_errors.specs.declared.expression.ExpressionError.TheVariants as wrong
use Rattle.ir_errors.specs.declared.function.FunctionError.{FunctionError}
use Rattle.ir_errors.specs.declared.function.FunctionError.TheVariants.{InvalidImageAtomic, InvalidImageStore, InvalidImageAtomicValue, InvalidStoreValue}
use Rattle.naga_runs.specs.Visits.{VisitPlace}
use Rattle.check_scope.specs.Context.{Context}
use Rattle.check_resources.specs.ImageAtomic.{change_point, takes_atomics, format_points}
use Rattle.check_resources.specs.Image.{is_element_at, image_global_at, image_global, is_image, is_storage_class, stored_format, stored_access, is_coordinate, array_index_points}
use Rattle.check_resources.specs.ImageStore.{is_binding_array, stored_type_at, stored_shape, texel_type, is_of_type, store_point}
use Rattle.check_scope.specs.ScopePoints.{Points, use_point}
use Rattle.check_scope.specs.ExpressionTypes.{type_at, named_type_at}
use Rattle.check_resources.specs.declared.image.ImageStatement.{ImageStatement}
use Rattle.check_resources.specs.declared.image.ImageStatement.TheVariants as by

-- what a fault of the image, of a coordinate and of an array index stands inside
abbrev pub image_fault : ImageStatement → ExpressionError → FunctionError
image_fault by.Store error = InvalidImageStore error
image_fault by.Atomic error = InvalidImageAtomic error

-- the coordinate
abbrev pub coordinate_points : ImageStatement → Context → VisitPlace → ImageDimension → ℕ → Points
coordinate_points statement context place dim coordinate =
    use_point place coordinate
    ∷ (is_coordinate context dim coordinate, image_fault statement (wrong.InvalidImageCoordinateType dim coordinate))
    ∷ []

-- which texel: its coordinate and its array index
abbrev pub texel_points : ImageStatement → Context → VisitPlace → ImageDimension → Bool → ℕ → Option ℕ → Points
texel_points statement context place dim arrayed coordinate array_index =
    coordinate_points statement context place dim coordinate
    ++ array_index_points (image_fault statement) context place arrayed array_index

-- the value of an ImageStore
abbrev pub texel_value_points : Context → VisitPlace → StorageFormat → ℕ → Points
texel_value_points context place format value =
    use_point place value
    ∷ (
      is_of_type (texel_type format) (type_at context value),
      InvalidStoreValue value (named_type_at context value) (texel_type format),
    )
    ∷ []

-- the value of an ImageAtomic
abbrev pub changed_value_points : Context → VisitPlace → StorageFormat → ℕ → Points
changed_value_points context place format value =
    use_point place value
    ∷ (is_scalar (format_scalar format) (type_at context value), InvalidImageAtomicValue value)
    ∷ []

-- the format and the value of an ImageAtomic
abbrev pub changed_format_points : Context → VisitPlace → StorageFormat → AtomicFunction → ℕ → Points
changed_format_points context place format fun value =
    format_points context.settings.capabilities format fun ++ changed_value_points context place format value

-- the class of an ImageAtomic's image, the operation, and the value
abbrev pub changed_class_points : Context → VisitPlace → ImageClass → AtomicFunction → ℕ → Points
changed_class_points context place class fun value =
    change_point (is_storage_class class) (wrong.InvalidImageClass class)
    ∷ change_point (takes_atomics (stored_access class)) (wrong.InvalidImageStorageAccess (stored_access class))
    ∷ changed_format_points context place (stored_format class) fun value

-- the image and the texel of an ImageStore
abbrev pub stored_texel_points : Context → VisitPlace → ℕ → ℕ → Option ℕ → Points
stored_texel_points context place image coordinate array_index =
    let global = image_global context image in
    let shape = stored_shape context image in
    store_point (is_some (image_global_at context image)) wrong.ExpectedGlobalVariable
    ∷ store_point (not (is_element_at context image) || is_binding_array context global) (wrong.ExpectedBindingArrayType global)
    ∷ store_point (is_image (stored_type_at context image)) (wrong.ExpectedImageType global)
    ∷ store_point (is_storage_class shape.class) (wrong.InvalidImageClass shape.class)
    ∷ texel_points by.Store context place shape.dim shape.arrayed coordinate array_index

-- the texel of an ImageAtomic, and what is asked after it
abbrev pub changed_points : Context →
    VisitPlace → ImageDimension → Bool → ℕ → Option ℕ → ImageClass → AtomicFunction → ℕ → Points
changed_points context place dim arrayed coordinate array_index class fun value =
    texel_points by.Atomic context place dim arrayed coordinate array_index
    ++ changed_class_points context place class fun value
