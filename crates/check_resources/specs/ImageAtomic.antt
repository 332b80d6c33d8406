-- The check list of ImageAtomic.
use Rattle.std.specs.Prelude.{ℕ, Bool, true, false, List, [], ◌∷◌, ◌++◌, Option, Some, is_some}
use Rattle.ir_flags.specs.Bits as bit
use Rattle.ir_flags.specs.Bits.{contains}
use Rattle.ir_flags.specs.Capabilities as capability
use Rattle.ir_flags.specs.Capabilities.{has_capability}
use Rattle.ir_leaves.specs.Formats.{format_scalar}
use Rattle.ir_arena.specs.Points.{Point}
use Rattle.ir_types.specs.TypeTests.{is_scalar}
use Rattle.ir_types.specs.Types.{inner_at}
use Rattle.ir_flags.specs.declared.ir.StorageAccess.{StorageAccess}
use Rattle.ir_statements.specs.Operations.{is_min_or_max}
use Rattle.ir_statements.specs.declared.operations.AtomicFunction.{AtomicFunction}
use Rattle.ir_statements.specs.declared.operations.AtomicFunction.TheVariants.{Add, And, ExclusiveOr, InclusiveOr}
use Rattle.ir_leaves.specs.declared.images.StorageFormat.{StorageFormat}
use Rattle.ir_leaves.specs.declared.images.StorageFormat.TheVariants as formats
use Rattle.ir_types.specs.declared.types.Type.{«Type» as IrType}
use Rattle.ir_types.specs.declared.types.TypeInner.{TypeInner}
use Rattle.ir_types.specs.declared.types.TypeInner.TheVariants as inner
use Rattle.ir_flags.specs.declared.capabilities.Capabilities.{Capabilities}
use Rattle.ir_errors.specs.declared.expression.ExpressionError.{ExpressionError}
use Rattle.ir_errors.specs.declared.expression.ExpressionError.TheVariants as wrong
use Rattle.ir_errors.specs.declared.function.FunctionError.{FunctionError}
use Rattle.ir_errors.specs.declared.function.FunctionError.TheVariants.{InvalidImageAtomic, InvalidImageAtomicFunction, InvalidImageAtomicValue, MissingCapability}
use Rattle.naga_runs.specs.Visits.{VisitPlace}
use Rattle.check_scope.specs.Context.{Context}
use Rattle.check_resources.specs.Image.{image_global_at, image_global, ImageShape, is_image, shape_of, is_storage_class, stored_format, stored_access, is_coordinate, array_index_points}
use Rattle.check_scope.specs.ScopePoints.{Points, use_point}
use Rattle.check_scope.specs.ExpressionTypes.{type_at}

-- what a binding array has; any other type itself
abbrev pub element_or_itself : List IrType → Option TypeInner → Option TypeInner
element_or_itself types (Some (inner.BindingArray base size)) = inner_at types base
element_or_itself types ty = ty

-- the type of the image whose texels change, and the image
abbrev pub changed_type_at : Context → ℕ → Option TypeInner
changed_type_at context image =
    element_or_itself context.program.types (inner_at context.program.types (image_global context image))

abbrev pub changed_shape : Context → ℕ → ImageShape
changed_shape context image = shape_of (changed_type_at context image)

abbrev pub takes_atomics : StorageAccess → Bool
takes_atomics access = contains access.0 bit.ATOMIC.0

-- what can be done on texels of 32 bits
abbrev pub is_done_on_texels : AtomicFunction → Bool
is_done_on_texels Add = true
is_done_on_texels And = true
is_done_on_texels ExclusiveOr = true
is_done_on_texels InclusiveOr = true
is_done_on_texels fun = is_min_or_max fun

-- a point whose fault stands inside InvalidImageAtomic
abbrev pub change_point : Bool → ExpressionError → Point FunctionError
change_point holds error = (holds, InvalidImageAtomic error)

-- an operation that needs a capability, and is one of those that are done
abbrev pub operation_points : Capabilities → Capabilities → Bool → AtomicFunction → Points
operation_points capabilities needed is_done fun =
    (has_capability capabilities needed, MissingCapability needed)
    ∷ (is_done, InvalidImageAtomicFunction fun)
    ∷ []

-- what the format asks for
abbrev pub format_points : Capabilities → StorageFormat → AtomicFunction → Points
format_points capabilities formats.R64Uint fun =
    operation_points capabilities capability.TEXTURE_INT64_ATOMIC (is_min_or_max fun) fun
format_points capabilities formats.R32Sint fun =
    operation_points capabilities capability.TEXTURE_ATOMIC (is_done_on_texels fun) fun
format_points capabilities formats.R32Uint fun =
    operation_points capabilities capability.TEXTURE_ATOMIC (is_done_on_texels fun) fun
format_points capabilities other fun = change_point false (wrong.InvalidImageFormat other) ∷ []

-- ImageAtomic: its image, the texel, which comes before the class, the operation, and the value
abbrev pub image_atomic_points : Context → VisitPlace → ℕ → ℕ → Option ℕ → AtomicFunction → ℕ → Points
image_atomic_points context place image coordinate array_index fun value =
    let shape = changed_shape context image in
    let format = stored_format shape.class in
    let access = stored_access shape.class in
    change_point (is_some (image_global_at context image)) wrong.ExpectedGlobalVariable
    ∷ change_point (is_image (changed_type_at context image)) (wrong.ExpectedImageType (image_global context image))
    ∷ use_point place coordinate
    ∷ change_point (is_coordinate context shape.dim coordinate) (wrong.InvalidImageCoordinateType shape.dim coordinate)
    ∷ array_index_points InvalidImageAtomic context place shape.arrayed array_index
    ++ (change_point (is_storage_class shape.class) (wrong.InvalidImageClass shape.class)
    ∷ change_point (takes_atomics access) (wrong.InvalidImageStorageAccess access)
    ∷ format_points context.settings.capabilities format fun
    ++ use_point place value
    ∷ (is_scalar (format_scalar format) (type_at context value), InvalidImageAtomicValue value)
    ∷ [])
