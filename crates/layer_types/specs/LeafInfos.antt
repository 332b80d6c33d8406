-- Infos of the types that have no parts: what they can be used for, and their alignment in bytes.
use Rattle.std.specs.Prelude.{ℕ, Bool, true, false, ◌*◌, ◌==◌, ◌||◌, [], ◌∷◌, Option, None, Some, Result, Ok, Err, if◌then◌else◌}
use Rattle.ir_flags.specs.Bits.{ALL_TYPE_FLAGS, DATA, SIZED, COPY, HOST_SHAREABLE, CREATION_RESOLVED, ARGUMENT, CONSTRUCTIBLE}
use Rattle.ir_flags.specs.declared.valid.TypeFlags.{TypeFlags}
use Rattle.ir_types.specs.declared.types.AddressSpace.{AddressSpace}
use Rattle.ir_types.specs.declared.types.AddressSpace.TheVariants as space
use Rattle.ir_types.specs.declared.types.ImageClass.{ImageClass}
use Rattle.ir_types.specs.declared.types.ImageClass.TheVariants as class
use Rattle.ir_leaves.specs.declared.scalars.Scalar.{Scalar}
use Rattle.ir_leaves.specs.declared.scalars.ScalarKind.{ScalarKind}
use Rattle.ir_leaves.specs.declared.scalars.ScalarKind.TheVariants as kind
use Rattle.ir_types.specs.declared.types.TypeInner.{TypeInner}
use Rattle.ir_types.specs.declared.types.TypeInner.TheVariants as inner
use Rattle.ir_types.specs.declared.type_info.ImmediateError.{ImmediateError}
use Rattle.ir_types.specs.declared.type_info.TypeInfo.{TypeInfo}
use Rattle.ir_types.specs.TypeInfos.{all_of}
use Rattle.layer_types.specs.Sizes.{aligned_components_of}

-- the widths of each kind: of a bool 1, of integers 4 and 8, of floats 2, 4 and 8; of the abstract ones none
abbrev pub has_width : ScalarKind → ℕ → Bool
has_width kind.Bool w = w == 1
has_width kind.Sint w = w == 4 || w == 8
has_width kind.Uint w = w == 4 || w == 8
has_width kind.Float w = w == 2 || w == 4 || w == 8
has_width kind.AbstractInt w = false
has_width kind.AbstractFloat w = false

abbrev pub is_known : Scalar → Bool
is_known s = has_width s.kind s.width

-- the floats that there are
abbrev pub is_float_of : ScalarKind → ℕ → Bool
is_float_of kind.Float w = has_width kind.Float w
is_float_of _ w = false

abbrev pub is_float : Scalar → Bool
is_float s = is_float_of s.kind s.width

-- atomics are of integers, and of floats of 4 bytes
abbrev pub is_atomic_of : ScalarKind → ℕ → Bool
is_atomic_of kind.Sint w = has_width kind.Sint w
is_atomic_of kind.Uint w = has_width kind.Uint w
is_atomic_of kind.Float w = w == 4
is_atomic_of _ w = false

abbrev pub is_atomic : Scalar → Bool
is_atomic s = is_atomic_of s.kind s.width

-- integers and floats
abbrev pub is_number : ScalarKind → Bool
is_number kind.Sint = true
is_number kind.Uint = true
is_number kind.Float = true
is_number _ = false

-- what values can be used for that are neither shared with the host nor between stages
abbrev pub VALUE : TypeFlags
VALUE = all_of (DATA ∷ SIZED ∷ COPY ∷ ARGUMENT ∷ CONSTRUCTIBLE ∷ CREATION_RESOLVED ∷ [])

abbrev pub MATRIX : TypeFlags
MATRIX = all_of (VALUE ∷ HOST_SHAREABLE ∷ [])

abbrev pub ATOMIC_FLAGS : TypeFlags
ATOMIC_FLAGS = all_of (DATA ∷ SIZED ∷ HOST_SHAREABLE ∷ CREATION_RESOLVED ∷ [])

abbrev pub POINTER : TypeFlags
POINTER = all_of (SIZED ∷ COPY ∷ CREATION_RESOLVED ∷ [])

abbrev pub OPAQUE : TypeFlags
OPAQUE = all_of (ARGUMENT ∷ CREATION_RESOLVED ∷ [])

abbrev pub RAY_QUERY : TypeFlags
RAY_QUERY = all_of (DATA ∷ SIZED ∷ CONSTRUCTIBLE ∷ CREATION_RESOLVED ∷ [])

-- a scalar or a vector: a number can be used for all, a bool is shared neither with the host nor between stages
abbrev pub value_flags : ScalarKind → TypeFlags
value_flags kind.Bool = VALUE
value_flags _ = ALL_TYPE_FLAGS

-- a pointer that may be an argument, and one that may not
abbrev pub argument_if : Bool → TypeFlags
argument_if true = all_of (POINTER ∷ ARGUMENT ∷ [])
argument_if false = POINTER

-- a pointer into a space: an argument in Function and Private, and in WorkGroup where it points to what has a size
abbrev pub pointer_flags : AddressSpace → Bool → TypeFlags
pointer_flags space.Function is_sized = argument_if true
pointer_flags space.Private is_sized = argument_if true
pointer_flags space.WorkGroup is_sized = argument_if is_sized
pointer_flags space.Uniform is_sized = argument_if false
pointer_flags (space.Storage access) is_sized = argument_if false
pointer_flags space.Handle is_sized = argument_if false
pointer_flags space.Immediate is_sized = argument_if false
pointer_flags space.TaskPayload is_sized = argument_if false
pointer_flags space.RayPayload is_sized = argument_if false
pointer_flags space.IncomingRayPayload is_sized = argument_if false

-- a type of these flags and this alignment, which fits every buffer
abbrev pub info : TypeFlags → ℕ → TypeInfo
info flags alignment =
    record { flags = flags; storage_layout = Ok alignment; uniform_layout = Ok alignment; immediates_compatibility = Ok tt }

-- floats of 2 bytes are no immediates, for the reason 1
abbrev pub immediate_of : Scalar → Result Unit ImmediateError
immediate_of s = if s.width == 2 then Err (record { 0 = 1 }) else Ok tt

-- the same of a type that is made of this scalar
abbrev pub of_scalar : Scalar → TypeFlags → ℕ → TypeInfo
of_scalar s flags alignment = record (info flags alignment) { immediates_compatibility = immediate_of s }

abbrev pub known_info : Bool → TypeInfo → Option TypeInfo
known_info is_there info = if is_there then Some info else None

-- an image: of any class, but the texels of a sampled one are numbers
abbrev pub image_info : ImageClass → Option TypeInfo
image_info (class.Sampled kind multi) = known_info (is_number kind) (info OPAQUE 1)
image_info _ = Some (info OPAQUE 1)

-- each type without parts; None where it isn't well formed, and for those that have parts
abbrev pub leaf_info : TypeInner → Option TypeInfo
leaf_info (inner.Scalar s) = known_info (is_known s) (of_scalar s (value_flags s.kind) s.width)
leaf_info (inner.Vector n s) = known_info (is_known s) (of_scalar s (value_flags s.kind) (aligned_components_of n * s.width))
leaf_info (inner.Matrix c r s) = known_info (is_float s) (of_scalar s MATRIX (aligned_components_of r * s.width))
leaf_info (inner.CooperativeMatrix s d) = known_info (is_float s) (of_scalar s VALUE s.width)
leaf_info (inner.Atomic s) = known_info (is_atomic s) (info ATOMIC_FLAGS s.width)
leaf_info (inner.ValuePointer n s p) = known_info (is_known s) (info (pointer_flags p true) 1)
leaf_info (inner.Image dim arrayed class) = image_info class
leaf_info (inner.Sampler comparison) = Some (info OPAQUE 1)
leaf_info (inner.AccelerationStructure vertex_return) = Some (info OPAQUE 1)
leaf_info (inner.RayQuery vertex_return) = Some (info RAY_QUERY 1)
leaf_info (inner.Pointer base p) = None
leaf_info (inner.Array base size stride) = None
leaf_info (inner.Struct members span) = None
leaf_info (inner.BindingArray base size) = None
