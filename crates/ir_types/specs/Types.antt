-- What is said of a type: its scalar, what it points to, its canonical form, and when two types are the same.
use Rattle.std.specs.Prelude.{ℕ, ◌<◌, ◌≡◌, List, [], ◌∷◌, Option, None, Some, All, ⊤, length, slice_get, unwrap_or, codes}
use Rattle.std.specs.Int.RustNames.{bit_or}
use Rattle.std.specs.Option.{option_map}
use Rattle.ir_flags.specs.Bits.{LOAD, STORE}
use Rattle.ir_leaves.specs.declared.scalars.ScalarKind.{ScalarKind}
use Rattle.ir_leaves.specs.declared.scalars.ScalarKind.TheVariants.{Sint, Uint, Bool}
use Rattle.ir_leaves.specs.declared.scalars.Scalar.{Scalar}
use Rattle.ir_leaves.specs.declared.scalars.VectorSize.{VectorSize}
use Rattle.ir_leaves.specs.declared.scalars.VectorSize.TheVariants.{Bi, Tri, Quad}
use Rattle.ir_types.specs.declared.types.AddressSpace.{AddressSpace}
use Rattle.ir_types.specs.declared.types.AddressSpace.TheVariants as space
use Rattle.ir_leaves.specs.declared.images.ImageDimension.{ImageDimension}
use Rattle.ir_leaves.specs.declared.images.ImageDimension.TheVariants.{D1, D2, D3}
use Rattle.ir_types.specs.declared.types.StructMember.{StructMember}
use Rattle.ir_types.specs.declared.types.TypeInner.{TypeInner}
use Rattle.ir_types.specs.declared.types.TypeInner.TheVariants as inner
use Rattle.ir_types.specs.declared.types.Type.{«Type» as IrType}
use Rattle.ir_flags.specs.declared.ir.StorageAccess.{StorageAccess}
use Rattle.ir_types.specs.declared.typifier.TypeResolution.{TypeResolution}
use Rattle.ir_types.specs.declared.typifier.TypeResolution.TheVariants.{Handle, Value}

-- the scalar that a scalar, a vector or a matrix is made of
abbrev pub scalar_of : TypeInner → Option Scalar
scalar_of (inner.Scalar s) = Some s
scalar_of (inner.Vector n s) = Some s
scalar_of (inner.Matrix c r s) = Some s
scalar_of (inner.CooperativeMatrix s d) = Some s
scalar_of _ = None

-- the kind of that scalar
abbrev pub scalar_kind_of : TypeInner → Option ScalarKind
scalar_kind_of i = option_map (λ s. s.kind) (scalar_of i)

-- the address space that a pointer points into
abbrev pub pointer_space_of : TypeInner → Option AddressSpace
pointer_space_of (inner.Pointer b p) = Some p
pointer_space_of (inner.ValuePointer n s p) = Some p
pointer_space_of _ = None

-- a scalar, or a vector of a size
abbrev pub sized : Option VectorSize → Scalar → TypeInner
sized None s = inner.Scalar s
sized (Some n) s = inner.Vector n s

-- the type that a pointer points to
abbrev pub pointer_base_of : TypeInner → Option TypeResolution
pointer_base_of (inner.Pointer b p) = Some (Handle b)
pointer_base_of (inner.ValuePointer n s p) = Some (Value (sized n s))
pointer_base_of _ = None

-- an integer of either sign
abbrev pub if_integer : ScalarKind → ImageDimension → Option ImageDimension
if_integer Sint d = Some d
if_integer Uint d = Some d
if_integer _ d = None

-- a vector of 2 or 3 integers is a coordinate, one of 4 none
abbrev pub vector_coordinates : VectorSize → ScalarKind → Option ImageDimension
vector_coordinates Bi k = if_integer k D2
vector_coordinates Tri k = if_integer k D3
vector_coordinates Quad k = None

-- the dimension of the storage images that a type can be the coordinate of: an integer for one dimension, a
-- vector of two or three for two or three
abbrev pub image_coordinates_of : TypeInner → Option ImageDimension
image_coordinates_of (inner.Scalar s) = if_integer s.kind D1
image_coordinates_of (inner.Vector n s) = vector_coordinates n s.kind
image_coordinates_of _ = None

-- load and store, both
abbrev pub load_and_store : StorageAccess
load_and_store = record { 0 = bit_or LOAD.0 STORE.0 }

-- what may be done in an address space
abbrev pub access_of : AddressSpace → StorageAccess
access_of space.Function = load_and_store
access_of space.Private = load_and_store
access_of space.WorkGroup = load_and_store
access_of space.Uniform = LOAD
access_of (space.Storage access) = access
access_of space.Handle = LOAD
access_of space.Immediate = LOAD
access_of space.TaskPayload = load_and_store
access_of space.RayPayload = load_and_store
access_of space.IncomingRayPayload = load_and_store

-- every type that this one names has a handle below n
abbrev pub NamesTypesBelow : ℕ → TypeInner → Type 0
NamesTypesBelow n (inner.Pointer b p) = b < n
NamesTypesBelow n (inner.Array b size stride) = b < n
NamesTypesBelow n (inner.Struct members span) = All (λ m. m.ty < n) members
NamesTypesBelow n (inner.BindingArray b size) = b < n
NamesTypesBelow n (inner.Scalar s) = ⊤
NamesTypesBelow n (inner.Vector k s) = ⊤
NamesTypesBelow n (inner.Matrix c r s) = ⊤
NamesTypesBelow n (inner.CooperativeMatrix s d) = ⊤
NamesTypesBelow n (inner.Atomic s) = ⊤
NamesTypesBelow n (inner.ValuePointer k s p) = ⊤
NamesTypesBelow n (inner.Image dim arrayed class) = ⊤
NamesTypesBelow n (inner.Sampler comparison) = ⊤
NamesTypesBelow n (inner.AccelerationStructure vertex_return) = ⊤
NamesTypesBelow n (inner.RayQuery vertex_return) = ⊤

-- every type names types of the list
abbrev pub NameEachOther : List IrType → Type 0
NameEachOther types = All (λ t. NamesTypesBelow (length types) t.inner) types

-- what a resolution names is below n
abbrev pub ResolutionFits : ℕ → TypeResolution → Type 0
ResolutionFits n (Handle h) = h < n
ResolutionFits n (Value i) = NamesTypesBelow n i

-- the type at this handle, without its name
abbrev pub inner_at : List IrType → ℕ → Option TypeInner
inner_at types h = option_map (λ t. t.inner) (slice_get types h)

-- the type that a resolution is
abbrev pub resolved : List IrType → TypeResolution → Option TypeInner
resolved types (Handle h) = inner_at types h
resolved types (Value i) = Some i

-- the value pointer that points to a scalar or a vector
abbrev pub value_pointer_to : AddressSpace → Option TypeInner → Option TypeInner
value_pointer_to p (Some (inner.Scalar s)) = Some (inner.ValuePointer None s p)
value_pointer_to p (Some (inner.Vector n s)) = Some (inner.ValuePointer (Some n) s p)
value_pointer_to p _ = None

-- the value pointer that stands for a pointer to a scalar or a vector
abbrev pub value_pointer_of : List IrType → TypeInner → Option TypeInner
value_pointer_of types (inner.Pointer b p) = value_pointer_to p (inner_at types b)
value_pointer_of types _ = None

-- the canonical form of a pointer to a scalar or a vector is the value pointer; any other type is its own
abbrev pub canonical_of : List IrType → TypeInner → TypeInner
canonical_of types i = unwrap_or (value_pointer_of types i) i

-- two types are equivalent where their canonical forms are equal
abbrev pub AreEquivalent : List IrType → TypeInner → TypeInner → Type 0
AreEquivalent types a b = canonical_of types a ≡ canonical_of types b

-- the handle, where the type at it is a struct
abbrev pub if_struct : ℕ → Option TypeInner → Option ℕ
if_struct h (Some (inner.Struct members span)) = Some h
if_struct h _ = None

-- the handle of a resolution, where it is that of a struct
abbrev pub struct_handle : List IrType → TypeResolution → Option ℕ
struct_handle types (Handle h) = if_struct h (inner_at types h)
struct_handle types (Value i) = None

-- the handle of a resolution, where it is one
abbrev pub handle_of : TypeResolution → Option ℕ
handle_of (Handle h) = Some h
handle_of (Value i) = None

-- two types that may be missing are both there, and equivalent
abbrev pub AreBothEquivalent : List IrType → Option TypeInner → Option TypeInner → Type 0
AreBothEquivalent types (Some a) (Some b) = AreEquivalent types a b
AreBothEquivalent types _ _ = ⊥

-- by the handle of a struct, where the first is one, else by canonical forms
abbrev pub SameBy : List IrType → Option ℕ → TypeResolution → TypeResolution → Type 0
SameBy types (Some h) a b = handle_of b ≡ Some h
SameBy types None a b = AreBothEquivalent types (resolved types a) (resolved types b)

-- where the first is the handle of a struct, the second is the same handle; else both are there and equivalent
abbrev pub IsSameType : List IrType → TypeResolution → TypeResolution → Type 0
IsSameType types a b = SameBy types (struct_handle types a) a b

-- the scalar of a bool
abbrev pub bool_scalar : Scalar
bool_scalar = record { kind = Bool; width = 1 }

-- a member of this name, whose type is this scalar
abbrev pub IsScalarMember : List IrType → List ℕ → Scalar → StructMember → Type 0
IsScalarMember types name s m = (m.name ≡ Some name) × (inner_at types m.ty ≡ Some (inner.Scalar s))

-- two members in this order, the old value and whether it was exchanged
abbrev pub AreCompareExchangeMembers : List IrType → Scalar → List StructMember → Type 0
AreCompareExchangeMembers types s (old ∷ exchanged ∷ []) =
    IsScalarMember types (codes "old_value") s old × IsScalarMember types (codes "exchanged") bool_scalar exchanged
AreCompareExchangeMembers types s _ = ⊥

-- the struct that an atomic compare exchange of a scalar gives: the old value, and whether it was exchanged
abbrev pub IsCompareExchangeStruct : List IrType → Scalar → TypeInner → Type 0
IsCompareExchangeStruct types s (inner.Struct members span) = AreCompareExchangeMembers types s members
IsCompareExchangeStruct types s _ = ⊥
