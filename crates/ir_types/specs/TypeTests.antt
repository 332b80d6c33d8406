-- The tests of types, as check lists compute them. A law says that each decides what `Types` says in words.
use Rattle.std.specs.Prelude.{ℕ, ◌↔◌, IsTrue, Bool, true, false, ◌&&◌, ◌==◌, List, [], ◌∷◌, Option, None, Some, ◌≡◌, codes}
use Rattle.std.specs.Cmp.Lexicographic.{pointwise}
use Rattle.ir_types.specs.Types.{AreEquivalent, IsSameType, IsCompareExchangeStruct, IsScalarMember, inner_at, bool_scalar, resolved, canonical_of, struct_handle, handle_of}
use Rattle.ir_types.specs.contracts.types.TypeInnerPartialEq.TheImpl as type_inner
use Rattle.ir_leaves.specs.declared.scalars.Scalar.{Scalar}
use Rattle.ir_leaves.specs.declared.scalars.ScalarKind.{ScalarKind}
use Rattle.ir_leaves.specs.declared.scalars.ScalarKind.TheVariants as kind
use Rattle.ir_types.specs.declared.types.StructMember.{StructMember}
use Rattle.ir_types.specs.declared.types.Type.{«Type» as IrType}
use Rattle.ir_types.specs.declared.types.TypeInner.{TypeInner}
use Rattle.ir_types.specs.declared.types.TypeInner.TheVariants as inner
use Rattle.ir_types.specs.declared.typifier.TypeResolution.{TypeResolution}

-- a test of two types that may be missing: both are there, and it holds of them
abbrev pub both_are : (TypeInner → TypeInner → Bool) → Option TypeInner → Option TypeInner → Bool
both_are test (Some a) (Some b) = test a b
both_are test _ _ = false

-- a test of a type that may be missing: it is there, and it holds of it
abbrev pub it_is : (TypeInner → Bool) → Option TypeInner → Bool
it_is test None = false
it_is test (Some i) = test i

-- a struct
abbrev pub is_struct : TypeInner → Bool
is_struct (inner.Struct members span) = true
is_struct _ = false

-- the same type inside
abbrev pub is_same_inner : TypeInner → TypeInner → Bool
is_same_inner a b = (type_inner.ghosts).eq a b

-- their canonical forms are equal
abbrev pub is_equivalent : List IrType → TypeInner → TypeInner → Bool
is_equivalent types a b = is_same_inner (canonical_of types a) (canonical_of types b)

-- a kind of scalar that is a float of WGSL
abbrev pub is_float_kind : ScalarKind → Bool
is_float_kind kind.Float = true
is_float_kind _ = false

-- it is this scalar, and no vector
abbrev pub is_scalar : Scalar → Option TypeInner → Bool
is_scalar s i = it_is (λ i. is_same_inner i (inner.Scalar s)) i

-- the name is given, and is this one
abbrev pub is_named : List ℕ → Option (List ℕ) → Bool
is_named name None = false
is_named name (Some given) = pointwise (λ a b. a == b) given name

-- a member of this name, whose type is this scalar
abbrev pub is_scalar_member : List IrType → List ℕ → Scalar → StructMember → Bool
is_scalar_member types name s m = is_named name m.name && is_scalar s (inner_at types m.ty)

-- two members, the old value and whether it was exchanged
abbrev pub are_exchange_members : List IrType → Scalar → List StructMember → Bool
are_exchange_members types s (old ∷ exchanged ∷ []) =
    is_scalar_member types (codes "old_value") s old && is_scalar_member types (codes "exchanged") bool_scalar exchanged
are_exchange_members types s _ = false

-- the struct that an atomic compare exchange of a scalar gives: the old value, and whether it was exchanged
unfoldable pub is_exchange_struct : List IrType → Scalar → TypeInner → Bool
is_exchange_struct types s (inner.Struct members span) = are_exchange_members types s members
is_exchange_struct types s _ = false

-- the handle is there, and is this one
abbrev pub is_handle : ℕ → Option ℕ → Bool
is_handle h None = false
is_handle h (Some k) = h == k

-- by the handle of a struct, where the first is one, else by canonical forms
abbrev pub is_same_by : List IrType → Option ℕ → TypeResolution → TypeResolution → Bool
is_same_by types (Some h) a b = is_handle h (handle_of b)
is_same_by types None a b = both_are (is_equivalent types) (resolved types a) (resolved types b)

-- where the first is the handle of a struct, the second is the same handle; else both are there and equivalent
unfoldable pub is_same_type : List IrType → TypeResolution → TypeResolution → Bool
is_same_type types a b = is_same_by types (struct_handle types a) a b

-- Each test is true exactly where its words hold.
abbrev pub SameIsDecided : Type 0
SameIsDecided = (types : List IrType) (a b : TypeResolution) → IsTrue (is_same_type types a b) ↔ IsSameType types a b

-- of types that are equivalent
abbrev pub EquivalentIsDecided : Type 0
EquivalentIsDecided = (types : List IrType) (a b : TypeInner) → IsTrue (is_equivalent types a b) ↔ AreEquivalent types a b

-- of the struct of a compare exchange
abbrev pub ExchangeStructIsDecided : Type 0
ExchangeStructIsDecided =
    (types : List IrType) (s : Scalar) (i : TypeInner) →
    IsTrue (is_exchange_struct types s i) ↔ IsCompareExchangeStruct types s i

-- of a type that is this scalar
abbrev pub ScalarIsDecided : Type 0
ScalarIsDecided = (s : Scalar) (i : Option TypeInner) → IsTrue (is_scalar s i) ↔ (i ≡ Some (inner.Scalar s))

-- of a member of this name, whose type is this scalar
abbrev pub ScalarMemberIsDecided : Type 0
ScalarMemberIsDecided =
    (types : List IrType) (name : List ℕ) (s : Scalar) (m : StructMember) →
    IsTrue (is_scalar_member types name s m) ↔ IsScalarMember types name s m
