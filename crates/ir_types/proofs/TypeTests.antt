-- The tests of types that compute decide what the queries say.
use Rattle.std.proofs.Common.{◌≡◌, ◌↔◌, ℕ, ◌==◌, IsTrue, Bool, true, false, ◌&&◌, List, [], ◌∷◌, Option, None, Some, refl, ap, ◌∙◌, subst, arith, codes}
use Rattle.std.specs.Cmp.Lexicographic.{pointwise}
use Rattle.std.proofs.lemmas.Bool.Decides.{nat_tests}
use Rattle.ir_leaves.specs.EqualLeaves.{list_same}
use Rattle.ir_types.specs.EqualTypes.{inner_iff}
use Rattle.ir_types.specs.Types.{inner_at, bool_scalar, canonical_of, resolved, AreEquivalent, AreBothEquivalent, IsSameType, SameBy, IsScalarMember, AreCompareExchangeMembers, IsCompareExchangeStruct, struct_handle, handle_of}
use Rattle.ir_leaves.specs.declared.scalars.Scalar.{Scalar}
use Rattle.ir_types.specs.declared.types.StructMember.{StructMember}
use Rattle.ir_types.specs.declared.types.TypeInner.TheVariants as inner
use Rattle.ir_types.specs.declared.types.Type.{«Type» as IrType}
use Rattle.ir_types.specs.declared.types.TypeInner.{TypeInner}
use Rattle.ir_types.specs.declared.typifier.TypeResolution.{TypeResolution}
use Rattle.ir_types.specs.TypeTests.{both_are, is_handle, is_same_by, is_same_type, is_equivalent, is_scalar, is_named, is_scalar_member, are_exchange_members, is_exchange_struct}

no_truth : IsTrue false → ⊥
no_truth h = cc

pub equivalent_iff : (types : List IrType) (a b : TypeInner) → IsTrue (is_equivalent types a b) ↔ AreEquivalent types a b
equivalent_iff types a b = inner_iff (canonical_of types a) (canonical_of types b)

both_equivalent_iff : (types : List IrType) (a b : Option TypeInner) → IsTrue (both_are (is_equivalent types) a b) ↔ AreBothEquivalent types a b
both_equivalent_iff types (Some a) (Some b) = equivalent_iff types a b
both_equivalent_iff types None b = (no_truth, λ e. absurd e)
both_equivalent_iff types (Some a) None = (no_truth, λ e. absurd e)

handle_iff : (h : ℕ) (k : Option ℕ) → IsTrue (is_handle h k) ↔ (k ≡ Some h)
handle_iff h None = (λ e. cc, λ e. cc)
handle_iff h (Some k) =
    (λ e. let same : k ≡ h = grind (arith, nat_tests) in ap Some same, λ e. let same : k ≡ h = cc in grind (arith, nat_tests))

by_iff : (types : List IrType) (s : Option ℕ) (a b : TypeResolution) → IsTrue (is_same_by types s a b) ↔ SameBy types s a b
by_iff types (Some h) a b = handle_iff h (handle_of b)
by_iff types None a b = both_equivalent_iff types (resolved types a) (resolved types b)

pub same_iff : (types : List IrType) (a b : TypeResolution) → IsTrue (is_same_type types a b) ↔ IsSameType types a b
unfolding is_same_type
same_iff types a b = by_iff types (struct_handle types a) a b

both_iff : (a b : Bool) (P Q : Type 0) → IsTrue a ↔ P → IsTrue b ↔ Q → IsTrue (a && b) ↔ (P × Q)
both_iff true b P Q f g = (λ h. (f.0 refl, g.0 h), λ h. g.1 h.1)
both_iff false b P Q f g = (λ h. cc, λ h. f.1 h.0)

bytes_iff : (a b : List ℕ) → IsTrue (pointwise (λ x y. x == y) a b) ↔ (a ≡ b)
bytes_iff a b = (list_same (λ x y. x == y) same a b, λ e. subst (λ c. pointwise (λ x y. x == y) a c ≡ true) e (itself a))
  where
    same : (x y : ℕ) → (x == y) ≡ true → x ≡ y
    same x y e = grind (arith, nat_tests)

    self_same : (x : ℕ) → (x == x) ≡ true
    self_same x = grind (arith, nat_tests)

    itself : (xs : List ℕ) → pointwise (λ x y. x == y) xs xs ≡ true
    itself [] = refl
    itself (x ∷ xs) = ap (λ b. b && pointwise (λ x y. x == y) xs xs) (self_same x) ∙ itself xs

named_iff : (name : List ℕ) (o : Option (List ℕ)) → IsTrue (is_named name o) ↔ (o ≡ Some name)
named_iff name None = (λ h. cc, λ e. cc)
named_iff name (Some given) =
    (λ h. ap Some ((bytes_iff given name).0 h), λ e. let same : given ≡ name = cc in (bytes_iff given name).1 same)

pub scalar_iff : (s : Scalar) (o : Option TypeInner) → IsTrue (is_scalar s o) ↔ (o ≡ Some (inner.Scalar s))
scalar_iff s None = (λ h. cc, λ e. cc)
scalar_iff s (Some i) =
    (λ h. ap Some ((inner_iff i (inner.Scalar s)).0 h), λ e. let same : i ≡ inner.Scalar s = cc in (inner_iff i (inner.Scalar s)).1 same)

pub member_iff : (types : List IrType) (name : List ℕ) (s : Scalar) (m : StructMember) → IsTrue (is_scalar_member types name s m) ↔ IsScalarMember types name s m
member_iff types name s m = both_iff _ _ _ _ (named_iff name m.name) (scalar_iff s (inner_at types m.ty))

members_iff : (types : List IrType) (s : Scalar) (ms : List StructMember) → IsTrue (are_exchange_members types s ms) ↔ AreCompareExchangeMembers types s ms
members_iff types s (old ∷ exchanged ∷ []) =
    both_iff _ _ _ _ (member_iff types (codes "old_value") s old) (member_iff types (codes "exchanged") bool_scalar exchanged)
members_iff types s [] = (no_truth, λ e. absurd e)
members_iff types s (m ∷ []) = (no_truth, λ e. absurd e)
members_iff types s (m ∷ n ∷ o ∷ ms) = (no_truth, λ e. absurd e)

pub exchange_iff : (types : List IrType) (s : Scalar) (i : TypeInner) → IsTrue (is_exchange_struct types s i) ↔ IsCompareExchangeStruct types s i
unfolding is_exchange_struct
exchange_iff types s (inner.Struct members span) = members_iff types s members
exchange_iff types s _ = (no_truth, λ e. absurd e)
