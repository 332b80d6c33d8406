-- `==` of types finds only the same types equal: lemmas, which the law of unique arenas rests on.
use Rattle.std.proofs.Common.{rules, subst, ◌<◌, ◌≡◌, ◌↔◌, IsTrue, ℕ, List, [], ◌∷◌, Bool, true, refl, ap, Option, Some, None, ◌&&◌}
use Rattle.std.specs.Option.{option_eq}
use lib.Dec.{eqb}
use Rattle.std.proofs.Props.{props}
use Rattle.std.specs.declared.num.NonZeroU32.{NonZeroU32}
use lib.Pointwise.{pointwise}
use Rattle.ir_leaves.specs.contracts.scalars.VectorSizePartialEq.TheImpl as size
use Rattle.ir_types.specs.declared.types.ImageClass.{ImageClass}
use Rattle.ir_types.specs.declared.types.ImageClass.TheVariants.{Sampled, Depth, External, Storage}
use Rattle.ir_types.specs.contracts.types.ImageClassPartialEq.TheImpl as class
use Rattle.ir_types.specs.declared.types.ArraySize.{ArraySize}
use Rattle.ir_types.specs.declared.types.ArraySize.TheVariants.{Constant, Pending, Dynamic}
use Rattle.ir_types.specs.contracts.types.ArraySizePartialEq.TheImpl as array_size
use Rattle.ir_types.specs.declared.types.AddressSpace.{AddressSpace}
use Rattle.ir_types.specs.contracts.types.AddressSpacePartialEq.TheImpl as address_space
use Rattle.ir_leaves.specs.contracts.images.ImageDimensionPartialEq.TheImpl as dimension
use Rattle.ir_leaves.specs.contracts.bindings.BindingPartialEq.TheImpl as binding_eq
use Rattle.ir_types.specs.declared.types.StructMember.{StructMember}
use Rattle.ir_types.specs.contracts.types.StructMemberPartialEq.TheImpl as member
use Rattle.ir_types.specs.declared.types.TypeInner.{TypeInner}
use Rattle.ir_types.specs.declared.types.TypeInner.TheVariants as inner
use Rattle.ir_types.specs.contracts.types.TypeInnerPartialEq.TheImpl as type_inner
use Rattle.ir_types.specs.contracts.types.TypeInnerEq.TheImpl.Laws.{laws-law as type_inner_laws}
use Rattle.ir_leaves.specs.contracts.name.NamePartialEq.TheImpl as name
use Rattle.ir_types.specs.declared.types.Type.{«Type» as IrType}
use Rattle.ir_types.specs.contracts.types.TypePartialEq.TheImpl as ir_type
use Rattle.ir_leaves.specs.EqualLeaves.{both, split, option_same, list_same, number_same, flag_same, name_same, size_same, dimension_same, scalar_same, binding_same}

-- a handle's test looks at the index, and at a tag that is always equal
pub handle_same : (a b : ℕ) → (eqb a b && true) ≡ true → a ≡ b
handle_same a b h = number_same a b (both (eqb a b) true h).0

pub space_same : (a b : AddressSpace) → (address_space.ghosts).eq a b ≡ true → a ≡ b
space_same a b h = search rules

pub class_same : (a b : ImageClass) → (class.ghosts).eq a b ≡ true → a ≡ b
class_same (Sampled k m) (Sampled k2 m2) h = search rules
class_same (Depth m) (Depth m2) h = search rules
class_same External External h = refl
class_same (Storage f a) (Storage f2 a2) h = search rules
class_same _ _ h = cc

-- a number above 0 has one proof of it
above_zero_same : (n : ℕ) (p q : 0 < n) → p ≡ q
above_zero_same n = Prim.hlevel props

count_same : (a b : NonZeroU32) → a.value ≡ b.value → a ≡ b
count_same a b e =
    let made : (n : ℕ) → 0 < n → NonZeroU32 = λ n p. record { value = n; ok = p } in
    let P : ℕ → Type 0 = λ n. (q : 0 < n) → a ≡ made n q in
    subst P e (λ q. ap (made a.value) (above_zero_same a.value a.ok q)) b.ok

array_size_same : (a b : ArraySize) → (array_size.ghosts).eq a b ≡ true → a ≡ b
array_size_same (Constant n) (Constant n2) h = ap Constant (count_same n n2 (number_same n.value n2.value h))
array_size_same (Pending n) (Pending n2) h = search rules
array_size_same Dynamic Dynamic h = refl
array_size_same _ _ h = cc

member_same : (a b : StructMember) → (member.ghosts).eq a b ≡ true → a ≡ b
member_same a b h =
    let e = split (option_same (name.ghosts).eq name_same a.name b.name)
    (split (handle_same a.ty b.ty)
    (split (option_same (binding_eq.ghosts).eq binding_same a.binding b.binding) (number_same a.offset b.offset))) h in
    λ i. record { name = e.0 i; ty = e.1.0 i; binding = e.1.1.0 i; offset = e.1.1.1 i }

members_same : (xs ys : List StructMember) → pointwise (member.ghosts).eq xs ys ≡ true → xs ≡ ys
members_same = list_same (member.ghosts).eq member_same

pub inner_same : (a b : TypeInner) → (type_inner.ghosts).eq a b ≡ true → a ≡ b
inner_same (inner.Scalar s) (inner.Scalar s2) h = search rules
inner_same (inner.Vector n s) (inner.Vector n2 s2) h = search rules
inner_same (inner.Matrix c r s) (inner.Matrix c2 r2 s2) h = search rules
inner_same (inner.CooperativeMatrix s d) (inner.CooperativeMatrix s2 d2) h = search rules
inner_same (inner.Atomic s) (inner.Atomic s2) h = search rules
inner_same (inner.Pointer b p) (inner.Pointer b2 p2) h = search rules
inner_same (inner.ValuePointer n s p) (inner.ValuePointer n2 s2 p2) h =
    let e = split (option_same (size.ghosts).eq size_same n n2) (split (scalar_same s s2) (space_same p p2)) h in
    cc
inner_same (inner.Array b n k) (inner.Array b2 n2 k2) h =
    let e = split (handle_same b b2) (split (array_size_same n n2) (number_same k k2)) h in
    cc
inner_same (inner.Struct ms k) (inner.Struct ms2 k2) h =
    let e = split (members_same ms ms2) (number_same k k2) h in
    λ i. inner.Struct (e.0 i) (e.1 i)
inner_same (inner.Image d a c) (inner.Image d2 a2 c2) h =
    let e = split (dimension_same d d2) (split (flag_same a a2) (class_same c c2)) h in
    cc
inner_same (inner.Sampler c) (inner.Sampler c2) h = search rules
inner_same (inner.AccelerationStructure v) (inner.AccelerationStructure v2) h = search rules
inner_same (inner.RayQuery v) (inner.RayQuery v2) h = search rules
inner_same (inner.BindingArray b n) (inner.BindingArray b2 n2) h =
    let e = split (handle_same b b2) (array_size_same n n2) h in
    cc
inner_same _ _ h = cc

pub inner_iff : (a b : TypeInner) → IsTrue ((type_inner.ghosts).eq a b) ↔ (a ≡ b)
inner_iff a b = (λ h. inner_same a b (search rules), λ e. let f = type_inner_laws.refl a in rw (← e) (search rules))

-- two types that `==` finds equal have the same name and the same inside
pub type_same : (a b : IrType) → (ir_type.ghosts).eq a b ≡ true → a ≡ b
type_same a b h =
    let e = split (option_same (name.ghosts).eq name_same a.name b.name) (inner_same a.inner b.inner) h in
    λ i. record { name = e.0 i; inner = e.1 i }
