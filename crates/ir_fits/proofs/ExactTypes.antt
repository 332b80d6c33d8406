-- What the points of types ask for is that they fit.
use Rattle.std.proofs.Common.{◌<◌, ℕ, [], ◌++◌, All, length}
use Rattle.std.specs.Prelude.{⊤, IfSome}
use Rattle.ir_types.specs.declared.types.TypeInner.{TypeInner}
use Rattle.ir_types.specs.declared.types.TypeInner.TheVariants as inner
use Rattle.ir_types.specs.Types.{NamesTypesBelow}
use Rattle.ir_module.specs.declared.module.Module.{Module}
use Rattle.ir_facts.specs.Each.{EachAt}
use Rattle.ir_facts.specs.Fits.{FitsTypes, MemberCountFits}
use Rattle.ir_arena.specs.Points.{points_of_each}
use Rattle.ir_misfits.specs.declared.misfit.HandleOf.TheVariants as handle
use Rattle.ir_misfits.specs.declared.misfit.Place.TheVariants as place
use Rattle.ir_misfits.specs.declared.misfit.TypeField.TheVariants as type_field
use Rattle.ir_misfits.specs.declared.misfit.TypeOwner.{TypeOwner}
use Rattle.ir_misfits.specs.declared.misfit.TypeOwner.TheVariants.{OfModule}
use Rattle.ir_misfits.specs.MisfitPoints.{named_if}
use Rattle.ir_fits.specs.OfTypes.{member_points, inner_points, earlier_points, member_count_points, count_points, constant_points, override_points, types_points}
use Rattle.ir_misfits.proofs.Exact.{Exact, nothing, said, named_alone, named_if_alone, counted_then, both, each_exact, all_exact}

pub inner_exact : (of : TypeOwner) (n : ℕ) (i : TypeInner) → Exact (inner_points of n i) (NamesTypesBelow n i)
inner_exact of n (inner.Pointer base s) = named_alone (place.InType of type_field.Base) handle.Types n base
inner_exact of n (inner.Array base size stride) = named_alone (place.InType of type_field.Base) handle.Types n base
inner_exact of n (inner.BindingArray base size) = named_alone (place.InType of type_field.Base) handle.Types n base
inner_exact of n (inner.Struct members span) =
    all_exact (λ m. m.ty < n) (member_points of n) (λ k m. named_alone (place.InType of (type_field.Member k)) handle.Types n m.ty) members
inner_exact of n (inner.Scalar s) = nothing
inner_exact of n (inner.Vector k s) = nothing
inner_exact of n (inner.Matrix c r s) = nothing
inner_exact of n (inner.CooperativeMatrix s d) = nothing
inner_exact of n (inner.Atomic s) = nothing
inner_exact of n (inner.ValuePointer k s p) = nothing
inner_exact of n (inner.Image dim arrayed class) = nothing
inner_exact of n (inner.Sampler comparison) = nothing
inner_exact of n (inner.AccelerationStructure vertex_return) = nothing
inner_exact of n (inner.RayQuery vertex_return) = nothing

member_count_exact : (k : ℕ) (i : TypeInner) → Exact (member_count_points k i) (MemberCountFits i)
member_count_exact k (inner.Struct members span) =
    said (λ h. h.0) (λ h. (h, tt)) (counted_then (place.InType (OfModule k) type_field.Members) (length members) [] ⊤ nothing)
member_count_exact k (inner.Pointer base s) = nothing
member_count_exact k (inner.Array base size stride) = nothing
member_count_exact k (inner.BindingArray base size) = nothing
member_count_exact k (inner.Scalar s) = nothing
member_count_exact k (inner.Vector n s) = nothing
member_count_exact k (inner.Matrix c r s) = nothing
member_count_exact k (inner.CooperativeMatrix s d) = nothing
member_count_exact k (inner.Atomic s) = nothing
member_count_exact k (inner.ValuePointer n s p) = nothing
member_count_exact k (inner.Image dim arrayed class) = nothing
member_count_exact k (inner.Sampler comparison) = nothing
member_count_exact k (inner.AccelerationStructure vertex_return) = nothing
member_count_exact k (inner.RayQuery vertex_return) = nothing

pub types_exact : (m : Module) → Exact (types_points m) (FitsTypes m)
types_exact m =
    let n = length m.types in
    let P1 : Type 0 = EachAt (λ k t. NamesTypesBelow k t.inner) m.types in
    let P2 : Type 0 = All (λ t. MemberCountFits t.inner) m.types in
    let P3 : Type 0 = IfSome m.special_types.ray_desc (λ h. h < n) in
    let P4 : Type 0 = All (λ c. c.ty < n) m.constants in
    let P5 : Type 0 = All (λ o. o.ty < n) m.overrides in
    let ps1 = points_of_each earlier_points m.types in
    let ps2 = points_of_each count_points m.types in
    let ps3 = named_if place.RayDesc handle.Types n m.special_types.ray_desc in
    let ps4 = points_of_each (constant_points n) m.constants in
    let ps5 = points_of_each (override_points n) m.overrides in
    let e1 = each_exact earlier_points (λ k t. NamesTypesBelow k t.inner) (λ k t. inner_exact (OfModule k) k t.inner) m.types in
    let e2 = all_exact (λ t. MemberCountFits t.inner) count_points (λ k t. member_count_exact k t.inner) m.types in
    let e3 = named_if_alone place.RayDesc handle.Types n m.special_types.ray_desc in
    let e4 = all_exact (λ c. c.ty < n) (constant_points n) (λ k c. named_alone (place.ConstantType k) handle.Types n c.ty) m.constants in
    let e5 = all_exact (λ o. o.ty < n) (override_points n) (λ k o. named_alone (place.OverrideType k) handle.Types n o.ty) m.overrides in
    said
    (λ h. record { earlier = h.0; counts = h.1.0; ray_desc = h.1.1.0; constants = h.1.1.1.0; overrides = h.1.1.1.1 })
    (λ f. (f.earlier, (f.counts, (f.ray_desc, (f.constants, f.overrides)))))
    (both ps1 (ps2 ++ (ps3 ++ (ps4 ++ ps5))) P1 (P2 × (P3 × (P4 × P5))) e1
    (both ps2 (ps3 ++ (ps4 ++ ps5)) P2 (P3 × (P4 × P5)) e2 (both ps3 (ps4 ++ ps5) P3 (P4 × P5) e3 (both ps4 ps5 P4 P5 e4 e5))))
