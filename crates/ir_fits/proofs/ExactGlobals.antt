-- What the points of globals ask for is that they fit.
use Rattle.std.proofs.Common.{◌≡◌, ◌<◌, ◌↔◌, ℕ, Bool, true, false, not, List, [], ◌∷◌, ◌++◌, All, Option, Some, None, length, refl, eqb-true, eq-eqb}
use Rattle.std.specs.Prelude.{IfSome, IsSomeAnd}
use Rattle.ir_types.specs.declared.types.AddressSpace.{AddressSpace}
use Rattle.ir_types.specs.declared.types.AddressSpace.TheVariants as space
use Rattle.ir_types.specs.declared.types.ImageClass.TheVariants as class
use Rattle.ir_types.specs.declared.types.TypeInner.{TypeInner}
use Rattle.ir_types.specs.declared.types.TypeInner.TheVariants as inner
use Rattle.ir_types.specs.declared.types.Type.{«Type» as IrType}
use Rattle.ir_types.specs.declared.typifier.TypeResolution.{TypeResolution}
use Rattle.ir_types.specs.declared.typifier.TypeResolution.TheVariants.{Handle, Value}
use Rattle.ir_types.specs.Types.{ResolutionFits, inner_at}
use Rattle.ir_module.specs.declared.module.GlobalVariable.{GlobalVariable}
use Rattle.ir_module.specs.declared.module.Module.{Module}
use Rattle.ir_facts.specs.Fits.{FitsGlobals, GlobalFits, IsUnbindable, IsUnbindableArray, NameEarlierExpressions}
use Rattle.ir_facts.specs.declared.valid.info.ModuleInfo.{ModuleInfo}
use Rattle.ir_arena.specs.Points.{points_of_each}
use Rattle.ir_misfits.specs.declared.misfit.HandleOf.TheVariants as handle
use Rattle.ir_misfits.specs.declared.misfit.Misfit.{Misfit}
use Rattle.ir_misfits.specs.declared.misfit.Owner.TheVariants as owner
use Rattle.ir_misfits.specs.declared.misfit.Place.TheVariants as place
use Rattle.ir_misfits.specs.declared.misfit.Problem.TheVariants as problem
use Rattle.ir_misfits.specs.declared.misfit.TypeField.TheVariants as type_field
use Rattle.ir_misfits.specs.declared.misfit.TypeOwner.TheVariants.{OfGlobalExpression}
use Rattle.ir_misfits.specs.declared.misfit.VariableField.TheVariants as field
use Rattle.ir_misfits.specs.MisfitPoints.{named_if}
use Rattle.ir_misfits.specs.OfExpressions.{expressions_points}
use Rattle.ir_fits.specs.OfGlobals.{is_unbindable, is_unbindable_array, is_bindable, global_points, resolution_points, one_type_each, globals_points}
use Rattle.ir_misfits.proofs.Exact.{Exact, said, point_then, point_alone, named_then, named_alone, named_if_alone, both, all_exact}
use Rattle.ir_misfits.proofs.ExactParts.{expressions_exact}
use Rattle.ir_fits.proofs.ExactTypes.{inner_exact}

unbindable : (o : Option TypeInner) → (is_unbindable o ≡ true) ↔ IsSomeAnd o IsUnbindable
unbindable None = (λ e. cc, λ h. absurd h)
unbindable (Some (inner.Image dim arrayed class.External)) = (λ e. tt, λ h. refl)
unbindable (Some (inner.Image dim arrayed (class.Sampled kind multi))) = (λ e. cc, λ h. absurd h)
unbindable (Some (inner.Image dim arrayed (class.Depth multi))) = (λ e. cc, λ h. absurd h)
unbindable (Some (inner.Image dim arrayed (class.Storage format access))) = (λ e. cc, λ h. absurd h)
unbindable (Some (inner.RayQuery vertex_return)) = (λ e. tt, λ h. refl)
unbindable (Some (inner.Pointer base s)) = (λ e. cc, λ h. absurd h)
unbindable (Some (inner.Array base size stride)) = (λ e. cc, λ h. absurd h)
unbindable (Some (inner.BindingArray base size)) = (λ e. cc, λ h. absurd h)
unbindable (Some (inner.Struct members span)) = (λ e. cc, λ h. absurd h)
unbindable (Some (inner.Scalar s)) = (λ e. cc, λ h. absurd h)
unbindable (Some (inner.Vector n s)) = (λ e. cc, λ h. absurd h)
unbindable (Some (inner.Matrix c r s)) = (λ e. cc, λ h. absurd h)
unbindable (Some (inner.CooperativeMatrix s d)) = (λ e. cc, λ h. absurd h)
unbindable (Some (inner.Atomic s)) = (λ e. cc, λ h. absurd h)
unbindable (Some (inner.ValuePointer n s p)) = (λ e. cc, λ h. absurd h)
unbindable (Some (inner.Sampler comparison)) = (λ e. cc, λ h. absurd h)
unbindable (Some (inner.AccelerationStructure vertex_return)) = (λ e. cc, λ h. absurd h)

unbindable_array : (types : List IrType) (o : Option TypeInner) → (is_unbindable_array types o ≡ true) ↔ IsSomeAnd o (IsUnbindableArray types)
unbindable_array types None = (λ e. cc, λ h. absurd h)
unbindable_array types (Some (inner.BindingArray base size)) = unbindable (inner_at types base)
unbindable_array types (Some (inner.Image dim arrayed c)) = (λ e. cc, λ h. absurd h)
unbindable_array types (Some (inner.RayQuery vertex_return)) = (λ e. cc, λ h. absurd h)
unbindable_array types (Some (inner.Pointer base s)) = (λ e. cc, λ h. absurd h)
unbindable_array types (Some (inner.Array base size stride)) = (λ e. cc, λ h. absurd h)
unbindable_array types (Some (inner.Struct members span)) = (λ e. cc, λ h. absurd h)
unbindable_array types (Some (inner.Scalar s)) = (λ e. cc, λ h. absurd h)
unbindable_array types (Some (inner.Vector n s)) = (λ e. cc, λ h. absurd h)
unbindable_array types (Some (inner.Matrix c r s)) = (λ e. cc, λ h. absurd h)
unbindable_array types (Some (inner.CooperativeMatrix s d)) = (λ e. cc, λ h. absurd h)
unbindable_array types (Some (inner.Atomic s)) = (λ e. cc, λ h. absurd h)
unbindable_array types (Some (inner.ValuePointer n s p)) = (λ e. cc, λ h. absurd h)
unbindable_array types (Some (inner.Sampler comparison)) = (λ e. cc, λ h. absurd h)
unbindable_array types (Some (inner.AccelerationStructure vertex_return)) = (λ e. cc, λ h. absurd h)

denied : (b : Bool) (P : Type 0) → (b ≡ true) ↔ P → (not b ≡ true) ↔ (P → ⊥)
denied true P iff = (λ e. cc, λ h. absurd (h (iff.0 refl)))
denied false P iff = (λ e p. let e : false ≡ true = iff.1 p in cc, λ h. refl)

-- what a global may be, in each space
abbrev Bindable : List IrType → AddressSpace → ℕ → Type 0
Bindable types s ty = s ≡ space.Handle → IsSomeAnd (inner_at types ty) (IsUnbindableArray types) → ⊥

elsewhere : (types : List IrType) (s : AddressSpace) (ty : ℕ) → (s ≡ space.Handle → ⊥) → (true ≡ true) ↔ Bindable types s ty
elsewhere types s ty other = (λ e here h. other here, λ h. refl)

bindable : (types : List IrType) (s : AddressSpace) (ty : ℕ) → (is_bindable types s ty ≡ true) ↔ Bindable types s ty
bindable types space.Handle ty =
    let iff = denied (is_unbindable_array types (inner_at types ty)) (IsSomeAnd (inner_at types ty) (IsUnbindableArray types)) (unbindable_array types (inner_at types ty)) in
    (λ e here. iff.0 e, λ h. iff.1 (h refl))
bindable types space.Function ty = elsewhere types space.Function ty (λ e. cc)
bindable types space.Private ty = elsewhere types space.Private ty (λ e. cc)
bindable types space.WorkGroup ty = elsewhere types space.WorkGroup ty (λ e. cc)
bindable types space.Uniform ty = elsewhere types space.Uniform ty (λ e. cc)
bindable types (space.Storage access) ty = elsewhere types (space.Storage access) ty (λ e. cc)
bindable types space.Immediate ty = elsewhere types space.Immediate ty (λ e. cc)
bindable types space.TaskPayload ty = elsewhere types space.TaskPayload ty (λ e. cc)
bindable types space.RayPayload ty = elsewhere types space.RayPayload ty (λ e. cc)
bindable types space.IncomingRayPayload ty = elsewhere types space.IncomingRayPayload ty (λ e. cc)

global_exact : (m : Module) (k : ℕ) (g : GlobalVariable) → Exact (global_points m k g) (GlobalFits m g)
global_exact m k g =
    let init = place.InGlobal k field.Init in
    let n = length m.global_expressions in
    let P : Type 0 = IfSome g.init (λ h. h < n) in
    let Q : Type 0 = Bindable m.types g.space g.ty in
    let fault : Misfit = record { place = place.InGlobal k field.Ty; problem = problem.Unbindable } in
    let last = point_alone (is_bindable m.types g.space g.ty) fault Q (bindable m.types g.space g.ty).0 (bindable m.types g.space g.ty).1 in
    let rest = both (named_if init handle.GlobalExpressions n g.init) ((is_bindable m.types g.space g.ty, fault) ∷ []) P Q (named_if_alone init handle.GlobalExpressions n g.init) last in
    said (λ h. record { ty = h.0; init = h.1.0; bindable = h.1.1 }) (λ f. (f.ty, (f.init, f.bindable)))
    (named_then (place.InGlobal k field.Ty) handle.Types (length m.types) g.ty (named_if init handle.GlobalExpressions n g.init ++ (is_bindable m.types g.space g.ty, fault) ∷ []) (P × Q) rest)

resolution_exact : (n k : ℕ) (r : TypeResolution) → Exact (resolution_points n k r) (ResolutionFits n r)
resolution_exact n k (Handle h) = named_alone (place.InType (OfGlobalExpression k) type_field.Whole) handle.Types n h
resolution_exact n k (Value i) = inner_exact (OfGlobalExpression k) n i

pub globals_exact : (m : Module) (info : ModuleInfo) → Exact (globals_points m info.global_types) (FitsGlobals m info)
globals_exact m info =
    let types = info.global_types in
    let n = length m.types in
    let P1 : Type 0 = All (GlobalFits m) m.global_variables in
    let P2 : Type 0 = length types ≡ length m.global_expressions in
    let P3 : Type 0 = All (ResolutionFits n) types in
    let P4 : Type 0 = NameEarlierExpressions m.global_expressions in
    let ps1 = points_of_each (global_points m) m.global_variables in
    let one = one_type_each m types in
    let ps3 = points_of_each (resolution_points n) types in
    let ps4 = expressions_points owner.Module m.global_expressions in
    let e1 = all_exact (GlobalFits m) (global_points m) (global_exact m) m.global_variables in
    let e3 = all_exact (ResolutionFits n) (resolution_points n) (resolution_exact n) types in
    let e4 = expressions_exact owner.Module m.global_expressions in
    said
    (λ h. record { globals = h.0; count = h.1.0; types = h.1.1.0; earlier = h.1.1.1 })
    (λ f. (f.globals, (f.count, (f.types, f.earlier))))
    (both ps1 (one ∷ (ps3 ++ ps4)) P1 (P2 × (P3 × P4)) e1
    (point_then one.0 one.1 (ps3 ++ ps4) P2 (P3 × P4) (eqb-true (length types) (length m.global_expressions)) (eq-eqb (length types) (length m.global_expressions))
    (both ps3 ps4 P3 P4 e3 e4)))
