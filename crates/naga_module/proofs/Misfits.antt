-- A module has no misfit exactly where all tests of conditions hold.
use Rattle.std.proofs.Common.{◌≡◌, ◌↔◌, ◌<◌, ℕ, true, List, ◌++◌, not, ◌||◌, All, Option, Some, None, Result, Ok, Err, length, refl, sym, ◌∙◌, eqb-true, eq-eqb}
use Rattle.std.specs.Prelude.{IfErr, IsSome, is_some}
use Rattle.ir_types.specs.SpaceTests.{is_task_payload}
use Rattle.ir_types.specs.declared.types.AddressSpace.{AddressSpace}
use Rattle.ir_types.specs.declared.types.AddressSpace.TheVariants as space
use Rattle.ir_types.specs.declared.typifier.TypeResolution.{TypeResolution}
use Rattle.ir_module.specs.declared.module.EntryPoint.{EntryPoint}
use Rattle.ir_module.specs.declared.module.GlobalVariable.{GlobalVariable}
use Rattle.ir_module.specs.declared.module.Module.{Module}
use Rattle.ir_types.specs.declared.type_info.Disalignment.{Disalignment}
use Rattle.ir_types.specs.declared.type_info.TypeInfo.{TypeInfo}
use Rattle.ir_facts.specs.Each.{EachAt}
use Rattle.ir_facts.specs.Fits.{FitsTypes, FitsGlobals, FitsFunction, FitsEntry}
use Rattle.ir_arena.specs.Points.{first_fault, points_of_each}
use Rattle.ir_misfits.specs.declared.misfit.HandleOf.TheVariants.{Types}
use Rattle.ir_misfits.specs.declared.misfit.Misfit.{Misfit}
use Rattle.ir_misfits.specs.declared.misfit.Owner.TheVariants as owner
use Rattle.ir_misfits.specs.declared.misfit.Place.{Place}
use Rattle.ir_misfits.specs.declared.misfit.Place.TheVariants as place
use Rattle.ir_misfits.specs.declared.misfit.Problem.TheVariants.{UnknownSize}
use Rattle.ir_misfits.specs.declared.misfit.VariableField.TheVariants.{Ty}
use Rattle.ir_misfits.specs.MisfitPoints.{MisfitPoints}
use Rattle.ir_fits.specs.OfTypes.{types_points}
use Rattle.ir_fits.specs.OfGlobals.{globals_points}
use Rattle.ir_fits.specs.OfFunctions.{function_points}
use Rattle.ir_fits.specs.OfEntries.{entry_points}
use Rattle.ir_misfits.proofs.Exact.{Exact, nothing, said, point_then, point_alone, named_alone, both, each_exact, all_exact}
use Rattle.ir_fits.proofs.ExactTypes.{types_exact}
use Rattle.ir_fits.proofs.ExactGlobals.{globals_exact}
use Rattle.ir_fits.proofs.ExactEntries.{entry_exact}
use Rattle.ir_fits.proofs.ExactFunctions.{function_exact}
use Rattle.ir_facts.specs.Meaning.{Meaning}
use Rattle.check_entry.specs.InterfacePoints.{HasPayloadSizes}
use Rattle.check_entry.specs.GivenInfos.{AreInfosOf, NamesTypes}
use Rattle.naga_module.specs.Misfits.{layout_points, info_points, one_info_each, infos_points, module_function_points, entry_point_points, size_points, module_points, AllFits}
use Rattle.naga_module.specs.ModuleJudgement.{first_infos}

layout_exact : (at : Place) (n : ℕ) (r : Result ℕ (ℕ × Disalignment)) → Exact (layout_points at n r) (IfErr r (λ e. e.0 < n))
layout_exact at n (Ok alignment) = nothing
layout_exact at n (Err bad) = named_alone at Types n bad.0

info_exact : (n k : ℕ) (i : TypeInfo) → Exact (info_points n k i) (NamesTypes n i)
info_exact n k i =
    let P : Type 0 = IfErr i.storage_layout (λ e. e.0 < n) in
    let Q : Type 0 = IfErr i.uniform_layout (λ e. e.0 < n) in
    both (layout_points (place.StorageLayout k) n i.storage_layout) (layout_points (place.UniformLayout k) n i.uniform_layout) P Q
    (layout_exact (place.StorageLayout k) n i.storage_layout) (layout_exact (place.UniformLayout k) n i.uniform_layout)

infos_exact : (m : Module) (infos : List TypeInfo) → Exact (infos_points m infos) (AreInfosOf m infos)
infos_exact m infos =
    let n = length m.types in
    let one = one_info_each m infos in
    said (λ h. record { one_each = h.0; named = h.1 }) (λ a. (a.one_each, a.named))
    (point_then one.0 one.1 (points_of_each (info_points n) infos) (length infos ≡ n) (All (NamesTypes n) infos)
    (eqb-true (length infos) n) (eq-eqb (length infos) n) (all_exact (NamesTypes n) (info_points n) (info_exact n) infos))

-- the size of a payload is known
elsewhere : (s : AddressSpace) (o : Option ℕ) → (s ≡ space.TaskPayload → ⊥) → (true ≡ true) ↔ (s ≡ space.TaskPayload → IsSome o)
elsewhere s o other = (λ e same. absurd (other same), λ h. refl)

size_known : (s : AddressSpace) (o : Option ℕ) → ((not (is_task_payload s) || is_some o) ≡ true) ↔ (s ≡ space.TaskPayload → IsSome o)
size_known space.TaskPayload o = (λ e same. e, λ h. h refl)
size_known space.Function o = elsewhere space.Function o (λ e. cc)
size_known space.Private o = elsewhere space.Private o (λ e. cc)
size_known space.WorkGroup o = elsewhere space.WorkGroup o (λ e. cc)
size_known space.Uniform o = elsewhere space.Uniform o (λ e. cc)
size_known (space.Storage access) o = elsewhere (space.Storage access) o (λ e. cc)
size_known space.Handle o = elsewhere space.Handle o (λ e. cc)
size_known space.Immediate o = elsewhere space.Immediate o (λ e. cc)
size_known space.RayPayload o = elsewhere space.RayPayload o (λ e. cc)
size_known space.IncomingRayPayload o = elsewhere space.IncomingRayPayload o (λ e. cc)

size_exact : (below : Meaning) (m : Module) (k : ℕ) (g : GlobalVariable) → Exact (size_points below m k g) (g.space ≡ space.TaskPayload → IsSome (below.size_of m g.ty))
size_exact below m k g =
    let known = size_known g.space (below.size_of m g.ty) in
    point_alone (not (is_task_payload g.space) || is_some (below.size_of m g.ty))
    (record { place = place.InGlobal k Ty; problem = UnknownSize g.ty })
    (g.space ≡ space.TaskPayload → IsSome (below.size_of m g.ty)) known.0 known.1

pub module_exact : (below : Meaning) (types : List TypeInfo) (m : Module) (global_types : List TypeResolution) →
    Exact (module_points below types m global_types) (AllFits below types m global_types)
module_exact below types m global_types =
    let n = length m.functions in
    let Entry : EntryPoint → Type 0 = λ p. FitsFunction p.function m n × FitsEntry p m in
    let P1 : Type 0 = AreInfosOf m types in
    let P2 : Type 0 = FitsTypes m in
    let P3 : Type 0 = FitsGlobals m (first_infos global_types) in
    let P4 : Type 0 = EachAt (λ k f. FitsFunction f m k) m.functions in
    let P5 : Type 0 = HasPayloadSizes below m in
    let P6 : Type 0 = All Entry m.entry_points in
    let ps1 = infos_points m types in
    let ps2 = types_points m in
    let ps3 = globals_points m global_types in
    let ps4 = points_of_each (module_function_points m) m.functions in
    let ps5 = points_of_each (size_points below m) m.global_variables in
    let ps6 = points_of_each (entry_point_points m) m.entry_points in
    let e4 = each_exact (module_function_points m) (λ k f. FitsFunction f m k) (λ k f. function_exact (owner.Function k) f m k) m.functions in
    let e5 = all_exact (λ g. g.space ≡ space.TaskPayload → IsSome (below.size_of m g.ty)) (size_points below m) (size_exact below m) m.global_variables in
    let entry : (k : ℕ) (p : EntryPoint) → Exact (entry_point_points m k p) (Entry p) =
    λ k p. both (function_points (owner.EntryPoint k) p.function m n) (entry_points k p m) (FitsFunction p.function m n) (FitsEntry p m)
    (function_exact (owner.EntryPoint k) p.function m n) (entry_exact k p m) in
    let e6 = all_exact Entry (entry_point_points m) entry m.entry_points in
    said
    (λ h. record { infos = h.0; types_fit = h.1.0; globals = h.1.1.0; functions = h.1.1.1.0; sizes = h.1.1.1.1.0; entries = h.1.1.1.1.1 })
    (λ a. (a.infos, (a.types_fit, (a.globals, (a.functions, (a.sizes, a.entries))))))
    (both ps1 (ps2 ++ (ps3 ++ (ps4 ++ (ps5 ++ ps6)))) P1 (P2 × (P3 × (P4 × (P5 × P6)))) (infos_exact m types)
    (both ps2 (ps3 ++ (ps4 ++ (ps5 ++ ps6))) P2 (P3 × (P4 × (P5 × P6))) (types_exact m)
    (both ps3 (ps4 ++ (ps5 ++ ps6)) P3 (P4 × (P5 × P6)) (globals_exact m (first_infos global_types))
    (both ps4 (ps5 ++ ps6) P4 (P5 × P6) e4 (both ps5 ps6 P5 P6 e5 e6)))))

-- an answer that is the first misfit: it is none exactly where what is asked for holds, and there is one elsewhere
pub none_exactly : (o : Option Misfit) (ps : MisfitPoints) (P : Type 0) → o ≡ first_fault ps → Exact ps P → (o ≡ None) ↔ P
none_exactly o ps P e exact = (λ none. exact.holds (sym e ∙ none), λ h. e ∙ exact.passes h)

pub some_where : (o : Option Misfit) (ps : MisfitPoints) (P : Type 0) → o ≡ first_fault ps → Exact ps P → (P → ⊥) → IsSome o
some_where None ps P e exact fails = absurd (fails (exact.holds (sym e)))
some_where (Some misfit) ps P e exact fails = refl
