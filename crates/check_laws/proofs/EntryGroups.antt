-- The locations of the groups of an accepted entry point are distinct.
use Rattle.std.proofs.Common.{◌≡◌, ℕ, zero, suc, ◌<◌, ◌==◌, Bool, true, false, not, ◌||◌, List, [], ◌∷◌, ◌++◌, Option, None, Some, map, take, slice_get, refl, sym, ap, ◌∙◌, subst, arith, append-nil, append_assoc}
use Rattle.std.proofs.lemmas.Bool.Decides.{nat_tests}
use Rattle.std.specs.List.{AllByRecursion, list_any}
use Rattle.std.specs.Option.{option_or}
use Rattle.ir_arena.proofs.Points.{first_holds, both_hold, first_of_both}
use Rattle.ir_arena.specs.Points.{Point, first_fault, within}
use Rattle.ir_module.specs.declared.functions.FunctionArgument.{FunctionArgument}
use Rattle.ir_module.specs.declared.functions.FunctionResult.{FunctionResult}
use Rattle.ir_module.specs.declared.module.EntryPoint.{EntryPoint}
use Rattle.ir_module.specs.declared.module.MeshStageInfo.{MeshStageInfo}
use Rattle.ir_module.specs.declared.module.Module.{Module}
use Rattle.ir_leaves.specs.declared.bindings.Binding.TheVariants as binding
use Rattle.ir_types.specs.declared.types.Type.{«Type» as IrType}
use Rattle.ir_facts.specs.declared.valid.info.FunctionInfo.{FunctionInfo}
use Rattle.ir_facts.specs.declared.valid.settings.Settings.{Settings}
use Rattle.ir_types.specs.declared.type_info.TypeInfo.{TypeInfo}
use Rattle.check_varyings.specs.Locations.{carried_type, interpolation_points, location_points, per_vertex_points, sharing_points}
use Rattle.ir_facts.specs.WhatIsChecked.{checks_bindings}
use Rattle.ir_facts.specs.Meaning.{Meaning}
use Rattle.check_varyings.specs.VaryingFaults.{VaryingFault, Itself}
use Rattle.check_varyings.specs.Varyings.{Item, VaryingPart, Placed, Bound, BlendSources, UnboundMember, Unbound, blend_points, group_points_from, is_at, item_points, part_points, placed, placed_parts, placed_points, seen_at, group_parts}
use Rattle.check_varyings.specs.declared.varying.MeshOutputType.TheVariants.{VertexOutput, PrimitiveOutput}
use Rattle.check_varyings.specs.declared.varying.VaryingPlace.{VaryingPlace}
use Rattle.check_entry.specs.EntryFaults.{EntryFault, OfArgument, OfResult, fault_of}
use Rattle.check_entry.specs.UsedGlobals.{globals_points}
use Rattle.check_entry.specs.InterfacePoints.{interface_points}
use Rattle.check_laws.specs.EntryFacts.{TakesLocation, LocationsAreDistinct, GroupsAreDistinct, mesh_items, AcceptedLocationsAreDistinct}
use Rattle.check_entry.specs.Mesh.{mesh_points, implied_points, variable_points}
use Rattle.check_entry.specs.EntryUses.{with_own_uses}
use Rattle.check_entry.specs.EntryVaryings.{argument_item, argument_points, declared_points, output_item, output_points, outputs_points, primitive_points, result_items, result_points, vertex_points}
use Rattle.check_laws.proofs.EntryAccepted.{accepted_entry}
use Rattle.check_laws.proofs.EntryFacts.{none_within, arguments_hold, results_hold}
use Rattle.check_scope.proofs.Flat.{holds_at}

pub none_joined : {Fault : Type 0} (ps qs : List (Point Fault)) → first_fault ps ≡ None → first_fault qs ≡ None → first_fault (ps ++ qs) ≡ None
none_joined ps qs e f = first_of_both ps qs ∙ ap (λ o. option_or o (first_fault qs)) e ∙ f

or_right : (b : Bool) → (b || true) ≡ true
or_right true = refl
or_right false = refl

may_free : (c s : Bool) → c ≡ true → (not c || not s) ≡ true → s ≡ false
may_free true true e f = cc
may_free true false e f = refl
may_free false s e f = cc

same_number : (a b : ℕ) → a ≡ b → (a == b) ≡ true
same_number a b e = grind (arith, nat_tests)

-- an item of a list is among its first ones
pub any_at : {A : Type 0} (test : A → Bool) (xs : List A) (i k : ℕ) (x : A) → i < k → slice_get xs i ≡ Some x → test x ≡ true → list_any test (take k xs) ≡ true
any_at test [] i k x lt e t = cc
any_at test (y ∷ ys) i zero x lt e t = absurd (omega arith)
any_at test (y ∷ ys) zero (suc k) x lt e t =
    let same : y ≡ x = cc in
    ap (λ z. test z || list_any test (take k ys)) same ∙ ap (λ b. b || list_any test (take k ys)) t
any_at test (y ∷ ys) (suc i) (suc k) x lt e t =
    let less : i < k = omega arith in ap (λ b. test y || b) (any_at test ys i k x less e t) ∙ or_right (test y)

-- a fact about each item
pub all_at : {A : Type 0} (P : A → Type 0) (xs : List A) → AllByRecursion P xs → (k : ℕ) (x : A) → slice_get xs k ≡ Some x → P x
all_at P [] h k x e = cc
all_at P (y ∷ ys) h zero x e = let same : y ≡ x = cc in subst P same h.0
all_at P (y ∷ ys) h (suc k) x e = all_at P ys h.1 k x e

pub all_both : {A : Type 0} (P : A → Type 0) (xs ys : List A) → AllByRecursion P xs → AllByRecursion P ys → AllByRecursion P (xs ++ ys)
all_both P [] ys h g = g
all_both P (x ∷ xs) ys h g = (h.0, all_both P xs ys h.1 g)

abbrev IsChecked : VaryingPlace → Type 0
IsChecked place = checks_bindings place.flags ≡ true

all_placed : (place : VaryingPlace) (parts : List VaryingPart) → IsChecked place → AllByRecursion (λ (p : Placed). IsChecked p.place) (placed place parts)
all_placed place [] h = tt
all_placed place (p ∷ ps) h = (h, all_placed place ps h)

-- a part that takes a location is at it
takes_at : (l : ℕ) (part : VaryingPart) → TakesLocation l part → is_at l part ≡ true
takes_at l (Bound ty (binding.Location given i s f p)) e = same_number l given e
takes_at l (Bound ty (binding.BuiltIn b)) e = absurd e
takes_at l BlendSources e = same_number l 0 e
takes_at l (UnboundMember index) e = absurd e
takes_at l Unbound e = absurd e

module _ (types : List IrType) (infos : List TypeInfo) where
  all_parts : (items : List Item) → AllByRecursion (λ (x : Item). IsChecked x.place) items → AllByRecursion (λ (p : Placed). IsChecked p.place) (group_parts types infos items)
  all_parts [] h = tt
  all_parts (x ∷ xs) h =
      all_both (λ (p : Placed). IsChecked p.place) (placed_parts types infos x) (group_parts types infos xs) (all_placed x.place _ h.0) (all_parts xs h.1)

  placed_both : (ps qs earlier : List Placed) → placed_points types infos earlier (ps ++ qs) ≡ placed_points types infos earlier ps ++ placed_points types infos (earlier ++ ps) qs
  placed_both [] qs earlier = ap (λ e. placed_points types infos e qs) (sym (append-nil earlier))
  placed_both (p ∷ ps) qs earlier =
      let here = part_points p.place types infos (seen_at p.place earlier) p.part in
      ap (λ l. here ++ l) (placed_both ps qs (earlier ++ p ∷ []))
      ∙ sym (append_assoc here (placed_points types infos (earlier ++ p ∷ []) ps) (placed_points types infos ((earlier ++ p ∷ []) ++ ps) qs))
      ∙ ap (λ e. (here ++ placed_points types infos (earlier ++ p ∷ []) ps) ++ placed_points types infos e qs) (append_assoc earlier (p ∷ []) ps)

  pub group_none : (fault : ℕ → VaryingFault → EntryFault) (items : List Item) (earlier : List Placed) (index : ℕ) → first_fault (group_points_from types infos fault earlier index items) ≡ None → first_fault (placed_points types infos earlier (group_parts types infos items)) ≡ None
  group_none fault [] earlier index h = refl
  group_none fault (x ∷ xs) earlier index h =
      let both = both_hold (within (fault index) (item_points types infos earlier x)) (group_points_from types infos fault (earlier ++ placed_parts types infos x) (suc index) xs) h in
      ap first_fault (placed_both (placed_parts types infos x) (group_parts types infos xs) earlier)
      ∙ none_joined (item_points types infos earlier x) (placed_points types infos (earlier ++ placed_parts types infos x) (group_parts types infos xs)) (none_within (fault index) (item_points types infos earlier x) both.0) (group_none fault xs (earlier ++ placed_parts types infos x) (suc index) both.1)

  abbrev pub Passes : List Placed → Placed → Type 0
  Passes earlier p = first_fault (part_points p.place types infos (seen_at p.place earlier) p.part) ≡ None

  pub part_none : (ps earlier : List Placed) → first_fault (placed_points types infos earlier ps) ≡ None → (k : ℕ) (p : Placed) → slice_get ps k ≡ Some p → Passes (earlier ++ take k ps) p
  part_none [] earlier h k p e = cc
  part_none (q ∷ qs) earlier h zero p e =
      let same : q ≡ p = cc in
      let here = (both_hold (part_points q.place types infos (seen_at q.place earlier) q.part) (placed_points types infos (earlier ++ q ∷ []) qs) h).0 in
      subst (λ l. Passes l p) (sym (append-nil earlier)) (subst (Passes earlier) same here)
  part_none (q ∷ qs) earlier h (suc k) p e =
      subst (λ l. Passes l p) (append_assoc earlier (q ∷ []) (take k qs)) (part_none qs (earlier ++ q ∷ []) (both_hold (part_points q.place types infos (seen_at q.place earlier) q.part) (placed_points types infos (earlier ++ q ∷ []) qs) h).1 k p e)

  -- a part that passes takes a location that is free
  free_at : (place : VaryingPlace) (earlier : List Placed) (part : VaryingPart) (l : ℕ) → IsChecked place → TakesLocation l part → first_fault (part_points place types infos (seen_at place earlier) part) ≡ None → list_any (λ (p : Placed). is_at l p.part) earlier ≡ false
  free_at place earlier (Bound ty (binding.Location given i s f p)) l on is h =
      let seen = seen_at place earlier in
      let carried = carried_type types ty i in
      let sharing = sharing_points place infos seen carried given f p in
      let rest = interpolation_points place types carried i s p in
      let points = none_within Itself (location_points place types infos seen ty given i s f p) h in
      let behind = (first_holds _ _ (per_vertex_points place types ty i s ++ (sharing ++ rest)) points).1 in
      let shared = (both_hold sharing rest (both_hold (per_vertex_points place types ty i s) (sharing ++ rest) behind).1).0 in
      let free = may_free (checks_bindings place.flags) (list_any (λ (p : Placed). is_at given p.part) earlier) on (holds_at 4 sharing shared) in
      subst (λ n. list_any (λ (p : Placed). is_at n p.part) earlier ≡ false) (sym is) free
  free_at place earlier (Bound ty (binding.BuiltIn b)) l on is h = absurd is
  free_at place earlier BlendSources l on is h =
      let free = may_free (checks_bindings place.flags) (list_any (λ (p : Placed). is_at 0 p.part) earlier) on (holds_at 2 (blend_points place (seen_at place earlier)) h) in
      subst (λ n. list_any (λ (p : Placed). is_at n p.part) earlier ≡ false) (sym is) free
  free_at place earlier (UnboundMember index) l on is h = absurd is
  free_at place earlier Unbound l on is h = absurd is

  module _ (parts : List Placed) (on : AllByRecursion (λ (p : Placed). IsChecked p.place) parts) (none : first_fault (placed_points types infos [] parts) ≡ None) where
    no_earlier : (l i j : ℕ) (p q : Placed) → slice_get parts i ≡ Some p → slice_get parts j ≡ Some q → TakesLocation l p.part → TakesLocation l q.part → i < j → ⊥
    no_earlier l i j p q at_i at_j first second lt =
        let free = free_at q.place (take j parts) q.part l (all_at (λ (p : Placed). IsChecked p.place) parts on j q at_j) second (part_none parts [] none j q at_j) in
        let taken = any_at (λ (p : Placed). is_at l p.part) parts i j p lt at_i (takes_at l p.part first) in
        let clash : true ≡ false = sym taken ∙ free in cc

    locations_are_distinct : LocationsAreDistinct parts
    locations_are_distinct l i j p q at_i at_j first second =
        let less : i < j → ⊥ = no_earlier l i j p q at_i at_j first second in
        let more : j < i → ⊥ = no_earlier l j i q p at_j at_i second first in omega arith

no_parts : LocationsAreDistinct []
no_parts l i j p q at_i at_j first second = cc

module _ (below : Meaning) (settings : Settings) (infos : List TypeInfo) (program : Module) (ep : EntryPoint) (on : checks_bindings settings.flags ≡ true) where
  arguments_checked : (arguments : List FunctionArgument) → AllByRecursion (λ (x : Item). IsChecked x.place) (map (argument_item settings ep) arguments)
  arguments_checked [] = tt
  arguments_checked (a ∷ as_more) = (on, arguments_checked as_more)

  results_checked : (declared : Option FunctionResult) → AllByRecursion (λ (x : Item). IsChecked x.place) (result_items settings ep declared)
  results_checked None = tt
  results_checked (Some declared) = (on, tt)

  of_items : (fault : ℕ → VaryingFault → EntryFault) (items : List Item) → AllByRecursion (λ (x : Item). IsChecked x.place) items → first_fault (group_points_from program.types infos fault [] 0 items) ≡ None → LocationsAreDistinct (group_parts program.types infos items)
  of_items fault items checked none =
      locations_are_distinct program.types infos (group_parts program.types infos items) (all_parts program.types infos items checked) (group_none program.types infos fault items [] 0 none)

  of_mesh : (m : Option MeshStageInfo) → first_fault (mesh_points below settings infos program ep m) ≡ None → LocationsAreDistinct (group_parts program.types infos (mesh_items settings ep m))
  of_mesh None none = no_parts
  of_mesh (Some mesh) none =
      let types = program.types in
      let vertex = output_item settings ep VertexOutput mesh.vertex_output_type in
      let primitive = output_item settings ep PrimitiveOutput mesh.primitive_output_type in
      let vertices = placed_parts types infos vertex in
      let primitives = placed_parts types infos primitive in
      let outputs = outputs_points settings types infos ep mesh.vertex_output_type mesh.primitive_output_type in
      let implied = within fault_of (implied_points settings.capabilities program (below.mesh_analysis program mesh.output_variable) mesh) in
      let of_outputs = (both_hold implied outputs (both_hold (within fault_of (variable_points program mesh)) (implied ++ outputs) none).1).1 in
      let both = both_hold (vertex_points settings types infos ep mesh.vertex_output_type) (primitive_points settings types infos ep vertices mesh.primitive_output_type) of_outputs in
      let first = none_within OfResult (item_points types infos [] vertex) (first_holds _ _ (within OfResult (item_points types infos [] vertex)) (both_hold (output_points settings types infos ep VertexOutput [] mesh.vertex_output_type) _ both.0).0).1 in
      let second = none_within OfResult (item_points types infos vertices primitive) (first_holds _ _ (within OfResult (item_points types infos vertices primitive)) (both_hold (output_points settings types infos ep PrimitiveOutput vertices mesh.primitive_output_type) _ both.1).0).1 in
      let later = subst (λ ps. first_fault (placed_points types infos vertices ps) ≡ None) (sym (append-nil primitives)) second in
      let all = ap first_fault (placed_both types infos vertices (primitives ++ []) []) ∙ none_joined (placed_points types infos [] vertices) (placed_points types infos vertices (primitives ++ [])) first later in
      locations_are_distinct types infos (group_parts types infos (vertex ∷ primitive ∷ [])) (all_parts types infos (vertex ∷ primitive ∷ []) (on, (on, tt))) all

  pub groups_are_distinct : (info : FunctionInfo) → first_fault (interface_points below settings infos program ep info) ≡ None → GroupsAreDistinct settings program.types infos ep
  groups_are_distinct info none =
      let own = with_own_uses ep info in
      let globals = within fault_of (globals_points below settings.flags program ep own.global_uses) in
      let mesh = mesh_points below settings infos program ep ep.mesh_info in
      let behind = arguments_hold below settings infos program ep info none in
      let results = results_hold below settings infos program ep info none in
      let result = (both_hold (result_points settings program.types infos ep) (globals ++ mesh) results).0 in
      record {
        arguments = of_items OfArgument (map (argument_item settings ep) ep.function.arguments) (arguments_checked ep.function.arguments) (both_hold (argument_points settings program.types infos ep) (result_points settings program.types infos ep ++ (globals ++ mesh)) behind).0;
        results = of_items (λ _ f. OfResult f) (result_items settings ep ep.function.result) (results_checked ep.function.result) (both_hold (declared_points settings program.types infos ep ep.function.result) _ result).0;
        outputs = of_mesh ep.mesh_info (both_hold globals mesh (both_hold (result_points settings program.types infos ep) (globals ++ mesh) results).1).1;
      }

pub accepted_locations : AcceptedLocationsAreDistinct
accepted_locations below settings infos trace program earlier ep outcome e on =
    let k = accepted_entry below settings infos trace program earlier ep outcome e in
    groups_are_distinct below settings infos program ep on k.function.info k.points
