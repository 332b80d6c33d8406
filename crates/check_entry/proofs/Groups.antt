-- The points of a group, item by item.
use Rattle.std.proofs.Common.{◌≡◌, ℕ, suc, ◌+◌, ◌<◌, ◌≤◌, List, [], ◌∷◌, ◌++◌, Option, None, Some, Result, Ok, Err, length, take, drop, get_or, refl, sym, ap, ◌∙◌, subst, arith, append-nil, append_assoc}
use Rattle.std.proofs.lemmas.List.{at_drop_more, at_drop_all, take_more}
use Rattle.std.specs.Option.{option_or}
use Rattle.std.specs.Prelude.{Bool, true, false, IsErr, if◌then◌else◌}
use Rattle.ir_arena.proofs.Points.{first_of_both}
use Rattle.ir_arena.specs.Points.{Point, first_fault, within}
use Rattle.ir_types.specs.declared.types.Type.{«Type» as IrType}
use Rattle.ir_types.specs.declared.type_info.TypeInfo.{TypeInfo}
use Rattle.ir_module.specs.declared.functions.FunctionResult.{FunctionResult}
use Rattle.ir_module.specs.declared.module.EntryPoint.{EntryPoint}
use Rattle.ir_leaves.specs.declared.bindings.Binding.{Binding}
use Rattle.ir_arena.specs.declared.span.Refusal.{Refusal}
use Rattle.ir_arena.specs.declared.span.Refusal.TheVariants as refusal
use Rattle.ir_facts.specs.declared.valid.settings.Settings.{Settings}
use Rattle.ir_types.specs.TypeTests.{is_struct, it_is}
use Rattle.ir_types.specs.Types.{inner_at}
use Rattle.ir_leaves.specs.declared.built_in.BuiltIn.TheVariants.{PointIndex, LineIndices, TriangleIndices}
use Rattle.check_varyings.proofs.Seeing.{points_are_by_position, sees_locations_alone}
use Rattle.check_varyings.specs.Seen.{Seen}
use Rattle.check_varyings.specs.VaryingFaults.{VaryingFault}
use Rattle.check_varyings.specs.Varyings.{Item, Placed, placed_parts, item_points, group_points, group_points_from, nothing_seen, parts_of, points_from, seen_at, seen_with, group_parts}
use Rattle.check_varyings.specs.declared.varying.MeshOutputType.{MeshOutputType}
use Rattle.check_varyings.specs.declared.varying.MeshOutputType.TheVariants.{Neither, VertexOutput, PrimitiveOutput}
use Rattle.check_varyings.specs.declared.varying.VaryingPlace.{VaryingPlace}
use Rattle.check_entry.specs.EntryFaults.{EntryFault, OfResult, Other, fault_of}
use Rattle.check_entry.specs.EntryVaryings.{declared_points, has_one_of_indices, is_one_of_three, output_item, output_points, place_of, result_item}
use Rattle.check_faults.specs.declared.entry.EntryPointError.{EntryPointError}
use Rattle.check_faults.specs.declared.entry.EntryPointError.TheVariants as fault
use Rattle.ir_facts.specs.Answers.{Answers, FirstOf, read_by}

module _ (types : List IrType) (infos : List TypeInfo) where
  parts_more : (items : List Item) (x : Item) → group_parts types infos (items ++ x ∷ []) ≡ group_parts types infos items ++ placed_parts types infos x
  parts_more [] x = append-nil (placed_parts types infos x)
  parts_more (y ∷ ys) x =
      ap (λ l. placed_parts types infos y ++ l) (parts_more ys x)
      ∙ sym (append_assoc (placed_parts types infos y) (group_parts types infos ys) (placed_parts types infos x))

  module _ (fault : ℕ → VaryingFault → EntryFault) (items : List Item) (i : ℕ) where
    abbrev before : ℕ → List Placed
    before n = group_parts types infos (take n items)

    abbrev rest : List Placed → ℕ → List Item → Option EntryFault
    rest earlier index left = first_fault (group_points_from types infos fault earlier index left)

    -- one item more is done
    pub parts_taken : (x : Item) → i < length items → x ≡ get_or items i x → before (i + 1) ≡ before i ++ placed_parts types infos x
    parts_taken x lt is =
        ap (group_parts types infos) (take_more items i x lt)
        ∙ ap (λ z. group_parts types infos (take i items ++ z ∷ [])) (sym is)
        ∙ parts_more (take i items) x

    pub group_turn : (x : Item) → i < length items → x ≡ get_or items i x →
        rest (before i) i (drop i items) ≡ option_or (first_fault (within (fault i) (item_points types infos (before i) x))) (rest (before (i + 1)) (i + 1) (drop (i + 1) items))
    group_turn x lt is =
        let next : suc i ≡ i + 1 = omega arith in
        at_drop_more (λ l. rest (before i) i l) items i x lt
        ∙ ap (λ z. rest (before i) i (z ∷ drop (i + 1) items)) (sym is)
        ∙ first_of_both (within (fault i) (item_points types infos (before i) x)) (group_points_from types infos fault (before i ++ placed_parts types infos x) (suc i) (drop (i + 1) items))
        ∙ ap (λ k. option_or (first_fault (within (fault i) (item_points types infos (before i) x))) (rest (before i ++ placed_parts types infos x) k (drop (i + 1) items))) next
        ∙ ap (λ e. option_or (first_fault (within (fault i) (item_points types infos (before i) x))) (rest e (i + 1) (drop (i + 1) items))) (sym (parts_taken x lt is))

    pub group_end : length items ≤ i → rest (before i) i (drop i items) ≡ None
    group_end le = at_drop_all (λ l. rest (before i) i l) items i le

    -- the fault of this item is that of the group, where those before it have none
    pub group_stops : {T : Type 0} (r : Result T (Refusal EntryPointError)) (x : Item) → i < length items → x ≡ get_or items i x →
        rest (before i) i (drop i items) ≡ rest [] 0 items → IsErr r → Answers (FirstOf (within (fault i) (item_points types infos (before i) x))) (read_by fault_of r) →
        Answers (FirstOf (group_points types infos fault items)) (read_by fault_of r)
    group_stops (Ok t) x lt is left err h = cc
    group_stops (Err (refusal.Fault f)) x lt is left err h =
        sym left ∙ group_turn x lt is ∙ ap (λ o. option_or o (rest (before (i + 1)) (i + 1) (drop (i + 1) items))) h
    group_stops (Err refusal.Memory) x lt is left err h = tt

    -- an item without a fault leaves what is behind it
    pub group_goes_on : (x : Item) → i < length items → x ≡ get_or items i x → rest (before i) i (drop i items) ≡ rest [] 0 items →
        first_fault (within (fault i) (item_points types infos (before i) x)) ≡ None → rest (before (i + 1)) (i + 1) (drop (i + 1) items) ≡ rest [] 0 items
    group_goes_on x lt is left h =
        sym (group_turn x lt is ∙ ap (λ o. option_or o (rest (before (i + 1)) (i + 1) (drop (i + 1) items))) h) ∙ left

    -- behind the last there is none
    pub group_ends : length items ≤ i → rest (before i) i (drop i items) ≡ rest [] 0 items → rest [] 0 items ≡ None
    group_ends le left = sym left ∙ group_end le

  -- a group of one item
  pub one_item : (fault : ℕ → VaryingFault → EntryFault) (x : Item) → within (fault 0) (item_points types infos [] x) ≡ group_points types infos fault (x ∷ [])
  one_item fault x = sym (append-nil (within (fault 0) (item_points types infos [] x)))

  -- an item, where this was seen before
  pub seen_by_position : (place : VaryingPlace) (earlier : List Placed) (seen : Seen) (ty : ℕ) (given : Option Binding) → seen ≡ seen_at place earlier →
      points_from place types infos seen ty given ≡ item_points types infos earlier (record { place = place; ty = ty; binding = given })
  seen_by_position place earlier seen ty given e =
      ap (λ s. points_from place types infos s ty given) e
      ∙ points_are_by_position types infos earlier (record { place = place; ty = ty; binding = given })

  -- an output of a mesh
  pub output_by_position : (settings : Settings) (ep : EntryPoint) (which : MeshOutputType) (earlier : List Placed) (seen : Seen) (ty : ℕ) → seen ≡ seen_at (place_of settings ep true which) earlier →
      ((it_is is_struct (inner_at types ty), Other fault.InvalidMeshOutputType) ∷ within OfResult (points_from (place_of settings ep true which) types infos seen ty None)) ≡ output_points settings types infos ep which earlier ty
  output_by_position settings ep which earlier seen ty e =
      ap (λ ps. (it_is is_struct (inner_at types ty), Other fault.InvalidMeshOutputType) ∷ within OfResult ps) (seen_by_position (place_of settings ep true which) earlier seen ty None e)

  -- an output of a mesh whose type is a struct is answered as its own list is
  pub struct_decides : {T : Type 0} (place found : VaryingPlace) (seen : Seen) (ty : ℕ) (r : Result T (Refusal EntryPointError)) → found ≡ place → it_is is_struct (inner_at types ty) ≡ true →
      Answers (FirstOf (within OfResult (points_from found types infos seen ty None))) (read_by fault_of r) →
      Answers (FirstOf ((it_is is_struct (inner_at types ty), Other fault.InvalidMeshOutputType) ∷ within OfResult (points_from place types infos seen ty None))) (read_by fault_of r)
  struct_decides place found seen ty r is structure h =
      subst (λ b. Answers (FirstOf ((b, Other fault.InvalidMeshOutputType) ∷ within OfResult (points_from place types infos seen ty None))) (read_by fault_of r)) (sym structure)
      (subst (λ p. Answers (FirstOf (within OfResult (points_from p types infos seen ty None))) (read_by fault_of r)) is h)

  -- what is left of indices behind an output of primitives is what its own parts have
  pub indices_by_position : (settings : Settings) (ep : EntryPoint) (vertex ty : ℕ) (seen left : Seen) →
      seen ≡ seen_at (place_of settings ep true PrimitiveOutput) (placed_parts types infos (output_item settings ep VertexOutput vertex)) → left ≡ seen_with seen (parts_of types infos ty None) →
      is_one_of_three (left.built_ins PointIndex) (left.built_ins LineIndices) (left.built_ins TriangleIndices) ≡ has_one_of_indices (parts_of types infos ty None)
  indices_by_position settings ep vertex ty seen left e h =
      let alone = sees_locations_alone (place_of settings ep true PrimitiveOutput) (place_of settings ep true VertexOutput) (parts_of types infos vertex None) refl in
      ap (λ (s : Seen). is_one_of_three (s.built_ins PointIndex) (s.built_ins LineIndices) (s.built_ins TriangleIndices)) (h ∙ ap (λ (s : Seen). seen_with s (parts_of types infos ty None)) (e ∙ alone))

  -- the result, where nothing was seen before
  pub result_decides : {T : Type 0} (settings : Settings) (ep : EntryPoint) (seen : Seen) (declared : FunctionResult) (r : Result T (Refusal EntryPointError)) → seen ≡ nothing_seen →
      Answers (FirstOf (within OfResult (points_from (place_of settings ep true Neither) types infos seen declared.ty declared.binding))) (read_by fault_of r) → Answers (FirstOf (declared_points settings types infos ep (Some declared))) (read_by fault_of r)
  result_decides settings ep seen declared r e h =
      subst (λ points. Answers (FirstOf points) (read_by fault_of r)) (one_item (λ _ f. OfResult f) (result_item settings ep declared)) (subst (λ points. Answers (FirstOf (within OfResult points)) (read_by fault_of r)) (seen_by_position (place_of settings ep true Neither) [] seen declared.ty declared.binding e) h)

-- a point behind others that hold
module _ (first : List (Point EntryFault)) (b : Bool) (f : EntryFault) (none : first_fault first ≡ None) where
  last_decides : first_fault (first ++ (b, f) ∷ []) ≡ (if b then None else Some f)
  last_decides = first_of_both first ((b, f) ∷ []) ∙ ap (λ o. option_or o (first_fault ((b, f) ∷ []))) none

  pub last_fails : b ≡ false → first_fault (first ++ (b, f) ∷ []) ≡ Some f
  last_fails e = last_decides ∙ ap (λ c. if c then None else Some f) e

  pub last_holds : b ≡ true → first_fault (first ++ (b, f) ∷ []) ≡ None
  last_holds e = last_decides ∙ ap (λ c. if c then None else Some f) e
