-- Of an accepted group, no location and no built-in stands twice.
use Rattle.std.proofs.Common.{◌≡◌, ℕ, Bool, true, false, not, ◌||◌, List, [], ◌∷◌, ◌++◌, Option, None, Some, refl, sym, ap, ◌∙◌, arith}
use Rattle.std.specs.Prelude.{codes, is_none, unwrap_or}
use Rattle.ir_flags.specs.Bits.{IO_SHAREABLE}
use Rattle.ir_flags.specs.Capabilities.{MESH_SHADER, NO_CAPABILITY, has_capability}
use Rattle.ir_leaves.specs.declared.stage.ShaderStage.TheVariants.{Fragment}
use Rattle.ir_types.specs.TypeInfos.{type_has}
use Rattle.ir_errors.specs.declared.interface.VaryingError.TheVariants.{BindingCollision, BlendSrcNotOnStructMember, DuplicateBuiltIn, InvalidBuiltInStage, InvalidBuiltInType, InvalidMultiDimensionalSubgroupBuiltIn, InvalidPerPrimitive, MissingPerPrimitive, NotIOShareableType, UnsupportedCapability}
use Rattle.std.specs.Option.{option_map}
use Rattle.std.proofs.lemmas.Bool.Decides.{nat_tests}
use Rattle.std.proofs.lemmas.List.{append_assoc, append-nil}
use Rattle.ir_arena.proofs.Points.{both_hold, first_holds, first_within, not_holds}
use Rattle.ir_leaves.specs.EqualBuiltIns.{built_in_same}
use Rattle.ir_arena.specs.Points.{Point, first_fault, within}
use Rattle.ir_types.specs.Types.{inner_at}
use Rattle.ir_leaves.specs.declared.built_in.BuiltIn.{BuiltIn}
use Rattle.ir_leaves.specs.declared.bindings.Binding.TheVariants as binding
use Rattle.ir_types.specs.declared.types.Type.{«Type» as IrType}
use Rattle.ir_types.specs.declared.types.TypeInner.{TypeInner}
use Rattle.ir_types.specs.declared.type_info.TypeInfo.{TypeInfo}
use Rattle.check_varyings.specs.BuiltIns.{built_in_rule, canonical, is_primitive_output, is_stage}
use Rattle.check_varyings.specs.DistinctVaryings.{AcceptedHasNoBuiltInTwice, AcceptedHasNoLocationTwice}
use Rattle.check_varyings.specs.Locations.{carried_type, interpolation_points, is_fragment_input, may_take, per_vertex_points, sharing_points}
use Rattle.ir_facts.specs.WhatIsChecked.{checks_bindings}
use Rattle.check_varyings.specs.Seen.{Seen}
use Rattle.check_varyings.specs.VaryingFaults.{InvalidAttribute, InvalidInputAttribute, Itself, VaryingFault}
use Rattle.check_varyings.specs.Varyings.{VaryingPart, Bound, UnboundMember, Unbound, BlendSources, Placed, bound_points, built_in_points, has_built_in_type, has_one_dimension, has_required, is_at, is_built_in, is_of_one_dimension, part_points, placed_points, seen_at}
use Rattle.ir_errors.specs.declared.interface.VaryingError.{VaryingError}
use Rattle.check_varyings.specs.declared.varying.VaryingPlace.{VaryingPlace}

-- faults that stand inside others fail where those do
none_within : {Inner Outer : Type 0} (outer : Inner → Outer) (ps : List (Point Inner)) → first_fault (within outer ps) ≡ None → first_fault ps ≡ None
none_within {Inner} outer ps e = inner_none (first_fault ps) (sym (first_within outer ps) ∙ e) where
  inner_none : (o : Option Inner) → option_map outer o ≡ None → o ≡ None
  inner_none None e = refl
  inner_none (Some x) e = cc

-- a point among others holds
holds_in : {Fault : Type 0} (before behind : List (Point Fault)) (c : Bool) (f : Fault) → first_fault (before ++ (c, f) ∷ behind) ≡ None → c ≡ true
holds_in before behind c f e = (first_holds c f behind (both_hold before ((c, f) ∷ behind) e).1).0

taken_free : (checks taken : Bool) → checks ≡ true → (not checks || not taken) ≡ true → taken ≡ false
taken_free true taken c e = not_holds taken e
taken_free false taken c e = cc

-- a location that is looked at wasn't taken
location_free : (place : VaryingPlace) (types : List IrType) (infos : List TypeInfo) (seen : Seen) (part : VaryingPart) (l : ℕ) →
    checks_bindings place.flags ≡ true → is_at l part ≡ true → first_fault (part_points place types infos seen part) ≡ None → seen.locations l ≡ false
location_free place types infos seen (Bound ty (binding.BuiltIn b)) l checks is e = cc
location_free place types infos seen (Bound ty (binding.Location k i s blend_src per_primitive)) l checks is e =
    let carried = carried_type types ty i in
    let interpolation = interpolation_points place types carried i s per_primitive in
    let sharing = sharing_points place infos seen carried k blend_src per_primitive in
    let all = none_within Itself (bound_points place types infos seen ty (binding.Location k i s blend_src per_primitive)) e in
    let mesh = not per_primitive || has_capability place.capabilities MESH_SHADER in
    let behind = (first_holds mesh (UnsupportedCapability MESH_SHADER) (per_vertex_points place types ty i s ++ (sharing ++ interpolation)) all).1 in
    let shared = (both_hold sharing interpolation (both_hold (per_vertex_points place types ty i s) (sharing ++ interpolation) behind).1).0 in
    let before : List (Point VaryingError) =
    (type_has infos carried IO_SHAREABLE, NotIOShareableType carried)
    ∷ (not (is_primitive_output place.mesh_output) || per_primitive, MissingPerPrimitive)
    ∷ (is_primitive_output place.mesh_output || is_fragment_input place || not per_primitive, InvalidPerPrimitive)
    ∷ (is_none blend_src, BlendSrcNotOnStructMember)
    ∷ [] in
    let free = taken_free (checks_bindings place.flags) (seen.locations k) checks (holds_in before [] (may_take place seen k) (BindingCollision k) shared) in
    let same : l ≡ k = grind (arith, nat_tests) in
    ap seen.locations same ∙ free
location_free place types infos seen (UnboundMember index) l checks is e = cc
location_free place types infos seen Unbound l checks is e = cc
location_free place types infos seen BlendSources l checks is e =
    let before : List (Point VaryingFault) =
    (is_stage place.stage Fragment, InvalidAttribute (codes "blend_src") place.stage)
    ∷ (place.output, InvalidInputAttribute (codes "blend_src") place.stage)
    ∷ [] in
    let free = taken_free (checks_bindings place.flags) (seen.locations 0) checks (holds_in before [] (may_take place seen 0) (Itself (BindingCollision 0)) e) in
    let same : l ≡ 0 = grind (arith, nat_tests) in
    ap seen.locations same ∙ free

built_in_free : (place : VaryingPlace) (types : List IrType) (seen : Seen) (given : Option TypeInner) (b : BuiltIn) →
    first_fault (built_in_points place types seen given b) ≡ None → seen.built_ins (canonical b) ≡ false
built_in_free place types seen None b e = not_holds _ (first_holds (not (seen.built_ins (canonical b))) (DuplicateBuiltIn b) [] e).0
built_in_free place types seen (Some i) b e =
    let rule = built_in_rule b place in
    let behind : List (Point VaryingError) =
    (has_required place.capabilities rule.required, UnsupportedCapability (unwrap_or rule.required NO_CAPABILITY))
    ∷ (not (is_of_one_dimension b) || has_one_dimension place, InvalidMultiDimensionalSubgroupBuiltIn)
    ∷ (not rule.mesh_shader || has_capability place.capabilities MESH_SHADER, UnsupportedCapability MESH_SHADER)
    ∷ (rule.visible, InvalidBuiltInStage b)
    ∷ (has_built_in_type types i rule.ty, InvalidBuiltInType b i)
    ∷ [] in
    not_holds _ (first_holds (not (seen.built_ins (canonical b))) (DuplicateBuiltIn b) behind e).0

-- a built-in wasn't there
built_in_new : (place : VaryingPlace) (types : List IrType) (infos : List TypeInfo) (seen : Seen) (part : VaryingPart) (b : BuiltIn) →
    is_built_in b part ≡ true → first_fault (part_points place types infos seen part) ≡ None → seen.built_ins b ≡ false
built_in_new place types infos seen (Bound ty (binding.BuiltIn g)) b is e =
    ap seen.built_ins (built_in_same b (canonical g) is)
    ∙ built_in_free place types seen (inner_at types ty) g (none_within Itself (built_in_points place types seen (inner_at types ty) g) e)
built_in_new place types infos seen (Bound ty (binding.Location k i s blend_src per_primitive)) b is e = cc
built_in_new place types infos seen (UnboundMember index) b is e = cc
built_in_new place types infos seen Unbound b is e = cc
built_in_new place types infos seen BlendSources b is e = cc

module _ (types : List IrType) (infos : List TypeInfo) where
  placed_points-append : (earlier ps qs : List Placed) →
      placed_points types infos earlier (ps ++ qs) ≡ placed_points types infos earlier ps ++ placed_points types infos (earlier ++ ps) qs
  placed_points-append earlier [] qs = ap (λ l. placed_points types infos l qs) (sym (append-nil earlier))
  placed_points-append earlier (p ∷ ps) qs =
      let here = part_points p.place types infos (seen_at p.place earlier) p.part in
      ap (λ l. here ++ l) (placed_points-append (earlier ++ p ∷ []) ps qs ∙ ap (λ l. placed_points types infos (earlier ++ p ∷ []) ps ++ placed_points types infos l qs) (append_assoc earlier (p ∷ []) ps))
      ∙ sym (append_assoc here (placed_points types infos (earlier ++ p ∷ []) ps) (placed_points types infos (earlier ++ (p ∷ ps)) qs))

  none_at : (before behind : List Placed) (p : Placed) (parts : List Placed) → parts ≡ before ++ p ∷ behind →
      first_fault (placed_points types infos [] parts) ≡ None → first_fault (part_points p.place types infos (seen_at p.place before) p.part) ≡ None
  none_at before behind p parts is e =
      let split = ap (λ l. first_fault (placed_points types infos [] l)) is in
      let all = sym (ap first_fault (placed_points-append [] before (p ∷ behind))) ∙ sym split ∙ e in
      (both_hold (part_points p.place types infos (seen_at p.place before) p.part) _ (both_hold (placed_points types infos [] before) (placed_points types infos before (p ∷ behind)) all).1).0

pub locations_distinct : AcceptedHasNoLocationTwice
locations_distinct types infos parts e before behind p l is checks at =
    location_free p.place types infos (seen_at p.place before) p.part l checks at (none_at types infos before behind p parts is e)

pub built_ins_distinct : AcceptedHasNoBuiltInTwice
built_ins_distinct types infos parts e before behind p b is to =
    built_in_new p.place types infos (seen_at p.place before) p.part b to (none_at types infos before behind p parts is e)
