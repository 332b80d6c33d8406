-- The built-ins of the arguments of an accepted entry point are distinct.
use Rattle.std.proofs.Common.{◌≡◌, ℕ, suc, ◌<◌, ◌≤◌, Bool, true, false, ◌&&◌, List, [], ◌∷◌, Option, None, Some, map, take, length, slice_get, inl, inr, refl, sym, ◌∙◌, subst, arith}
use Rattle.std.proofs.lemmas.Option.{slice_get_cases}
use Rattle.std.specs.List.{AllByRecursion, list_any}
use Rattle.std.specs.Prelude.{⊤, All, IfSome}
use Rattle.ir_facts.proofs.Callers.{types_name_each_other}
use Rattle.ir_arena.proofs.Points.{both_hold, not_holds}
use Rattle.ir_flags.specs.Bits.{IO_SHAREABLE}
use Rattle.ir_arena.specs.Points.{first_fault}
use Rattle.ir_types.specs.Types.{inner_at, NameEachOther, NamesTypesBelow}
use Rattle.ir_leaves.specs.contracts.built_in.BuiltInEq.TheImpl.Laws.{laws-law as built_in_laws}
use Rattle.ir_leaves.specs.declared.built_in.BuiltIn.{BuiltIn}
use Rattle.ir_module.specs.declared.functions.FunctionArgument.{FunctionArgument}
use Rattle.ir_module.specs.declared.module.EntryPoint.{EntryPoint}
use Rattle.ir_leaves.specs.declared.bindings.Binding.{Binding}
use Rattle.ir_leaves.specs.declared.bindings.Binding.TheVariants as binding
use Rattle.ir_types.specs.declared.types.StructMember.{StructMember}
use Rattle.ir_types.specs.declared.types.Type.{«Type» as IrType}
use Rattle.ir_types.specs.declared.types.TypeInner.{TypeInner}
use Rattle.ir_types.specs.declared.types.TypeInner.TheVariants as inner
use Rattle.ir_facts.specs.declared.valid.settings.Settings.{Settings}
use Rattle.ir_types.specs.declared.type_info.TypeInfo.{TypeInfo}
use Rattle.check_varyings.proofs.Seeing.{goes_own_way}
use Rattle.check_varyings.proofs.TypesAt.{inner_is, named_at}
use Rattle.check_varyings.specs.BuiltIns.{built_in_rule, canonical, is_same_built_in}
use Rattle.ir_types.specs.TypeInfos.{type_has}
use Rattle.check_varyings.specs.VaryingFaults.{Itself}
use Rattle.check_varyings.specs.Varyings.{VaryingPart, Placed, Bound, BlendSources, UnboundMember, Unbound, built_in_points, go_same_way, is_built_in, member_part, member_parts, part_points, parts_of, placed, placed_parts, placed_points, ruled_points, seen_at, unbound_parts, group_parts}
use Rattle.check_varyings.specs.declared.varying.MeshOutputType.TheVariants.{Neither}
use Rattle.check_varyings.specs.declared.varying.VaryingPlace.{VaryingPlace}
use Rattle.check_entry.specs.EntryFaults.{OfArgument}
use Rattle.check_laws.specs.EntryFacts.{IsBuiltIn, BuiltInsAreDistinct, AcceptedBuiltInsAreDistinct}
use Rattle.check_entry.specs.EntryVaryings.{argument_item, argument_points, place_of}
use Rattle.check_laws.proofs.EntryAccepted.{accepted_entry}
use Rattle.check_laws.proofs.EntryGroups.{any_at, all_at, all_both, group_none, part_none}
use Rattle.check_laws.proofs.EntryFacts.{none_within, arguments_hold}
use Rattle.check_scope.proofs.Flat.{holds_at}

-- there is a type where a part is bound
abbrev HasType : List IrType → VaryingPart → Type 0
HasType types (Bound ty given) = (i : TypeInner) × (inner_at types ty ≡ Some i)
HasType types _ = ⊤

-- a part stands at this place, and has a type
record IsThere (place : VaryingPlace) (types : List IrType) (p : Placed) : Type 0 where
  at : p.place ≡ place
  typed : HasType types p.part

both_true : (a b : Bool) → a ≡ true → b ≡ true → (a && b) ≡ true
both_true true b e f = f
both_true false b e f = cc

module _ (types : List IrType) where
  type_there : (ty : ℕ) → ty < length types → (t : IrType) × (slice_get types ty ≡ Some t)
  type_there ty lt =
      elim (slice_get_cases types ty).1 [ inl p ↦ (p.0, p.2) | inr q ↦ let le : length types ≤ ty = q.0 in absurd (omega arith) ]

  inner_there : (ty : ℕ) → ty < length types → (i : TypeInner) × (inner_at types ty ≡ Some i)
  inner_there ty lt = let t = type_there ty lt in (t.0.inner, inner_is types ty t.0 t.1)

  typed_member : (index ty : ℕ) (given : Option Binding) → ty < length types → HasType types (member_part index ty given)
  typed_member index ty None lt = tt
  typed_member index ty (Some given) lt = inner_there ty lt

  typed_members : (members : List StructMember) (index : ℕ) → All (λ m. m.ty < length types) members → AllByRecursion (HasType types) (member_parts index members)
  typed_members [] index h = tt
  typed_members (m ∷ ms) index h =
      let first : 0 < length (m ∷ ms) = omega arith in (
        typed_member index m.ty m.binding (h 0 m first),
        typed_members ms (suc index) (λ k d lt. let later : suc k < length (m ∷ ms) = omega arith in h (suc k) d later),
      )

  typed_unbound : (shareable : Bool) (i : Option TypeInner) → IfSome i (NamesTypesBelow (length types)) → AllByRecursion (HasType types) (unbound_parts shareable i)
  typed_unbound true (Some (inner.Struct members span)) h = (tt, tt)
  typed_unbound false (Some (inner.Struct members span)) h = typed_members members 0 h
  typed_unbound _ _ h = (tt, tt)

  module _ (all : NameEachOther types) (infos : List TypeInfo) where
    typed_parts : (ty : ℕ) (given : Option Binding) → ty < length types → AllByRecursion (HasType types) (parts_of types infos ty given)
    typed_parts ty (Some given) lt = (inner_there ty lt, tt)
    typed_parts ty None lt =
        let t = type_there ty lt in
        let named : IfSome (Some t.0.inner) (NamesTypesBelow (length types)) = named_at types ty t.0 lt all t.1 in
        typed_unbound (type_has infos ty IO_SHAREABLE) (inner_at types ty) (subst (λ i. IfSome i (NamesTypesBelow (length types))) (sym (inner_is types ty t.0 t.1)) named)

    placed_there : (place : VaryingPlace) (parts : List VaryingPart) → AllByRecursion (HasType types) parts → AllByRecursion (IsThere place types) (placed place parts)
    placed_there place [] h = tt
    placed_there place (p ∷ ps) h = (record { at = refl; typed = h.0 }, placed_there place ps h.1)

    arguments_there : (settings : Settings) (ep : EntryPoint) (arguments : List FunctionArgument) → All (λ a. a.ty < length types) arguments →
        AllByRecursion (IsThere (place_of settings ep false Neither) types) (group_parts types infos (map (argument_item settings ep) arguments))
    arguments_there settings ep [] h = tt
    arguments_there settings ep (a ∷ more) h =
        let place = place_of settings ep false Neither in
        let first : 0 < length (a ∷ more) = omega arith in
        all_both (IsThere place types) (placed_parts types infos (argument_item settings ep a)) (group_parts types infos (map (argument_item settings ep) more)) (placed_there place (parts_of types infos a.ty a.binding) (typed_parts a.ty a.binding (h 0 a first))) (arguments_there settings ep more (λ k d lt. let later : suc k < length (a ∷ more) = omega arith in h (suc k) d later))

  -- a part that passes is a built-in that is new
  new_at : (infos : List TypeInfo) (place : VaryingPlace) (earlier : List Placed) (part : VaryingPart) (b : BuiltIn) → HasType types part → IsBuiltIn b part → first_fault (part_points place types infos (seen_at place earlier) part) ≡ None →
      list_any (λ (p : Placed). go_same_way place p.place && is_built_in b p.part) earlier ≡ false
  new_at infos place earlier (Bound ty (binding.BuiltIn given)) b typed is h =
      let seen = seen_at place earlier in
      let points = none_within Itself (built_in_points place types seen (inner_at types ty) given) h in
      let ruled = subst (λ o. first_fault (built_in_points place types seen o given) ≡ None) typed.1 points in
      let fresh = not_holds (seen.built_ins (canonical given)) (holds_at 0 (ruled_points place types seen typed.0 given (built_in_rule given place)) ruled) in
      subst (λ c. list_any (λ (p : Placed). go_same_way place p.place && is_built_in c p.part) earlier ≡ false) (sym is) fresh
  new_at infos place earlier (Bound ty (binding.Location l i s f p)) b typed is h = absurd is
  new_at infos place earlier BlendSources b typed is h = absurd is
  new_at infos place earlier (UnboundMember index) b typed is h = absurd is
  new_at infos place earlier Unbound b typed is h = absurd is

own_built_in : (b c : BuiltIn) → b ≡ c → is_same_built_in b c ≡ true
own_built_in b c e = subst (λ x. is_same_built_in b x ≡ true) e (built_in_laws.refl b)

is_it : (b : BuiltIn) (part : VaryingPart) → IsBuiltIn b part → is_built_in b part ≡ true
is_it b (Bound ty (binding.BuiltIn given)) e = own_built_in b (canonical given) e
is_it b (Bound ty (binding.Location l i s f p)) e = absurd e
is_it b BlendSources e = absurd e
is_it b (UnboundMember index) e = absurd e
is_it b Unbound e = absurd e

module _ (types : List IrType) (infos : List TypeInfo) (place : VaryingPlace) (parts : List Placed) (there : AllByRecursion (IsThere place types) parts) (none : first_fault (placed_points types infos [] parts) ≡ None) where
  no_earlier : (b : BuiltIn) (i j : ℕ) (p q : Placed) → slice_get parts i ≡ Some p → slice_get parts j ≡ Some q → IsBuiltIn b p.part → IsBuiltIn b q.part → i < j → ⊥
  no_earlier b i j p q at_i at_j first second lt =
      let p_there = all_at (IsThere place types) parts there i p at_i in
      let q_there = all_at (IsThere place types) parts there j q at_j in
      let fresh = new_at types infos q.place (take j parts) q.part b q_there.typed second (part_none types infos parts [] none j q at_j) in
      let together = subst (λ (x : VaryingPlace). go_same_way x p.place ≡ true) (sym q_there.at) (subst (λ (x : VaryingPlace). go_same_way place x ≡ true) (sym p_there.at) (goes_own_way place)) in
      let taken = any_at (λ (x : Placed). go_same_way q.place x.place && is_built_in b x.part) parts i j p lt at_i (both_true (go_same_way q.place p.place) (is_built_in b p.part) together (is_it b p.part first)) in
      let clash : true ≡ false = sym taken ∙ fresh in cc

  built_ins_are_distinct : BuiltInsAreDistinct parts
  built_ins_are_distinct b i j p q at_i at_j first second =
      let less : i < j → ⊥ = no_earlier b i j p q at_i at_j first second in
      let more : j < i → ⊥ = no_earlier b j i q p at_j at_i second first in omega arith

pub accepted_built_ins : AcceptedBuiltInsAreDistinct
accepted_built_ins below settings infos trace program earlier ep outcome e fits signature =
    let k = accepted_entry below settings infos trace program earlier ep outcome e in
    let types = program.types in
    let items = map (argument_item settings ep) ep.function.arguments in
    let points = (both_hold (argument_points settings types infos ep) _ (arguments_hold below settings infos program ep k.function.info k.points)).0 in
    let there = arguments_there types (types_name_each_other program fits) infos settings ep ep.function.arguments signature.arguments in
    built_ins_are_distinct types infos (place_of settings ep false Neither) (group_parts types infos items) there (group_none types infos OfArgument items [] 0 points)
