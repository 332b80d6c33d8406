-- The laws of accepted entry points: what each of their points says, in words.
use Rattle.std.proofs.Common.{◌≡◌, ◌≢◌, ◌⊎◌, inl, inr, ℕ, zero, suc, ◌+◌, ◌<◌, ◌==◌, Bool, true, false, not, ◌&&◌, ◌||◌, below_more, List, [], ◌∷◌, ◌++◌, Option, None, Some, slice_get, refl, sym, ap, ◌∙◌, subst, arith}
use Rattle.std.proofs.lemmas.Bool.Decides.{nat_tests}
use Rattle.std.specs.Option.{option_map}
use Rattle.std.specs.Prelude.{option_and_then, if◌then◌else◌}
use Rattle.ir_arena.proofs.Points.{first_holds, both_hold, first_within, not_holds}
use Rattle.ir_arena.specs.Points.{Point, first_fault, points_from, within}
use Rattle.ir_flags.specs.Bits.{IO_SHAREABLE}
use Rattle.ir_leaves.specs.EqualBuiltIns.{built_in_same}
use Rattle.ir_types.specs.Types.{inner_at}
use Rattle.ir_leaves.specs.declared.built_in.BuiltIn.{BuiltIn}
use Rattle.ir_leaves.specs.declared.built_in.BuiltIn.TheVariants.{Position}
use Rattle.ir_module.specs.declared.functions.FunctionResult.{FunctionResult}
use Rattle.ir_module.specs.declared.module.EntryPoint.{EntryPoint}
use Rattle.ir_module.specs.declared.module.GlobalVariable.{GlobalVariable}
use Rattle.ir_module.specs.declared.module.Module.{Module}
use Rattle.ir_module.specs.declared.module.ResourceBinding.{ResourceBinding}
use Rattle.ir_leaves.specs.declared.stage.ShaderStage.{ShaderStage}
use Rattle.ir_leaves.specs.declared.stage.ShaderStage.TheVariants.{Vertex}
use Rattle.ir_leaves.specs.declared.bindings.Binding.{Binding}
use Rattle.ir_leaves.specs.declared.bindings.Binding.TheVariants as binding
use Rattle.ir_types.specs.declared.types.StructMember.{StructMember}
use Rattle.ir_types.specs.declared.types.Type.{«Type» as IrType}
use Rattle.ir_types.specs.declared.types.TypeInner.{TypeInner}
use Rattle.ir_types.specs.declared.types.TypeInner.TheVariants as inner
use Rattle.ir_flags.specs.declared.valid.GlobalUse.{GlobalUse}
use Rattle.ir_flags.specs.declared.valid.ValidationFlags.{ValidationFlags}
use Rattle.ir_facts.specs.declared.valid.info.FunctionInfo.{FunctionInfo}
use Rattle.ir_facts.specs.declared.valid.settings.Settings.{Settings}
use Rattle.ir_types.specs.declared.type_info.TypeInfo.{TypeInfo}
use Rattle.check_varyings.specs.BuiltIns.{canonical, is_same_built_in}
use Rattle.ir_facts.specs.WhatIsChecked.{checks_bindings}
use Rattle.ir_facts.specs.Meaning.{Meaning}
use Rattle.ir_types.specs.TypeInfos.{type_has}
use Rattle.check_varyings.specs.Varyings.{Bound, is_built_in, member_part, member_parts, parts_of, unbound_parts}
use Rattle.check_entry.specs.EntryFaults.{EntryFault, fault_of}
use Rattle.check_variables.specs.UsedBindings.{binding_at, is_bound_to, is_same_binding, is_some_use, is_taken_before, is_used}
use Rattle.check_entry.specs.UsedGlobals.{binding_points, global_points, globals_points, immediate_points, use_points}
use Rattle.check_entry.specs.InterfacePoints.{interface_points, used_points}
use Rattle.check_entry.specs.Mesh.{mesh_points}
use Rattle.check_entry.specs.EntryUses.{payload_points, stage_points, with_own_uses}
use Rattle.check_laws.specs.EntryFacts.{IsUsedAt, BindingsAreDistinct, IsPosition, HasPositionMember, IsReturnedPosition, ReturnsPosition, AcceptedBindingsAreDistinct, AcceptedVertexHasPosition, AcceptedHasAcceptedFunction}
use Rattle.check_entry.specs.EntryVaryings.{are_blend_sources, argument_points, declared_points, has_built_in, result_parts, result_points, returned_points}
use Rattle.check_statement.specs.FunctionJudgement.{FunctionOutcome}
use Rattle.check_faults.specs.declared.entry.EntryPointError.TheVariants.{MissingVertexOutputPosition}
use Rattle.check_laws.proofs.EntryAccepted.{accepted_entry, stages_are}
use Rattle.check_entry.proofs.EntryGlobals.{points_are}

-- of the points of each item, those of one
none_at : {A Fault : Type 0} (points : ℕ → A → List (Point Fault)) (n : ℕ) (xs : List A) → first_fault (points_from points n xs) ≡ None →
    (k : ℕ) (x : A) → slice_get xs k ≡ Some x → first_fault (points (k + n) x) ≡ None
none_at points n [] h k x e = cc
none_at points n (y ∷ ys) h zero x e =
    let same : y ≡ x = cc in
    let here : n ≡ zero + n = omega arith in
    subst (λ z. first_fault (points (zero + n) z) ≡ None) same (subst (λ m. first_fault (points m y) ≡ None) here (both_hold (points n y) (points_from points (suc n) ys) h).0)
none_at points n (y ∷ ys) h (suc k) x e =
    let there : k + suc n ≡ suc k + n = omega arith in
    subst (λ m. first_fault (points m x) ≡ None) there (none_at points (suc n) ys (both_hold (points n y) (points_from points (suc n) ys) h).1 k x e)

or_false : (a b : Bool) → (a || b) ≡ false → (a ≡ false) × (b ≡ false)
or_false false false e = (refl, refl)
or_false false true e = cc
or_false true b e = cc

some_use : (u : ℕ) → (u ≢ 0) → (u == 0) ≡ false
some_use zero ne = absurd (ne refl)
some_use (suc n) ne = grind (arith, nat_tests)

own_binding : (b : ResourceBinding) → is_same_binding b b ≡ true
own_binding b = grind (arith, nat_tests)

module _ (globals : List GlobalVariable) (uses : List GlobalUse) where
  -- what is not taken before a handle is not taken by an earlier one
  not_taken : (b : ResourceBinding) (k : ℕ) → is_taken_before uses globals b k ≡ false → (j : ℕ) → j < k → (is_used uses j && is_bound_to b (binding_at globals j)) ≡ false
  not_taken b zero e j lt = absurd (omega arith)
  not_taken b (suc k) e j lt =
      let both = or_false (is_taken_before uses globals b k) (is_used uses k && is_bound_to b (binding_at globals k)) e in
      let P : ℕ → Type 0 = λ j. (is_used uses j && is_bound_to b (binding_at globals j)) ≡ false in
      let below : j < k + 1 = omega arith in
      below_more P k (not_taken b k both.0) both.1 j below

  -- a global that is used and bound there takes it
  takes : (b : ResourceBinding) (h : ℕ) → IsUsedAt globals uses b h → (is_used uses h && is_bound_to b (binding_at globals h)) ≡ true
  takes b h p =
      let used : is_used uses h ≡ true = ap is_some_use p.given ∙ ap not (some_use p.use_of.0 p.used) in
      let bound : is_bound_to b (binding_at globals h) ≡ true = ap (λ o. is_bound_to b (option_and_then (λ (v : GlobalVariable). v.binding) o)) p.is ∙ ap (is_bound_to b) p.bound ∙ own_binding b in
      ap (λ x. x && is_bound_to b (binding_at globals h)) used ∙ bound

only_second : (c t : Bool) → c ≡ true → (c && t) ≡ false → t ≡ false
only_second true t e f = f
only_second false t e f = cc

module _ (below : Meaning) (flags : ValidationFlags) (program : Module) (ep : EntryPoint) (uses : List GlobalUse) (on : checks_bindings flags ≡ true) (none : first_fault (points_from (global_points below flags program ep uses) 0 program.global_variables) ≡ None) where
  -- behind an earlier global that is used and bound there, none is
  no_earlier : (b : ResourceBinding) (h k : ℕ) → IsUsedAt program.global_variables uses b h → IsUsedAt program.global_variables uses b k → h < k → ⊥
  no_earlier b h k p q lt =
      let globals = program.global_variables in
      let there : k + 0 ≡ k = omega arith in
      let all = subst (λ m. first_fault (global_points below flags program ep uses m q.var) ≡ None) there (none_at (global_points below flags program ep uses) 0 globals none k q.var q.is) in
      let points = sym (ap first_fault (points_are below flags program ep uses k q.var q.use_of q.given (some_use q.use_of.0 q.used))) ∙ all in
      let behind = (both_hold (use_points below flags program ep uses k q.var q.use_of) (binding_points flags uses globals k q.var.binding) points).1 in
      let bound = subst (λ o. first_fault (binding_points flags uses globals k o) ≡ None) q.bound behind in
      let free = not_holds _ (first_holds (not (checks_bindings flags && is_taken_before uses globals b k)) _ [] bound).0 in
      let not_there = not_taken globals uses b k (only_second (checks_bindings flags) (is_taken_before uses globals b k) on free) h lt in
      let there_is = takes globals uses b h p in
      let clash : true ≡ false = sym there_is ∙ not_there in cc

  pub bindings_are_distinct : BindingsAreDistinct program.global_variables uses
  bindings_are_distinct b h k p q =
      let less : h < k → ⊥ = no_earlier b h k p q in let more : k < h → ⊥ = no_earlier b k h q p in omega arith

-- Positions.

canonical_position : (b : BuiltIn) → canonical b ≡ Position false → IsPosition (Some (binding.BuiltIn b))
canonical_position (Position i) e = tt
canonical_position _ e = cc

same_position : (b : BuiltIn) → is_same_built_in (Position false) b ≡ true → b ≡ Position false
same_position b e = sym (built_in_same (Position false) b e)

or_true : (a b : Bool) → (a || b) ≡ true → (a ≡ true) ⊎ (b ≡ true)
or_true true b e = inl refl
or_true false b e = inr e

of_bound : (ty : ℕ) (given : Binding) → is_built_in (Position false) (Bound ty given) ≡ true → IsPosition (Some given)
of_bound ty (binding.BuiltIn b) e = canonical_position b (same_position (canonical b) e)
of_bound ty (binding.Location l i s f p) e = cc

of_member : (index : ℕ) (m : StructMember) (given : Option Binding) → m.binding ≡ given → is_built_in (Position false) (member_part index m.ty given) ≡ true → IsPosition m.binding
of_member index m None is e = cc
of_member index m (Some given) is e = subst IsPosition (sym is) (of_bound m.ty given e)

of_members : (members : List StructMember) (index : ℕ) → has_built_in (Position false) (member_parts index members) ≡ true →
    (k : ℕ) × (m : StructMember) × (slice_get members k ≡ Some m) × IsPosition m.binding
of_members [] index e = cc
of_members (m ∷ ms) index e =
    elim (or_true (is_built_in (Position false) (member_part index m.ty m.binding)) (has_built_in (Position false) (member_parts (suc index) ms)) e) [
      | inl here ↦ (0, m, refl, of_member index m m.binding refl here)
      | inr later ↦ let p = of_members ms (suc index) later in (suc p.0, p.1, p.2, p.3)
    ]

of_unbound : (shareable : Bool) (i : Option TypeInner) → has_built_in (Position false) (unbound_parts shareable i) ≡ true → HasPositionMember i
of_unbound true (Some (inner.Struct members span)) e = cc
of_unbound false (Some (inner.Struct members span)) e = of_members members 0 e
of_unbound _ _ e = cc

single : (b : Bool) → (b || false) ≡ true → b ≡ true
single true e = refl
single false e = cc

of_parts : (types : List IrType) (infos : List TypeInfo) (ty : ℕ) (given : Option Binding) → has_built_in (Position false) (parts_of types infos ty given) ≡ true → IsReturnedPosition types ty given
of_parts types infos ty None e = of_unbound (type_has infos ty IO_SHAREABLE) (inner_at types ty) e
of_parts types infos ty (Some given) e = of_bound ty given (single (is_built_in (Position false) (Bound ty given)) e)

pub returns_position : (types : List IrType) (infos : List TypeInfo) (declared : Option FunctionResult) → has_built_in (Position false) (result_parts types infos declared) ≡ true → ReturnsPosition types declared
returns_position types infos None e = cc
returns_position types infos (Some declared) e = of_parts types infos declared.ty declared.binding e

-- From the points of an accepted entry point.

mapped_none : {A B : Type 0} (f : A → B) (o : Option A) → option_map f o ≡ None → o ≡ None
mapped_none f None e = refl
mapped_none f (Some a) e = cc

pub none_within : {Inner Outer : Type 0} (f : Inner → Outer) (ps : List (Point Inner)) → first_fault (within f ps) ≡ None → first_fault ps ≡ None
none_within f ps e = mapped_none f (first_fault ps) (sym (first_within f ps) ∙ e)

uses_if : (b : Bool) (info : FunctionInfo) → info.global_uses ≡ (if b then record info { dual_source_blending = true } else info).global_uses
uses_if true info = refl
uses_if false info = refl

returned : (types : List IrType) (at : ShaderStage) (position : Bool) (declared : Option FunctionResult) → at ≡ Vertex → first_fault (returned_points types at position declared) ≡ None → position ≡ true
returned types at position declared is e =
    (first_holds position MissingVertexOutputPosition [] (subst (λ (s : ShaderStage). first_fault (returned_points types s position declared) ≡ None) is e)).0

module _ (below : Meaning) (settings : Settings) (infos : List TypeInfo) (program : Module) (ep : EntryPoint) (info : FunctionInfo) (none : first_fault (interface_points below settings infos program ep info) ≡ None) where
  abbrev own : FunctionInfo
  own = with_own_uses ep info

  behind_payload : first_fault (used_points below settings infos program ep own) ≡ None
  behind_payload = (both_hold (within fault_of (payload_points program.global_variables ep.stage ep.task_payload)) (used_points below settings infos program ep own) none).1

  abbrev globals_and_mesh : List (Point EntryFault)
  globals_and_mesh =
      within fault_of (globals_points below settings.flags program ep own.global_uses) ++ mesh_points below settings infos program ep ep.mesh_info

  pub arguments_hold : first_fault (argument_points settings program.types infos ep ++ (result_points settings program.types infos ep ++ globals_and_mesh)) ≡ None
  arguments_hold =
      (both_hold (within fault_of (stage_points ep.stage own.available_stages)) (argument_points settings program.types infos ep ++ (result_points settings program.types infos ep ++ globals_and_mesh)) behind_payload).1

  pub results_hold : first_fault (result_points settings program.types infos ep ++ globals_and_mesh) ≡ None
  results_hold =
      (both_hold (argument_points settings program.types infos ep) (result_points settings program.types infos ep ++ globals_and_mesh) arguments_hold).1

  result_holds : first_fault (result_points settings program.types infos ep) ≡ None
  result_holds = (both_hold (result_points settings program.types infos ep) globals_and_mesh results_hold).0

  pub has_position : ep.stage ≡ Vertex → ReturnsPosition program.types ep.function.result
  has_position at =
      let position = has_built_in (Position false) (result_parts program.types infos ep.function.result) in
      let points = returned_points program.types ep.stage position ep.function.result in
      let behind = none_within fault_of points (both_hold (declared_points settings program.types infos ep ep.function.result) (within fault_of points) result_holds).1 in
      returns_position program.types infos ep.function.result (returned program.types ep.stage position ep.function.result at behind)

  pub has_distinct_bindings : checks_bindings settings.flags ≡ true → BindingsAreDistinct program.global_variables own.global_uses
  has_distinct_bindings on =
      let globals = globals_points below settings.flags program ep own.global_uses in
      let of_globals = (both_hold (within fault_of globals) (mesh_points below settings infos program ep ep.mesh_info) (both_hold (result_points settings program.types infos ep) globals_and_mesh results_hold).1).0 in
      let each = (both_hold (immediate_points own.global_uses program.global_variables) (points_from (global_points below settings.flags program ep own.global_uses) 0 program.global_variables) (none_within fault_of globals of_globals)).1 in
      bindings_are_distinct below settings.flags program ep own.global_uses on each

pub accepted_bindings : AcceptedBindingsAreDistinct
accepted_bindings below settings infos trace program earlier ep outcome e on =
    let k = accepted_entry below settings infos trace program earlier ep outcome e in
    let same = uses_if (are_blend_sources program.types infos ep.function.result) (with_own_uses ep k.function.info) ∙ ap (λ (o : FunctionOutcome). o.info.global_uses) k.is in
    subst (λ (uses : List GlobalUse). BindingsAreDistinct program.global_variables uses) same (has_distinct_bindings below settings infos program ep k.function.info k.points on)

pub accepted_position : AcceptedVertexHasPosition
accepted_position below settings infos trace program earlier ep outcome e =
    let k = accepted_entry below settings infos trace program earlier ep outcome e in
    has_position below settings infos program ep k.function.info k.points

pub accepted_function : AcceptedHasAcceptedFunction
accepted_function below settings infos trace program earlier ep outcome e =
    let k = accepted_entry below settings infos trace program earlier ep outcome e in (
      k.function,
      k.judged,
      sym (ap (λ (o : FunctionOutcome). o.trace) k.is),
      sym (ap (λ (o : FunctionOutcome). o.info.available_stages) k.is) ∙ stages_are below settings infos program ep k.function,
    )
