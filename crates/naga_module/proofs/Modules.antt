-- The judgement of a module, function by function and entry point by entry point.
use Rattle.std.proofs.Common.{◌≡◌, ◌<◌, ◌+◌, ◌≤◌, inl, inr, ℕ, false, List, [], ◌∷◌, Ok, Err, length, drop, get_or, refl, sym, ap, ◌∙◌, subst}
use Rattle.std.proofs.lemmas.List.{at_drop_more, drop_all}
use Rattle.std.proofs.lemmas.Option.{get_or_from_slice_get}
use Rattle.std.specs.Option.{option_or}
use Rattle.std.specs.Prelude.{None, Some, slice_get}
use Rattle.ir_arena.proofs.Points.{first_turn, first_end}
use Rattle.ir_arena.specs.Points.{Point, first_fault, points_from, points_of_each}
use Rattle.ir_facts.specs.Fits.{FitsFunction, FitsEntry}
use Rattle.ir_module.specs.declared.functions.Function.{Function}
use Rattle.ir_module.specs.declared.module.EntryPoint.{EntryPoint}
use Rattle.ir_module.specs.declared.module.Module.{Module}
use Rattle.ir_facts.specs.declared.valid.info.ModuleInfo.{ModuleInfo}
use Rattle.ir_facts.specs.declared.valid.settings.Settings.{Settings}
use Rattle.ir_types.specs.declared.type_info.TypeInfo.{TypeInfo}
use Rattle.ir_facts.specs.Meaning.{Meaning}
use Rattle.ir_errors.specs.declared.function.FunctionError.{FunctionError}
use Rattle.check_entry.specs.EntryFaults.{fault_of}
use Rattle.check_laws.specs.EntryJudgement.{entry_judgement}
use Rattle.check_laws.specs.InOrder.{with_info}
use Rattle.check_statement.specs.FunctionJudgement.{FunctionOutcome, function_judgement}
use Rattle.check_faults.specs.declared.entry.EntryPointError.{EntryPointError}
use Rattle.check_scope.specs.declared.trace.TraceState.{TraceState}
use Rattle.naga_module.specs.CodeModule.{Leads, Stops, EntriesLead, EntriesStop}
use Rattle.naga_module.specs.ModuleJudgement.{ModuleAnswer, AnswersStep, with_entry, IsOfFunction, IsOfEntryPoint, EntriesAnswer, FunctionsAnswer}
use Rattle.check_faults.specs.declared.module.ModuleFault.{ModuleFault}
use Rattle.check_faults.specs.declared.module.ModuleFault.TheVariants as fault

module _ (below : Meaning) (settings : Settings) (types : List TypeInfo) (m : Module) (trace : TraceState) (infos : ModuleInfo) (i : ℕ) (f : Function)
    (at : slice_get m.functions i ≡ Some f) (lt : i < length m.functions) where
  -- the answer about the functions from here on, by that about this one
  here : (r : ModuleAnswer) → FunctionsAnswer below settings types m trace infos (f ∷ drop (i + 1) m.functions) r → FunctionsAnswer below settings types m trace infos (drop i m.functions) r
  here r a =
      let same : drop i m.functions ≡ f ∷ drop (i + 1) m.functions =
      at_drop_more (λ (fs : List Function). fs) m.functions i f lt ∙ ap (λ (g : Function). g ∷ drop (i + 1) m.functions) (get_or_from_slice_get m.functions i f f at) in
      subst (λ (fs : List Function). FunctionsAnswer below settings types m trace infos fs r) (sym same) a

  goes_on : FitsFunction f m (length infos.functions) → (left : FunctionOutcome) →
      function_judgement below settings types trace m infos f false ≡ Ok left →
      Leads below settings types m trace infos (drop i m.functions) left.trace (with_info infos left.info) (drop (i + 1) m.functions)
  unfolding FunctionsAnswer
  goes_on fits left e r a =
      here r
      (inl (fits, subst (λ o. AnswersStep o (IsOfFunction (fault.Function (length infos.functions))) (λ (l : FunctionOutcome). FunctionsAnswer below settings types m l.trace (with_info infos l.info) (drop (i + 1) m.functions)) r) (sym e) a))

  is_faulty : FitsFunction f m (length infos.functions) → (error : FunctionError) →
      function_judgement below settings types trace m infos f false ≡ Err error →
      FunctionsAnswer below settings types m trace infos (drop i m.functions) (Err (fault.Function (length infos.functions) error))
  unfolding FunctionsAnswer
  is_faulty fits error e =
      here (Err (fault.Function (length infos.functions) error))
      (inl (fits, subst (λ o. AnswersStep o (IsOfFunction (fault.Function (length infos.functions))) (λ (l : FunctionOutcome). FunctionsAnswer below settings types m l.trace (with_info infos l.info) (drop (i + 1) m.functions)) (Err (fault.Function (length infos.functions) error))) (sym e) refl))

  is_unfit : (FitsFunction f m (length infos.functions) → ⊥) → FunctionsAnswer below settings types m trace infos (drop i m.functions) (Err fault.NotFit)
  unfolding FunctionsAnswer
  is_unfit unfit = here (Err fault.NotFit) (inr (unfit, refl))

-- the same of entry points
module _ (below : Meaning) (settings : Settings) (types : List TypeInfo) (m : Module) (trace : TraceState) (infos : ModuleInfo) (i : ℕ) (p : EntryPoint)
    (at : slice_get m.entry_points i ≡ Some p) (lt : i < length m.entry_points) where
  abbrev EntryFits : Type 0
  EntryFits = FitsFunction p.function m (length infos.functions) × FitsEntry p m

  entry_here : (r : ModuleAnswer) → EntriesAnswer below settings types m trace infos (p ∷ drop (i + 1) m.entry_points) r → EntriesAnswer below settings types m trace infos (drop i m.entry_points) r
  entry_here r a =
      let same : drop i m.entry_points ≡ p ∷ drop (i + 1) m.entry_points =
      at_drop_more (λ (ps : List EntryPoint). ps) m.entry_points i p lt ∙ ap (λ (q : EntryPoint). q ∷ drop (i + 1) m.entry_points) (get_or_from_slice_get m.entry_points i p p at) in
      subst (λ (ps : List EntryPoint). EntriesAnswer below settings types m trace infos ps r) (sym same) a

  entry_goes_on : EntryFits → (left : FunctionOutcome) → entry_judgement below settings types trace m infos p ≡ Ok left →
      EntriesLead below settings types m trace infos (drop i m.entry_points) left.trace (with_entry infos left.info) (drop (i + 1) m.entry_points)
  unfolding EntriesAnswer
  entry_goes_on fits left e r a =
      entry_here r
      (inl (fits, subst (λ o. AnswersStep o (IsOfEntryPoint (length infos.entry_points)) (λ (l : FunctionOutcome). EntriesAnswer below settings types m l.trace (with_entry infos l.info) (drop (i + 1) m.entry_points)) r) (sym e) a))

  entry_is_faulty : EntryFits → (error : EntryPointError) → entry_judgement below settings types trace m infos p ≡ Err (fault_of error) →
      EntriesAnswer below settings types m trace infos (drop i m.entry_points) (Err (fault.EntryPoint (length infos.entry_points) error))
  unfolding EntriesAnswer
  entry_is_faulty fits error e =
      entry_here (Err (fault.EntryPoint (length infos.entry_points) error))
      (inl (fits, subst (λ o. AnswersStep o (IsOfEntryPoint (length infos.entry_points)) (λ (l : FunctionOutcome). EntriesAnswer below settings types m l.trace (with_entry infos l.info) (drop (i + 1) m.entry_points)) (Err (fault.EntryPoint (length infos.entry_points) error))) (sym e) (refl, refl)))

  entry_is_unfit : (EntryFits → ⊥) → EntriesAnswer below settings types m trace infos (drop i m.entry_points) (Err fault.NotFit)
  unfolding EntriesAnswer
  entry_is_unfit unfit = entry_here (Err fault.NotFit) (inr (unfit, refl))

module _ (below : Meaning) (settings : Settings) (types : List TypeInfo) (m : Module) (t0 : TraceState) (i0 : ModuleInfo) (ps : List EntryPoint)
    (t1 : TraceState) (i1 : ModuleInfo) (rest : List EntryPoint) (first : EntriesLead below settings types m t0 i0 ps t1 i1 rest) where
  entries_lead_on : (t2 : TraceState) (i2 : ModuleInfo) (last : List EntryPoint) → EntriesLead below settings types m t1 i1 rest t2 i2 last → EntriesLead below settings types m t0 i0 ps t2 i2 last
  entries_lead_on t2 i2 last second r a = first r (second r a)

  entries_stop_behind : (told : ModuleFault) → EntriesStop below settings types m t1 i1 rest told → EntriesStop below settings types m t0 i0 ps told
  entries_stop_behind told (inl memory) = inl memory
  entries_stop_behind told (inr a) = inr (first (Err told) a)

-- where none is left, the entry points are judged
pub entries_judged : (below : Meaning) (settings : Settings) (types : List TypeInfo) (m : Module) (trace : TraceState) (infos : ModuleInfo) (ps : List EntryPoint) (left : TraceState) (out : ModuleInfo) →
    EntriesLead below settings types m trace infos ps left out [] → EntriesAnswer below settings types m trace infos ps (Ok out)
unfolding EntriesAnswer
entries_judged below settings types m trace infos ps left out leads = leads (Ok out) refl

-- parts of the functions one behind another
module _ (below : Meaning) (settings : Settings) (types : List TypeInfo) (m : Module) (t0 : TraceState) (i0 : ModuleInfo) (fs : List Function)
    (t1 : TraceState) (i1 : ModuleInfo) (rest : List Function) (first : Leads below settings types m t0 i0 fs t1 i1 rest) where
  leads_on : (t2 : TraceState) (i2 : ModuleInfo) (last : List Function) → Leads below settings types m t1 i1 rest t2 i2 last → Leads below settings types m t0 i0 fs t2 i2 last
  leads_on t2 i2 last second r a = first r (second r a)

  stops_behind : (told : ModuleFault) → Stops below settings types m t1 i1 rest told → Stops below settings types m t0 i0 fs told
  stops_behind told (inl memory) = inl memory
  stops_behind told (inr a) = inr (first (Err told) a)

-- one function more, behind those that came before it: it doesn't fit, it has a fault, or it passes
module _ (below : Meaning) (settings : Settings) (types : List TypeInfo) (m : Module) (t0 : TraceState) (i0 : ModuleInfo) (trace : TraceState) (infos : ModuleInfo) (i : ℕ) (f : Function)
    (at : slice_get m.functions i ≡ Some f) (lt : i < length m.functions) (leads : Leads below settings types m t0 i0 m.functions trace infos (drop i m.functions)) where
  pub function_unfit : (FitsFunction f m (length infos.functions) → ⊥) → Stops below settings types m t0 i0 m.functions fault.NotFit
  function_unfit unfit =
      stops_behind below settings types m t0 i0 m.functions trace infos (drop i m.functions) leads fault.NotFit (inr (is_unfit below settings types m trace infos i f at lt unfit))

  pub function_faulty : FitsFunction f m (length infos.functions) → (error : FunctionError) →
      function_judgement below settings types trace m infos f false ≡ Err error →
      Stops below settings types m t0 i0 m.functions (fault.Function (length infos.functions) error)
  function_faulty fits error e =
      stops_behind below settings types m t0 i0 m.functions trace infos (drop i m.functions) leads (fault.Function (length infos.functions) error)
      (inr (is_faulty below settings types m trace infos i f at lt fits error e))

  pub function_passes : FitsFunction f m (length infos.functions) → (left : FunctionOutcome) →
      function_judgement below settings types trace m infos f false ≡ Ok left →
      Leads below settings types m t0 i0 m.functions left.trace (with_info infos left.info) (drop (i + 1) m.functions)
  function_passes fits left e =
      leads_on below settings types m t0 i0 m.functions trace infos (drop i m.functions) leads left.trace (with_info infos left.info) (drop (i + 1) m.functions)
      (goes_on below settings types m trace infos i f at lt fits left e)

-- the same of an entry point
module _ (below : Meaning) (settings : Settings) (types : List TypeInfo) (m : Module) (t0 : TraceState) (i0 : ModuleInfo) (trace : TraceState) (infos : ModuleInfo) (i : ℕ) (p : EntryPoint)
    (at : slice_get m.entry_points i ≡ Some p) (lt : i < length m.entry_points) (leads : EntriesLead below settings types m t0 i0 m.entry_points trace infos (drop i m.entry_points)) where
  abbrev ThisFits : Type 0
  ThisFits = FitsFunction p.function m (length infos.functions) × FitsEntry p m

  pub entry_unfit : (ThisFits → ⊥) → EntriesStop below settings types m t0 i0 m.entry_points fault.NotFit
  entry_unfit unfit =
      entries_stop_behind below settings types m t0 i0 m.entry_points trace infos (drop i m.entry_points) leads fault.NotFit (inr (entry_is_unfit below settings types m trace infos i p at lt unfit))

  pub entry_faulty : ThisFits → (error : EntryPointError) → entry_judgement below settings types trace m infos p ≡ Err (fault_of error) →
      EntriesStop below settings types m t0 i0 m.entry_points (fault.EntryPoint (length infos.entry_points) error)
  entry_faulty fits error e =
      entries_stop_behind below settings types m t0 i0 m.entry_points trace infos (drop i m.entry_points) leads (fault.EntryPoint (length infos.entry_points) error)
      (inr (entry_is_faulty below settings types m trace infos i p at lt fits error e))

  pub entry_passes : ThisFits → (left : FunctionOutcome) → entry_judgement below settings types trace m infos p ≡ Ok left →
      EntriesLead below settings types m t0 i0 m.entry_points left.trace (with_entry infos left.info) (drop (i + 1) m.entry_points)
  entry_passes fits left e =
      entries_lead_on below settings types m t0 i0 m.entry_points trace infos (drop i m.entry_points) leads left.trace (with_entry infos left.info) (drop (i + 1) m.entry_points)
      (entry_goes_on below settings types m trace infos i p at lt fits left e)

pub none_left : {A : Type 0} (xs : List A) (i : ℕ) → length xs ≤ i → drop i xs ≡ []
none_left xs i le = drop_all i xs le

-- the points of each item of a list, item by item
module _ {A Fault : Type 0} (points : ℕ → A → List (Point Fault)) (xs : List A) (i : ℕ) where
  abbrev Left : Type 0
  Left = first_fault (points_from points i (drop i xs)) ≡ first_fault (points_of_each points xs)

  pub item_stops : (x : A) → i < length xs → x ≡ get_or xs i x → Left → (told : Fault) → first_fault (points i x) ≡ Some told → Some told ≡ first_fault (points_of_each points xs)
  item_stops x lt is left told h =
      sym (first_turn points xs i x lt is ∙ ap (λ o. option_or o (first_fault (points_from points (i + 1) (drop (i + 1) xs)))) h) ∙ left

  pub item_passes : (x : A) → i < length xs → x ≡ get_or xs i x → Left → first_fault (points i x) ≡ None →
      first_fault (points_from points (i + 1) (drop (i + 1) xs)) ≡ first_fault (points_of_each points xs)
  item_passes x lt is left h =
      sym (first_turn points xs i x lt is ∙ ap (λ o. option_or o (first_fault (points_from points (i + 1) (drop (i + 1) xs)))) h) ∙ left

  pub items_end : length xs ≤ i → Left → first_fault (points_of_each points xs) ≡ None
  items_end le left = sym left ∙ first_end points xs i le
