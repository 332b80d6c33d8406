-- A module has one judgement: two of them agree at each step.
use Rattle.std.proofs.Common.{◌≡◌, ◌∙◌, inl, inr, ℕ, false, List, [], ◌∷◌, Result, Ok, Err, length, refl, sym, subst}
use Rattle.ir_facts.specs.Fits.{FitsFunction, FitsEntry}
use Rattle.ir_module.specs.declared.functions.Function.{Function}
use Rattle.ir_module.specs.declared.module.EntryPoint.{EntryPoint}
use Rattle.ir_module.specs.declared.module.Module.{Module}
use Rattle.ir_facts.specs.declared.valid.info.ModuleInfo.{ModuleInfo}
use Rattle.ir_facts.specs.declared.valid.settings.Settings.{Settings}
use Rattle.ir_types.specs.declared.type_info.TypeInfo.{TypeInfo}
use Rattle.check_laws.specs.InOrder.{with_info}
use Rattle.check_entry.specs.EntryFaults.{EntryFault}
use Rattle.check_entry.specs.InterfacePoints.{HasPayloadSizes}
use Rattle.check_laws.specs.EntryJudgement.{entry_judgement}
use Rattle.ir_facts.specs.Meaning.{Meaning}
use Rattle.check_scope.specs.declared.trace.TraceState.{TraceState}
use Rattle.check_statement.specs.FunctionJudgement.{FunctionOutcome, function_judgement}
use Rattle.check_statement.specs.ValidatorParts.{no_traces}
use Rattle.naga_module.specs.ModuleJudgement.{ModuleAnswer, Tested, AnswersStep, with_entry, first_infos, IsOfFunction, IsOfEntryPoint, EntriesAnswer, FunctionsAnswer, BehindTests, Fits, globals_step}
use Rattle.naga_module.specs.OneJudgement.{IsSameFault, IsSameAnswer, ModuleHasOneJudgement}
use Rattle.check_faults.specs.declared.module.ModuleFault.{ModuleFault}
use Rattle.check_faults.specs.declared.module.ModuleFault.TheVariants as fault

same_as_itself : (told : ModuleFault) → IsSameFault told told
same_as_itself fault.NotFit = refl
same_as_itself (fault.Global h error) = refl
same_as_itself (fault.Function h error) = refl
same_as_itself (fault.EntryPoint k error) = (refl, refl)
same_as_itself fault.Memory = refl

equal_are_same : (a b : ModuleFault) → a ≡ b → IsSameFault a b
equal_are_same a b e = subst (λ (x : ModuleFault). IsSameFault a x) e (same_as_itself a)

-- two answers that are this one
both_are : (x r s : ModuleAnswer) → IsSameAnswer x x → r ≡ x → s ≡ x → IsSameAnswer r s
both_are x r s own a b =
    subst (λ (y : ModuleAnswer). IsSameAnswer y s) (sym a) (subst (λ (y : ModuleAnswer). IsSameAnswer x y) (sym b) own)

-- a test, and a step, where what comes next agrees
one_tested : (Holds : Type 0) (Next : ModuleAnswer → Type 0) (r s : ModuleAnswer) → (Next r → Next s → IsSameAnswer r s) →
    Tested Holds Next r → Tested Holds Next s → IsSameAnswer r s
one_tested Holds Next r s next (inl a) (inl b) = next a.1 b.1
one_tested Holds Next r s next (inl a) (inr b) = absurd (b.0 a.0)
one_tested Holds Next r s next (inr a) (inl b) = absurd (a.0 b.0)
one_tested Holds Next r s next (inr a) (inr b) = both_are (Err fault.NotFit) r s refl a.1 b.1

one_step : {A E : Type 0} (o : Result A E) (Makes : E → ModuleFault → Type 0) (Next : A → ModuleAnswer → Type 0) (r s : ModuleAnswer) →
    ((e : E) (a b : ModuleFault) → Makes e a → Makes e b → IsSameFault a b) → ((x : A) → Next x r → Next x s → IsSameAnswer r s) →
    AnswersStep o Makes Next r → AnswersStep o Makes Next s → IsSameAnswer r s
one_step (Ok x) Makes Next r s faults next a b = next x a b
one_step (Err e) Makes Next (Ok infos) s faults next a b = absurd a
one_step (Err e) Makes Next (Err told) (Ok infos) faults next a b = absurd b
one_step (Err e) Makes Next (Err told) (Err other) faults next a b = faults e told other a b

-- the faults that a step makes of one fault
of_functions : {E : Type 0} (make : E → ModuleFault) (e : E) (a b : ModuleFault) → IsOfFunction make e a → IsOfFunction make e b → IsSameFault a b
of_functions make e a b p q = equal_are_same a b (p ∙ sym q)

of_entries : (index : ℕ) (e : EntryFault) (a b : ModuleFault) → IsOfEntryPoint index e a → IsOfEntryPoint index e b → IsSameFault a b
of_entries index e (fault.EntryPoint k error) (fault.EntryPoint n other) p q = (p.0 ∙ sym q.0, p.1 ∙ sym q.1)
of_entries index e (fault.EntryPoint k error) fault.NotFit p q = absurd q
of_entries index e (fault.EntryPoint k error) (fault.Global h other) p q = absurd q
of_entries index e (fault.EntryPoint k error) (fault.Function h other) p q = absurd q
of_entries index e (fault.EntryPoint k error) fault.Memory p q = absurd q
of_entries index e fault.NotFit b p q = absurd p
of_entries index e (fault.Global h error) b p q = absurd p
of_entries index e (fault.Function h error) b p q = absurd p
of_entries index e fault.Memory b p q = absurd p

module _ (below : Meaning) (settings : Settings) (types : List TypeInfo) (m : Module) (r s : ModuleAnswer) where
  one_of_entries : (trace : TraceState) (infos : ModuleInfo) (ps : List EntryPoint) →
      EntriesAnswer below settings types m trace infos ps r → EntriesAnswer below settings types m trace infos ps s → IsSameAnswer r s
  unfolding EntriesAnswer
  one_of_entries trace infos [] a b = both_are (Ok infos) r s refl a b
  one_of_entries trace infos (p ∷ ps) a b =
      one_tested (FitsFunction p.function m (length infos.functions) × FitsEntry p m)
      (AnswersStep (entry_judgement below settings types trace m infos p) (IsOfEntryPoint (length infos.entry_points)) (λ (l : FunctionOutcome). EntriesAnswer below settings types m l.trace (with_entry infos l.info) ps)) r s
      (one_step (entry_judgement below settings types trace m infos p) (IsOfEntryPoint (length infos.entry_points)) (λ (l : FunctionOutcome). EntriesAnswer below settings types m l.trace (with_entry infos l.info) ps) r s
      (of_entries (length infos.entry_points)) (λ l x y. one_of_entries l.trace (with_entry infos l.info) ps x y)) a b

  one_of_functions : (trace : TraceState) (infos : ModuleInfo) (fs : List Function) →
      FunctionsAnswer below settings types m trace infos fs r → FunctionsAnswer below settings types m trace infos fs s → IsSameAnswer r s
  unfolding FunctionsAnswer
  one_of_functions trace infos [] a b =
      one_tested (HasPayloadSizes below m) (EntriesAnswer below settings types m trace infos m.entry_points) r s
      (one_of_entries trace infos m.entry_points) a b
  one_of_functions trace infos (f ∷ fs) a b =
      one_tested (FitsFunction f m (length infos.functions))
      (AnswersStep (function_judgement below settings types trace m infos f false) (IsOfFunction (fault.Function (length infos.functions))) (λ (l : FunctionOutcome). FunctionsAnswer below settings types m l.trace (with_info infos l.info) fs)) r s
      (one_step (function_judgement below settings types trace m infos f false) (IsOfFunction (fault.Function (length infos.functions))) (λ (l : FunctionOutcome). FunctionsAnswer below settings types m l.trace (with_info infos l.info) fs) r s
      (of_functions (fault.Function (length infos.functions))) (λ l x y. one_of_functions l.trace (with_info infos l.info) fs x y)) a b

  one_behind_tests : (trace : TraceState) (infos : ModuleInfo) →
      BehindTests below settings types m trace infos r → BehindTests below settings types m trace infos s → IsSameAnswer r s
  one_behind_tests trace infos a b =
      one_step (globals_step below settings types m infos) (IsOfFunction (λ e. e)) (λ done. FunctionsAnswer below settings types m trace infos m.functions) r s
      (of_functions (λ e. e)) (λ done x y. one_of_functions trace infos m.functions x y) a b

pub one_judgement : ModuleHasOneJudgement
one_judgement below settings types global_types m r s a b =
    one_tested (Fits below settings types m global_types) (BehindTests below settings types m no_traces (first_infos global_types)) r s
    (one_behind_tests below settings types m r s no_traces (first_infos global_types)) a b
