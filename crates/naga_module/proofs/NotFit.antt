-- Of a module of which all tests hold, the judgement is never that it doesn't fit.
use Rattle.std.proofs.Common.{◌≡◌, ◌∙◌, ◌+◌, inl, inr, ℕ, suc, false, List, [], ◌∷◌, Option, Some, None, Result, Ok, Err, length, refl, sym, ap, subst, arith}
use Rattle.std.proofs.lemmas.List.{length-append}
use Rattle.std.proofs.lemmas.Option.{get_or_from_slice_get, slice_get_within}
use Rattle.std.specs.Option.{option_map, option_or}
use Rattle.std.specs.Prelude.{All, slice_get}
use Rattle.ir_facts.specs.Fits.{FitsFunction, FitsEntry}
use Rattle.ir_arena.specs.Points.{Point, answer, first_fault, points_from, points_of_each, within}
use Rattle.ir_arena.proofs.Points.{first_of_both, first_within}
use Rattle.ir_module.specs.declared.functions.Function.{Function}
use Rattle.ir_module.specs.declared.module.EntryPoint.{EntryPoint}
use Rattle.ir_module.specs.declared.module.GlobalVariable.{GlobalVariable}
use Rattle.ir_module.specs.declared.module.Module.{Module}
use Rattle.ir_types.specs.declared.typifier.TypeResolution.{TypeResolution}
use Rattle.ir_facts.specs.declared.valid.info.ModuleInfo.{ModuleInfo}
use Rattle.ir_facts.specs.declared.valid.settings.Settings.{Settings}
use Rattle.ir_types.specs.declared.type_info.TypeInfo.{TypeInfo}
use Rattle.check_laws.specs.InOrder.{with_info}
use Rattle.check_entry.specs.InterfacePoints.{HasPayloadSizes}
use Rattle.check_laws.specs.EntryJudgement.{entry_judgement}
use Rattle.check_entry.specs.GlobalPoints.{module_global_points}
use Rattle.ir_facts.specs.Meaning.{Meaning}
use Rattle.ir_errors.specs.declared.interface.GlobalVariableError.{GlobalVariableError}
use Rattle.check_scope.specs.declared.trace.TraceState.{TraceState}
use Rattle.check_statement.specs.FunctionJudgement.{FunctionOutcome, function_judgement}
use Rattle.check_statement.specs.ValidatorParts.{no_traces}
use Rattle.naga_module.specs.Misfits.{AllFits}
use Rattle.naga_module.specs.ModuleJudgement.{ModuleAnswer, AnswersStep, with_entry, first_infos, IsOfFunction, IsOfEntryPoint, EntriesAnswer, FunctionsAnswer, IsJudgement, points_of_global}
use Rattle.check_faults.specs.declared.module.ModuleFault.{ModuleFault}
use Rattle.check_faults.specs.declared.module.ModuleFault.TheVariants as fault

-- neither a step nor what comes next is NotFit
step_is_other : {A E : Type 0} (o : Result A E) (Makes : E → ModuleFault → Type 0) (Next : A → ModuleAnswer → Type 0) →
    ((e : E) → Makes e fault.NotFit → ⊥) → ((x : A) → Next x (Err fault.NotFit) → ⊥) → AnswersStep o Makes Next (Err fault.NotFit) → ⊥
step_is_other (Ok x) Makes Next own next a = next x a
step_is_other (Err e) Makes Next own next a = own e a

-- the faults of globals
one_global : (k : ℕ) (o : Option GlobalVariableError) (rest : Option ModuleFault) → (rest ≡ Some fault.NotFit → ⊥) → option_or (option_map (fault.Global k) o) rest ≡ Some fault.NotFit → ⊥
one_global k None rest other e = other e
one_global k (Some error) rest other e = cc

globals_are_other : (points : GlobalVariable → List (Point GlobalVariableError)) (k : ℕ) (gs : List GlobalVariable) →
    first_fault (points_from (λ j g. within (fault.Global j) (points g)) k gs) ≡ Some fault.NotFit → ⊥
globals_are_other points k [] e = cc
globals_are_other points k (g ∷ gs) e =
    let rest = first_fault (points_from (λ j x. within (fault.Global j) (points x)) (suc k) gs) in
    let split = first_of_both (within (fault.Global k) (points g)) (points_from (λ j x. within (fault.Global j) (points x)) (suc k) gs) in
    let inside = ap (λ o. option_or o rest) (first_within (fault.Global k) (points g)) in
    one_global k (first_fault (points g)) rest (globals_are_other points (suc k) gs) (sym (split ∙ inside) ∙ e)

-- the step of the globals, which is not NotFit
globals_step_is_other : (told : Option ModuleFault) (Next : Unit {0} → ModuleAnswer → Type 0) → (told ≡ Some fault.NotFit → ⊥) → ((x : Unit {0}) → Next x (Err fault.NotFit) → ⊥) →
    AnswersStep (answer told tt) (IsOfFunction (λ e. e)) Next (Err fault.NotFit) → ⊥
globals_step_is_other None Next other next a = next tt a
globals_step_is_other (Some e) Next other next a = other (ap Some (sym a))

module _ (below : Meaning) (settings : Settings) (types : List TypeInfo) (m : Module) where
  abbrev Entry : EntryPoint → Type 0
  Entry p = FitsFunction p.function m (length m.functions) × FitsEntry p m

  abbrev EntriesFit : List EntryPoint → Type 0
  EntriesFit ps = (i : ℕ) (p : EntryPoint) → slice_get ps i ≡ Some p → Entry p

  entries_fit : (trace : TraceState) (infos : ModuleInfo) (ps : List EntryPoint) → length infos.functions ≡ length m.functions →
      EntriesFit ps → EntriesAnswer below settings types m trace infos ps (Err fault.NotFit) → ⊥
  unfolding EntriesAnswer
  entries_fit trace infos [] count each a = cc
  entries_fit trace infos (p ∷ ps) count each (inr unfit) =
      unfit.0 (subst (λ n. FitsFunction p.function m n × FitsEntry p m) (sym count) (each 0 p refl))
  entries_fit trace infos (p ∷ ps) count each (inl step) =
      step_is_other (entry_judgement below settings types trace m infos p) (IsOfEntryPoint (length infos.entry_points))
      (λ (l : FunctionOutcome). EntriesAnswer below settings types m l.trace (with_entry infos l.info) ps) (λ e h. h)
      (λ l rest. entries_fit l.trace (with_entry infos l.info) ps count (λ i q is. each (suc i) q is) rest) step.1

  abbrev FunctionsFit : ℕ → List Function → Type 0
  FunctionsFit k fs = (i : ℕ) (f : Function) → slice_get fs i ≡ Some f → FitsFunction f m (k + i)

  first_fits : (k : ℕ) (f : Function) (fs : List Function) → FunctionsFit k (f ∷ fs) → FitsFunction f m k
  first_fits k f fs all = let same : k + 0 ≡ k = omega arith in subst (λ n. FitsFunction f m n) same (all 0 f refl)

  rest_fits : (k : ℕ) (f : Function) (fs : List Function) → FunctionsFit k (f ∷ fs) → FunctionsFit (k + 1) fs
  rest_fits k f fs all i g is = let same : k + suc i ≡ k + 1 + i = omega arith in subst (λ n. FitsFunction g m n) same (all (suc i) g is)

  module _ (sizes : HasPayloadSizes below m) (entries : EntriesFit m.entry_points) where
    functions_fit : (trace : TraceState) (infos : ModuleInfo) (fs : List Function) → length infos.functions + length fs ≡ length m.functions →
        FunctionsFit (length infos.functions) fs → FunctionsAnswer below settings types m trace infos fs (Err fault.NotFit) → ⊥
    unfolding FunctionsAnswer
    functions_fit trace infos [] count all (inl behind) =
        let all_done : length infos.functions ≡ length m.functions = omega (arith, count) in
        entries_fit trace infos m.entry_points all_done entries behind.1
    functions_fit trace infos [] count all (inr behind) = behind.0 sizes
    functions_fit trace infos (f ∷ fs) count all (inr unfit) = unfit.0 (first_fits (length infos.functions) f fs all)
    functions_fit trace infos (f ∷ fs) count all (inl step) =
        step_is_other (function_judgement below settings types trace m infos f false) (IsOfFunction (fault.Function (length infos.functions)))
        (λ (l : FunctionOutcome). FunctionsAnswer below settings types m l.trace (with_info infos l.info) fs) (λ e h. cc)
        (λ l rest.
        let longer = length-append infos.functions (l.info ∷ []) in
        functions_fit l.trace (with_info infos l.info) fs (omega (arith, count, longer))
        (subst (λ n. FunctionsFit n fs) (sym longer) (rest_fits (length infos.functions) f fs all)) rest)
        step.1

-- what holds of all items of a list holds of each
at_each : {A : Type 0} (P : A → Type 0) (xs : List A) → All P xs → (i : ℕ) (x : A) → slice_get xs i ≡ Some x → P x
at_each P xs all i x is =
    subst P (get_or_from_slice_get xs i x x is) (all i x (slice_get_within xs i x is))

-- a module of which all tests hold isn't judged NotFit, whatever the settings are
pub all_fits_is_other : (below : Meaning) (settings : Settings) (types : List TypeInfo) (m : Module) (global_types : List TypeResolution) →
    AllFits below types m global_types → IsJudgement below settings types m global_types (Err fault.NotFit) → ⊥
all_fits_is_other below settings types m global_types all (inr unfit) =
    unfit.0 (record { infos = all.infos; types_fit = all.types_fit; globals = all.globals })
all_fits_is_other below settings types m global_types all (inl judged) =
    let infos = first_infos global_types in
    let points = module_global_points below settings types m infos (below.kinds_of m.global_expressions) in
    let told = first_fault (points_of_each (points_of_global below settings types m infos) m.global_variables) in
    globals_step_is_other told (λ done. FunctionsAnswer below settings types m no_traces infos m.functions)
    (globals_are_other points 0 m.global_variables)
    (λ done rest. functions_fit below settings types m all.sizes (at_each (λ p. FitsFunction p.function m (length m.functions) × FitsEntry p m) m.entry_points all.entries) no_traces infos m.functions (omega arith)
    (λ i f is. let same : i ≡ 0 + i = omega arith in subst (λ n. FitsFunction f m n) same (all.functions i f is)) rest)
    judged.1
