-- What can be told of a module without globals and entry points in which everything fits.
use Rattle.std.proofs.Common.{◌≡◌, ◌+◌, inl, inr, ℕ, suc, false, List, [], ◌∷◌, Some, Result, Ok, Err, length, refl, sym, ap, subst, arith}
use Rattle.std.proofs.lemmas.List.{length-append}
use Rattle.std.proofs.lemmas.List.Elements.{All-nil}
use Rattle.std.specs.Prelude.{All, IsSome, slice_get}
use Rattle.ir_facts.specs.Fits.{FitsFunction}
use Rattle.ir_arena.specs.Points.{answer, first_fault, points_of_each}
use Rattle.ir_module.specs.declared.functions.Function.{Function}
use Rattle.ir_module.specs.declared.module.EntryPoint.{EntryPoint}
use Rattle.ir_module.specs.declared.module.GlobalVariable.{GlobalVariable}
use Rattle.ir_module.specs.declared.module.Module.{Module}
use Rattle.ir_types.specs.declared.types.AddressSpace.TheVariants as space
use Rattle.ir_facts.specs.declared.valid.info.ModuleInfo.{ModuleInfo}
use Rattle.ir_facts.specs.declared.valid.settings.Settings.{Settings}
use Rattle.ir_types.specs.declared.type_info.TypeInfo.{TypeInfo}
use Rattle.ir_facts.specs.Meaning.{Meaning}
use Rattle.ir_errors.specs.declared.function.FunctionError.{FunctionError}
use Rattle.check_laws.specs.InOrder.{with_info}
use Rattle.check_statement.specs.FunctionJudgement.{FunctionOutcome, function_judgement}
use Rattle.check_statement.specs.ValidatorParts.{no_traces}
use Rattle.check_entry.specs.InterfacePoints.{HasPayloadSizes}
use Rattle.check_scope.specs.declared.trace.TraceState.{TraceState}
use Rattle.naga_module.specs.ModuleJudgement.{ModuleAnswer, AnswersStep, IsOfFunction, first_infos, globals_step, points_of_global, EntriesAnswer, FunctionsAnswer}
use Rattle.naga_module.specs.ModuleLaw.{IsReportedOfFunctions, FunctionsAloneAreReported}
use Rattle.check_faults.specs.declared.module.ModuleFault.{ModuleFault}
use Rattle.check_faults.specs.declared.module.ModuleFault.TheVariants as fault

-- a step tells the fault of a function, or what the next one tells
step_tells : {A : Type 0} (o : Result A FunctionError) (handle : ℕ) (Next : A → ModuleAnswer → Type 0) (told : ModuleFault) →
    ((x : A) → Next x (Err told) → IsReportedOfFunctions told) → AnswersStep o (IsOfFunction (fault.Function handle)) Next (Err told) → IsReportedOfFunctions told
step_tells (Ok x) handle Next told next a = next x a
step_tells (Err e) handle Next told next a = subst IsReportedOfFunctions (sym a) tt

module _ (below : Meaning) (settings : Settings) (types : List TypeInfo) (m : Module) (told : ModuleFault) (none : m.entry_points ≡ []) (sizes : HasPayloadSizes below m) where
  abbrev AllFit : ℕ → List Function → Type 0
  AllFit k fs = (i : ℕ) (f : Function) → slice_get fs i ≡ Some f → FitsFunction f m (k + i)

  no_entries : (trace : TraceState) (infos : ModuleInfo) (ps : List EntryPoint) → ps ≡ [] → EntriesAnswer below settings types m trace infos ps (Err told) → IsReportedOfFunctions told
  unfolding EntriesAnswer
  no_entries trace infos [] e a = cc
  no_entries trace infos (p ∷ ps) e a = cc

  first_fits : (k : ℕ) (f : Function) (fs : List Function) → AllFit k (f ∷ fs) → FitsFunction f m k
  first_fits k f fs all = let same : k + 0 ≡ k = omega arith in subst (λ n. FitsFunction f m n) same (all 0 f refl)

  rest_fits : (k : ℕ) (f : Function) (fs : List Function) → AllFit k (f ∷ fs) → AllFit (k + 1) fs
  rest_fits k f fs all i g is = let same : k + suc i ≡ k + 1 + i = omega arith in subst (λ n. FitsFunction g m n) same (all (suc i) g is)

  functions_tell : (trace : TraceState) (infos : ModuleInfo) (fs : List Function) → AllFit (length infos.functions) fs → FunctionsAnswer below settings types m trace infos fs (Err told) → IsReportedOfFunctions told
  unfolding FunctionsAnswer
  functions_tell trace infos [] all (inl behind) = no_entries trace infos m.entry_points none behind.1
  functions_tell trace infos [] all (inr behind) = absurd (behind.0 sizes)
  functions_tell trace infos (f ∷ fs) all (inr unfit) = absurd (unfit.0 (first_fits (length infos.functions) f fs all))
  functions_tell trace infos (f ∷ fs) all (inl step) =
      step_tells (function_judgement below settings types trace m infos f false) (length infos.functions)
      (λ (left : FunctionOutcome). FunctionsAnswer below settings types m left.trace (with_info infos left.info) fs) told
      (λ left rest.
      functions_tell left.trace (with_info infos left.info) fs
      (subst (λ n. AllFit n fs) (sym (length-append infos.functions (left.info ∷ []))) (rest_fits (length infos.functions) f fs all)) rest)
      step.1

-- a module without globals has no task payload
no_payloads : (below : Meaning) (m : Module) → m.global_variables ≡ [] → HasPayloadSizes below m
no_payloads below m none =
    let Known : GlobalVariable → Type 0 = λ g. g.space ≡ space.TaskPayload → IsSome (below.size_of m g.ty) in
    subst (λ (gs : List GlobalVariable). All Known gs) (sym none) (All-nil Known)

-- nor has it a global that is faulty
no_globals : (below : Meaning) (settings : Settings) (types : List TypeInfo) (m : Module) (infos : ModuleInfo) → m.global_variables ≡ [] → globals_step below settings types m infos ≡ Ok tt
no_globals below settings types m infos none =
    ap (λ (gs : List GlobalVariable). answer (first_fault (points_of_each (points_of_global below settings types m infos) gs)) tt) none

pub functions_alone_are_reported : FunctionsAloneAreReported
functions_alone_are_reported below settings types global_types m told fits globals entries functions (inl memory) =
    let same : told ≡ fault.Memory = cc in subst IsReportedOfFunctions (sym same) tt
functions_alone_are_reported below settings types global_types m told fits globals entries functions (inr (inr unfit)) = absurd (unfit.0 fits)
functions_alone_are_reported below settings types global_types m told fits globals entries functions (inr (inl judged)) =
    functions_tell below settings types m told entries (no_payloads below m globals) no_traces (first_infos global_types) m.functions
    (λ i f is. let same : i ≡ 0 + i = omega arith in subst (λ n. FitsFunction f m n) same (functions i f is))
    (subst (λ o. AnswersStep o (IsOfFunction (λ e. e)) (λ done. FunctionsAnswer below settings types m no_traces (first_infos global_types) m.functions) (Err told))
    (no_globals below settings types m (first_infos global_types) globals) judged.1)
