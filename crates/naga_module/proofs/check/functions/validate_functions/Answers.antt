use Rattle.std.proofs.Common.{◌≡◌, ◌+◌, ◌∙◌, List, [], ◌∷◌, Some, Ok, Err, drop, length, refl, sym, ap, subst}
use Rattle.std.proofs.lemmas.List.{length-append}
use Rattle.std.specs.Prelude.{slice_get, false}
use Rattle.ir_facts.specs.Fits.{FitsFunction}
use Rattle.ir_facts.specs.declared.valid.info.FunctionInfo.{FunctionInfo}
use Rattle.ir_module.specs.declared.functions.Function.{Function}
use Rattle.check_statement.specs.FunctionJudgement.{FunctionOutcome, function_judgement}
use Rattle.check_statement.specs.ValidatorParts.{ValidatorParts}
use Rattle.check_entry.specs.GivenInfos.{AreInfosOf}
use Rattle.naga_module.specs.CodeModule.{Leads, Stops}
use Rattle.check_faults.specs.declared.module.ModuleFault.TheVariants as fault
use Rattle.naga_module.proofs.Modules.{function_unfit, function_faulty, function_passes, none_left}
use Rattle.naga_module.proofs.check.functions.validate_functions.Goals as goal

pub loop-index-init : goal.loop-index-init
loop-index-init g c = record { place = ap length c.requires.first; entries = refl; kept = refl; leads = λ r a. a }

pub validate_function-answer-requires-clause-infos : goal.validate_function-answer-requires-clause-infos
validate_function-answer-requires-clause-infos g c =
    subst (λ (v : ValidatorParts g.row.B.Denot). AreInfosOf c.args.module.now v.types) (sym c.loop-index.invariant.kept) c.requires.infos

pub returns-then-not-fits_function_with-clause-refused :
    goal.returns-then-not-fits_function_with-clause-refused
returns-then-not-fits_function_with-clause-refused g c =
    let v = c.args.validator.now in
    let m = c.args.module.now in
    let now = c.loop-index.infos in
    let f = c.index-fun.result.now in
    let lt = rw c.len-count.ensures.len at c.loop-index-test.true in
    let at = subst (λ h. slice_get m.functions h ≡ Some f) c.new-handle.ensures c.index-fun.ensures in
    let unfit : FitsFunction f m (length now.functions) → ⊥ =
    λ fits. let held = c.if-not-fits_function_with.ensures.1 (subst (λ n. FitsFunction f m n) (sym c.len.ensures) fits) in cc in
    function_unfit (g.B.Below.meaning v.below) v.settings v.types m v.trace c.args.infos.now c.loop-index.validator.trace now c.loop-index.index f at lt c.loop-index.invariant.leads unfit

pub returns-in-Err-Fault-clause-refused : goal.returns-in-Err-Fault-clause-refused
returns-in-Err-Fault-clause-refused g c =
    let v = c.args.validator.now in
    let m = c.args.module.now in
    let now = c.loop-index.infos in
    let f = c.index-fun.result.now in
    let error = c.in-Err-Fault.fault in
    let lt = rw c.len-count.ensures.len at c.loop-index-test.true in
    let at = subst (λ h. slice_get m.functions h ≡ Some f) c.new-handle.ensures c.index-fun.ensures in
    let fits = subst (λ n. FitsFunction f m n) c.len.ensures (c.if-not-fits_function_with.ensures.0 refl) in
    let judged =
    subst (λ (w : ValidatorParts g.row.B.Denot). function_judgement (g.B.Below.meaning w.below) w.settings w.types w.trace m now f false ≡ Err error) c.loop-index.invariant.kept
    (rw c.in-Err-Fault.field-0-is at c.in-Err-Fault.ensures.judged) in
    let told = function_faulty (g.B.Below.meaning v.below) v.settings v.types m v.trace c.args.infos.now c.loop-index.validator.trace now c.loop-index.index f at lt c.loop-index.invariant.leads fits error judged in
    rw c.in-Err-Fault.field-0-is (subst (λ n. Stops (g.B.Below.meaning v.below) v.settings v.types m v.trace c.args.infos.now m.functions (fault.Function n error)) (c.loop-index.invariant.place ∙ sym c.new-handle.ensures) told)

pub loop-index-preserved : goal.loop-index-preserved
loop-index-preserved g c =
    let v = c.args.validator.now in
    let m = c.args.module.now in
    let now = c.loop-index.infos in
    let f = c.index-fun.result.now in
    let left = c.validate_function-answer.new.self.trace in
    let lt = rw c.len-count.ensures.len at c.loop-index-test.true in
    let at = subst (λ h. slice_get m.functions h ≡ Some f) c.new-handle.ensures c.index-fun.ensures in
    let fits = subst (λ n. FitsFunction f m n) c.len.ensures (c.if-not-fits_function_with.ensures.0 refl) in
    let outcome : FunctionOutcome = record { info = c.in-Ok.info; trace = left } in
    let judged =
    subst (λ (w : ValidatorParts g.row.B.Denot). function_judgement (g.B.Below.meaning w.below) w.settings w.types w.trace m now f false ≡ Ok outcome) c.loop-index.invariant.kept c.in-Ok.ensures.judged in
    let on = function_passes (g.B.Below.meaning v.below) v.settings v.types m v.trace c.args.infos.now c.loop-index.validator.trace now c.loop-index.index f at lt c.loop-index.invariant.leads fits outcome judged in
    record {
      place = ap length c.in_ok-push-in-Ok.ensures.pushed ∙ length-append now.functions (c.in-Ok.info ∷ []) ∙ ap (λ n. n + 1) c.loop-index.invariant.place;
      entries = c.loop-index.invariant.entries;
      kept = c.validate_function-answer.ensures.kept ∙ ap (λ (w : ValidatorParts g.row.B.Denot). record w { trace = left }) c.loop-index.invariant.kept;
      leads = subst (λ (l : List FunctionInfo). Leads (g.B.Below.meaning v.below) v.settings v.types m v.trace c.args.infos.now m.functions left (record now { functions = l }) (drop (c.loop-index.index + 1) m.functions))
          (sym c.in_ok-push-in-Ok.ensures.pushed) on;
    }

pub returns-clause-judged : goal.returns-clause-judged
returns-clause-judged g c =
    let v = c.args.validator.now in
    let m = c.args.module.now in
    subst (λ (fs : List Function). Leads (g.B.Below.meaning v.below) v.settings v.types m v.trace c.args.infos.now m.functions c.loop-index.validator.trace c.loop-index.infos fs)
    (none_left m.functions c.loop-index.index (rw c.len-count.ensures.len at c.loop-index-test.false)) c.loop-index.invariant.leads

pub returns-clause-kept : goal.returns-clause-kept
returns-clause-kept g c = c.loop-index.invariant.kept

pub returns-clause-entries : goal.returns-clause-entries
returns-clause-entries g c = c.loop-index.invariant.entries
