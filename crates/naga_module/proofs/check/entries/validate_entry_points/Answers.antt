use Rattle.std.proofs.Common.{◌≡◌, ◌+◌, ◌∙◌, List, [], ◌∷◌, Ok, Err, drop, length, refl, sym, ap, subst}
use Rattle.std.proofs.lemmas.List.{length-append}
use Rattle.ir_facts.specs.Fits.{FitsFunction, FitsEntry}
use Rattle.ir_facts.specs.declared.valid.info.FunctionInfo.{FunctionInfo}
use Rattle.ir_module.specs.declared.module.EntryPoint.{EntryPoint}
use Rattle.check_entry.specs.EntryFaults.{fault_of}
use Rattle.check_entry.specs.InterfacePoints.{HasPayloadSizes}
use Rattle.check_laws.specs.EntryJudgement.{entry_judgement}
use Rattle.check_statement.specs.FunctionJudgement.{FunctionOutcome}
use Rattle.check_statement.specs.ValidatorParts.{ValidatorParts}
use Rattle.check_entry.specs.GivenInfos.{AreInfosOf}
use Rattle.naga_module.specs.CodeModule.{EntriesLead, EntriesStop}
use Rattle.check_faults.specs.declared.module.ModuleFault.TheVariants as fault
use Rattle.naga_module.proofs.Modules.{entry_unfit, entry_faulty, entry_passes, entries_judged, none_left}
use Rattle.naga_module.proofs.check.entries.validate_entry_points.Goals as goal

pub loop-index-init : goal.loop-index-init
loop-index-init g c = record { place = ap length c.requires.first; kept = refl; leads = λ r a. a }

pub validate_entry_point-answer-requires-clause-infos : goal.validate_entry_point-answer-requires-clause-infos
validate_entry_point-answer-requires-clause-infos g c =
    subst (λ (v : ValidatorParts g.row.B.Denot). AreInfosOf c.args.module.now v.types) (sym c.loop-index.invariant.kept) c.requires.infos

pub validate_entry_point-answer-requires-clause-sizes : goal.validate_entry_point-answer-requires-clause-sizes
validate_entry_point-answer-requires-clause-sizes g c =
    subst (λ (v : ValidatorParts g.row.B.Denot). HasPayloadSizes (g.B.Below.meaning v.below) c.args.module.now) (sym c.loop-index.invariant.kept) c.requires.sizes

pub returns-then-not-fits-clause-refused : goal.returns-then-not-fits-clause-refused
returns-then-not-fits-clause-refused g c =
    let v = c.args.validator.now in
    let m = c.args.module.now in
    let now = c.loop-index.infos in
    let p = c.index-ep.result.now in
    let lt = rw c.len-index-end.ensures at c.loop-index-test.true in
    let unfit : FitsFunction p.function m (length now.functions) × FitsEntry p m → ⊥ =
    λ held. let no = c.if-not-fits.ensures.1 (subst (λ n. FitsFunction p.function m n) (sym c.len.ensures) held.0, held.1) in cc in
    entry_unfit (g.B.Below.meaning v.below) v.settings v.types m v.trace c.args.infos.now c.loop-index.validator.trace now c.loop-index.index p c.index-ep.ensures lt c.loop-index.invariant.leads unfit

pub returns-in-Err-Fault-clause-refused : goal.returns-in-Err-Fault-clause-refused
returns-in-Err-Fault-clause-refused g c =
    let v = c.args.validator.now in
    let m = c.args.module.now in
    let now = c.loop-index.infos in
    let p = c.index-ep.result.now in
    let error = c.in-Err-Fault.fault in
    let lt = rw c.len-index-end.ensures at c.loop-index-test.true in
    let held = c.if-not-fits.ensures.0 refl in
    let judged =
    subst (λ (w : ValidatorParts g.row.B.Denot). entry_judgement (g.B.Below.meaning w.below) w.settings w.types w.trace m now p ≡ Err (fault_of error)) c.loop-index.invariant.kept
    (rw c.in-Err-Fault.field-0-is at c.in-Err-Fault.ensures.judged) in
    let told = entry_faulty (g.B.Below.meaning v.below) v.settings v.types m v.trace c.args.infos.now c.loop-index.validator.trace now c.loop-index.index p c.index-ep.ensures lt c.loop-index.invariant.leads
    (subst (λ n. FitsFunction p.function m n) c.len.ensures held.0, held.1) error judged in
    rw c.in-Err-Fault.field-0-is (subst (λ n. EntriesStop (g.B.Below.meaning v.below) v.settings v.types m v.trace c.args.infos.now m.entry_points (fault.EntryPoint n error)) c.loop-index.invariant.place told)

pub loop-index-preserved : goal.loop-index-preserved
loop-index-preserved g c =
    let v = c.args.validator.now in
    let m = c.args.module.now in
    let now = c.loop-index.infos in
    let p = c.index-ep.result.now in
    let left = c.validate_entry_point-answer.new.self.trace in
    let lt = rw c.len-index-end.ensures at c.loop-index-test.true in
    let held = c.if-not-fits.ensures.0 refl in
    let outcome : FunctionOutcome = record { info = c.in-Ok.info; trace = left } in
    let judged =
    subst (λ (w : ValidatorParts g.row.B.Denot). entry_judgement (g.B.Below.meaning w.below) w.settings w.types w.trace m now p ≡ Ok outcome) c.loop-index.invariant.kept c.in-Ok.ensures.judged in
    let on = entry_passes (g.B.Below.meaning v.below) v.settings v.types m v.trace c.args.infos.now c.loop-index.validator.trace now c.loop-index.index p c.index-ep.ensures lt c.loop-index.invariant.leads
    (subst (λ n. FitsFunction p.function m n) c.len.ensures held.0, held.1) outcome judged in
    record {
      place = ap length c.in_ok-push-in-Ok.ensures.pushed ∙ length-append now.entry_points (c.in-Ok.info ∷ []) ∙ ap (λ n. n + 1) c.loop-index.invariant.place;
      kept = c.validate_entry_point-answer.ensures.kept ∙ ap (λ (w : ValidatorParts g.row.B.Denot). record w { trace = left }) c.loop-index.invariant.kept;
      leads = subst (λ (l : List FunctionInfo). EntriesLead (g.B.Below.meaning v.below) v.settings v.types m v.trace c.args.infos.now m.entry_points left (record now { entry_points = l }) (drop (c.loop-index.index + 1) m.entry_points))
          (sym c.in_ok-push-in-Ok.ensures.pushed) on;
    }

pub returns-clause-judged : goal.returns-clause-judged
returns-clause-judged g c =
    let v = c.args.validator.now in
    let m = c.args.module.now in
    entries_judged (g.B.Below.meaning v.below) v.settings v.types m v.trace c.args.infos.now m.entry_points c.loop-index.validator.trace c.loop-index.infos
    (subst (λ (ps : List EntryPoint). EntriesLead (g.B.Below.meaning v.below) v.settings v.types m v.trace c.args.infos.now m.entry_points c.loop-index.validator.trace c.loop-index.infos ps)
    (none_left m.entry_points c.loop-index.index (rw c.len-index-end.ensures at c.loop-index-test.false)) c.loop-index.invariant.leads)
