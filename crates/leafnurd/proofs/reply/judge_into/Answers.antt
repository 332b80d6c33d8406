use Rattle.std.proofs.Common.{None, inl, inr, refl}
use Rattle.json_verdict.proofs.Misfits.{memory_fits}
use Rattle.json_answers.specs.declared.verdict.Verdict.TheVariants as verdict
use Rattle.check_faults.specs.declared.module.ModuleFault.TheVariants as fault
use Rattle.leafnurd.proofs.reply.judge_into.Goals as goal

pub returns : goal.returns
returns c =
    let found = c.examine-examined.result in
    elim c.report-answer.ensures [
      | inl told ↦ (
        found.id,
        found.verdict,
        found.misfit,
        c.examine-examined.ensures.judged,
        c.examine-examined.ensures.misfit,
        c.examine-examined.ensures.id,
        told,
      )
      | inr told ↦ (None, verdict.Refused fault.Memory, None, inl refl, memory_fits c.args.text.now _ None refl, inl refl, told)
    ]
