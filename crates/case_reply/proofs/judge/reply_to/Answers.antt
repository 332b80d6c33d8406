use Rattle.std.proofs.Common.{◌≡◌, Err, ap}
use Rattle.case_notation.specs.Case.{case_of}
use Rattle.case_notation.specs.declared.case.CaseError.TheVariants.{Unreadable}
use Rattle.case_reply.proofs.Cases.{replies_none, replies_accepted, replies_fault}
use Rattle.case_reply.proofs.judge.reply_to.Goals as goal

pub returns-in-Err-Unreadable : goal.returns-in-Err-Unreadable
returns-in-Err-Unreadable c = replies_none _ (c.in-Err-Unreadable.ensures.none (let same : c.in-Err-Unreadable.field-0 ≡ Unreadable = cc in ap Err same))

pub returns-in-Ok-answer : goal.returns-in-Ok-answer
returns-in-Ok-answer c = rw (c.stages_of_last.ensures, c.as_slice.ensures) (replies_accepted _ (case_of c.in-Ok.case) _ c.in-Ok.ensures.found c.in-Ok-answer.ensures.judged)

pub returns-in-Err-Function : goal.returns-in-Err-Function
returns-in-Err-Function c =
    let told = rw c.in-Err-Function.field-0-is at c.in-Err-Function.ensures in
    rw c.into_inner.ensures (replies_fault _ (case_of c.in-Ok.case) _ _ c.in-Ok.ensures.found told.judged)
