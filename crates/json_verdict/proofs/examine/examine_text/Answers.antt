use Rattle.std.proofs.Common.{Ok, Err, subst}
use Rattle.json_document.specs.ReadsDocument.{ReadsDocument}
use Rattle.json_values.specs.Failures.{IsUnreadable}
use Rattle.json_verdict.proofs.Misfits.{refused_has, unreadable_judges}
use Rattle.json_verdict.proofs.examine.examine_text.Goals as goal

pub returns-in-Err-Unreadable-clause-judged : goal.returns-in-Err-Unreadable-clause-judged
returns-in-Err-Unreadable-clause-judged c =
    let refused : IsUnreadable c.in-Err-Unreadable.field-0 = rw c.in-Err-Unreadable.field-0-is tt in
    let read : ReadsDocument c.args.text.now (Err c.in-Err-Unreadable.field-0) =
    subst (ReadsDocument c.args.text.now) c.in-Err-Unreadable.is c.read_text-id.ensures.document in
    unreadable_judges _ _ _ (read refused) c.alone.ensures.verdict

pub returns-then-is_located-clause-misfit : goal.returns-then-is_located-clause-misfit
returns-then-is_located-clause-misfit c = λ located.
    let read : ReadsDocument c.args.text.now (Ok c.in-Ok.document) =
    subst (ReadsDocument c.args.text.now) c.in-Ok.is c.read_text-id.ensures.document in
    refused_has c.args.text.now c.in-Ok.document c.in-Ok-new.basis c.refusal-examined.result.verdict
    c.in-Err-judge.fault c.refusal-examined.result.misfit
    read c.in-Ok-new.ensures c.in-Err-judge.ensures c.refusal-examined.ensures.verdict c.refusal-examined.ensures.misfit
