use Rattle.std.proofs.Common.{◌≡◌}
use Rattle.std.proofs.lemmas.Result.{err_from_is_err_and}
use Rattle.case_notation.specs.declared.case.CaseError.TheVariants.{Unreadable}
use Rattle.case_notation.proofs.Reading.Fed.{fed_more, fed_unlike, fed_refused, fed_whole, fed_no_body}
use Rattle.case_notation.proofs.Reading.Made.{body_said, body_shown, body_made, body_none}
use Rattle.case_notation.proofs.reader.read_body.Goals as goal

pub loop-word-preserved : goal.loop-word-preserved
loop-word-preserved c =
    fed_more _ _ _ _ _ _ c.loop-word.invariant c.in-Some.ensures _ _ c.in-Some-token_of.ensures.found c.in_ok-step.ensures

pub returns-in_default-token_of-clause-none : goal.returns-in_default-token_of-clause-none
returns-in_default-token_of-clause-none c = λ is.
    body_none _ _ (λ ts are. absurd (fed_unlike _ _ _ _ _ _ c.loop-word.invariant c.in-Some.ensures c.in_default-token_of.ensures.none ts are))

pub returns-in_err-step-clause-none : goal.returns-in_err-step-clause-none
returns-in_err-step-clause-none c =
    let p = err_from_is_err_and c.from_residual.result c.from_residual.ensures.1 in
    rw (p.1, p.2) (λ is. body_none _ _ (λ ts are. fed_refused _ _ _ _ _ _ c.loop-word.invariant c.in-Some.ensures _ _ _ c.in-Some-token_of.ensures.found c.in_err-step.ensures (let same : c.in_err-step.field-0.0 ≡ Unreadable = cc in same) ts are))

pub returns-clause-found : goal.returns-clause-found
returns-clause-found c = body_said c.args.bench c.args.text.now _ (fed_whole _ _ _ _ c.loop-word.invariant c.in_default.ensures _ c.finish.ensures)

pub returns-clause-printable : goal.returns-clause-printable
returns-clause-printable c = body_shown c.args.bench c.args.text.now _ (fed_whole _ _ _ _ c.loop-word.invariant c.in_default.ensures _ c.finish.ensures)

pub returns-clause-made : goal.returns-clause-made
returns-clause-made c = body_made c.args.bench c.args.text.now _ (fed_whole _ _ _ _ c.loop-word.invariant c.in_default.ensures _ c.finish.ensures)

pub returns-clause-none : goal.returns-clause-none
returns-clause-none c = λ is. body_none _ _ (fed_no_body _ _ _ _ c.loop-word.invariant c.in_default.ensures _ c.finish.ensures is)
