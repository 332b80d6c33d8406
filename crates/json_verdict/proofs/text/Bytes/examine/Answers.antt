use Rattle.std.proofs.Common.{refl, ◌∙◌, subst, arith}
use Rattle.json_verdict.proofs.Kept.{kept_id, kept_judges, kept_misfit}
use Rattle.json_verdict.specs.Judges.{HasMisfit, Judges}
use Rattle.json_answers.specs.VerdictIds.{HasItsId}
use Rattle.json_verdict.specs.walk.Stream.{Holds, most}
use Rattle.json_verdict.proofs.text.Bytes.examine.Goals as goal

pub returns-else-self-clause-judged : goal.returns-else-self-clause-judged
unfolding Holds
returns-else-self-clause-judged c = λ text held.
    let v = c.examine_text.result.verdict in
    kept_judges most text v (omega arith)
    (subst (λ t. Judges t v) (c.as_slice.ensures.value ∙ held c.if-self.false) c.examine_text.ensures.judged)

pub returns-else-self-clause-misfit : goal.returns-else-self-clause-misfit
unfolding Holds
returns-else-self-clause-misfit c = λ text held.
    let v = c.examine_text.result.verdict in
    let misfit = c.examine_text.result.misfit in
    kept_misfit most text v misfit (omega arith)
    (subst (λ t. HasMisfit t v misfit) (c.as_slice.ensures.value ∙ held c.if-self.false) (c.examine_text.ensures.misfit refl))

pub returns-else-self-clause-id : goal.returns-else-self-clause-id
unfolding Holds
returns-else-self-clause-id c = λ text held.
    let v = c.examine_text.result.verdict in
    let id = c.examine_text.result.id in
    kept_id most text v id (omega arith)
    (subst (λ t. HasItsId t v id) (c.as_slice.ensures.value ∙ held c.if-self.false) c.examine_text.ensures.id)
