use Rattle.std.proofs.Common.{◌++◌, ap, ◌∙◌}
use Rattle.json.specs.Print.{print}
use Rattle.json.specs.Tree.{json_tokens}
use Rattle.json_answers.specs.VerdictIds.{maybe_with_id}
use Rattle.json_answers.specs.VerdictJson.{verdict_form}
use Rattle.json_answers.proofs.line.json_line.Goals as goal

pub returns : goal.returns
returns c =
    let spans = c.in_ok-write_verdict.ensures.0 in
    let place = c.in_ok-write_verdict.ensures.1 in
    let value = json_tokens (maybe_with_id c.args.examined.now.id
    (verdict_form spans place c.args.examined.now.misfit c.args.examined.now.verdict)) in (
      spans,
      place,
      c.into_text.ensures ∙ ap print (c.in_ok-write_verdict.ensures.2 ∙ ap (λ l. l ++ value) c.new-out.ensures),
    )
