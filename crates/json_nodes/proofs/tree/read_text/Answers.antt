use Rattle.std.proofs.Common.{◌∙◌}
use Rattle.json_nodes.proofs.Texts.{reads, refused, no_document}
use Rattle.json_nodes.proofs.tree.read_text.Goals as goal

pub returns-then-not-is_whole-clause-invalid : goal.returns-then-not-is_whole-clause-invalid
returns-then-not-is_whole-clause-invalid c never =
    refused c.args.text.now c.in-Ok.tape c.in-Ok.ensures.ok.0 _ c.if-not-is_whole.true (λ j is. c.is_whole.ensures j (c.nodes.ensures.tokens ∙ is))

pub invariant_of-result : goal.invariant_of-result
invariant_of-result c =
    (reads c.args.text.now c.in-Ok.tape c.in-Ok.ensures.ok.0 _ c.if-not-is_whole.false c.in-Ok.ensures.ok.1 (λ j is. c.is_whole.ensures j (c.nodes.ensures.tokens ∙ is))).0

pub returns-else-not-is_whole-clause-ok : goal.returns-else-not-is_whole-clause-ok
returns-else-not-is_whole-clause-ok c =
    (reads c.args.text.now c.in-Ok.tape c.in-Ok.ensures.ok.0 _ c.if-not-is_whole.false c.in-Ok.ensures.ok.1 (λ j is. c.is_whole.ensures j (c.nodes.ensures.tokens ∙ is))).1

pub returns-in-Err-Invalid-clause-invalid : goal.returns-in-Err-Invalid-clause-invalid
returns-in-Err-Invalid-clause-invalid c never = no_document c.args.text.now (c.in-Err-Invalid.ensures.invalid (cc))
