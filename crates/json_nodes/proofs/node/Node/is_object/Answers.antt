use Rattle.std.proofs.Common.{is_some, ◌∙◌}
use Rattle.json.specs.Find as find
use Rattle.serde_json.specs.Find.{as_object}
use Rattle.json_nodes.proofs.Values.{is_object_kept}
use Rattle.json_nodes.proofs.Views.{seen, has_members}
use Rattle.json_nodes.proofs.node.Node.is_object.Goals as goal

pub returns : goal.returns
returns c =
    seen _ _ c.self.view_is c.self.invariant (λ j. is_some (find.as_object j)) (λ d. is_some (as_object d)) is_object_kept _
    (λ j at. c.is_some.ensures ∙ has_members c.members.result j (c.members.ensures j at))
