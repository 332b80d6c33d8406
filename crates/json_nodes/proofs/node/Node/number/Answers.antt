use Rattle.std.proofs.Common.{ap, ◌∙◌, option_and_then}
use Rattle.json.specs.Find as find
use Rattle.serde_json.specs.Find.{as_number}
use Rattle.serde_json.specs.Read.{number_of}
use Rattle.json_nodes.proofs.Values.{number_kept}
use Rattle.json_nodes.proofs.Views.{seen}
use Rattle.json_nodes.proofs.node.Node.number.Goals as goal

pub returns-in-Some : goal.returns-in-Some
returns-in-Some c =
    seen _ _ c.self.view_is c.self.invariant (λ j. option_and_then number_of (find.as_number j)) as_number number_kept _
    (λ j at. c.parse.ensures ∙ ap (option_and_then number_of) (c.in-Some.ensures j at))

pub returns-in-None : goal.returns-in-None
returns-in-None c =
    seen _ _ c.self.view_is c.self.invariant (λ j. option_and_then number_of (find.as_number j)) as_number number_kept _
    (λ j at. ap (option_and_then number_of) (c.in-None.ensures j at))
