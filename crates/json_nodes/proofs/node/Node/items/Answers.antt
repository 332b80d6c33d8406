use Rattle.std.proofs.Common.{None, option_and_then, sym, ap}
use Rattle.json.specs.Find as find
use Rattle.serde_json.specs.Find.{as_array}
use Rattle.serde_json.specs.Read.{of_items}
use Rattle.json_nodes.proofs.Values.{array_kept}
use Rattle.json_nodes.proofs.Views.{seen, listed}
use Rattle.json_nodes.proofs.node.Node.items.Goals as goal

pub invariant_of-result : goal.invariant_of-result
invariant_of-result c = (listed _ _ c.self.view_is c.self.invariant _ c.in-Some.ensures).0

pub returns-in-Some : goal.returns-in-Some
returns-in-Some c = (listed _ _ c.self.view_is c.self.invariant _ c.in-Some.ensures).1

pub returns-in-None : goal.returns-in-None
returns-in-None c =
    seen _ _ c.self.view_is c.self.invariant (λ j. option_and_then of_items (find.as_array j)) as_array array_kept None
    (λ j at. ap (option_and_then of_items) (sym (c.in-None.ensures j at)))
