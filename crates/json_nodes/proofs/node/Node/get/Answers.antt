use Rattle.std.proofs.Common.{None, option_and_then, sym, ap}
use Rattle.json.specs.Find as find
use Rattle.serde_json.specs.Find.{get}
use Rattle.serde_json.specs.Read.{of_json}
use Rattle.json_nodes.proofs.Values.{field_kept}
use Rattle.json_nodes.proofs.Views.{seen, got}
use Rattle.json_nodes.proofs.node.Node.get.Goals as goal

pub invariant_of-result : goal.invariant_of-result
invariant_of-result c = (got _ _ c.self.view_is c.self.invariant c.args.name.now _ c.in-Some.ensures).0

pub returns-in-Some : goal.returns-in-Some
returns-in-Some c = (got _ _ c.self.view_is c.self.invariant c.args.name.now _ c.in-Some.ensures).1

pub returns-in-None : goal.returns-in-None
returns-in-None c =
    let name = c.args.name.now in
    seen _ _ c.self.view_is c.self.invariant (λ j. option_and_then of_json (find.get name j)) (get name) (field_kept name) None
    (λ j at. ap (option_and_then of_json) (sym (c.in-None.ensures j at)))
