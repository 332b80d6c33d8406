use Rattle.std.proofs.Common.{◌≡◌, true, map}
use Rattle.json_nodes.specs.Nodes.{data_of}
use Rattle.json_nodes.proofs.Order.{HasThese}
use Rattle.json_nodes.proofs.Views.{these}
use Rattle.json_nodes.proofs.node.Node.has_in_order.Goals as goal

found : (c : goal.After-are_in_order) → c.are_in_order.result ≡ true → HasThese (map (λ n. n.now) c.args.names.now) (data_of c.args.self.now)
found c = these _ _ c.self.view_is c.self.invariant (map (λ n. n.now) c.args.names.now) _ c.are_in_order.result c.in-Some.ensures c.are_in_order.ensures

pub returns-in-Some : goal.returns-in-Some
returns-in-Some c = record {
  no_other = λ is. (found c is).0;
  each = λ is. (found c is).1;
}
