use Rattle.std.proofs.Common.{map, false, sym, ap}
use Rattle.std.specs.Option.{option_map_or}
use Rattle.json.specs.Find as find
use Rattle.json_nodes.specs.Fields.{has_no_other}
use Rattle.json_nodes.proofs.Values.{no_other_kept}
use Rattle.json_nodes.proofs.Members.{json_names_among}
use Rattle.json_nodes.proofs.Views.{seen, no_other}
use Rattle.json_nodes.proofs.node.Node.has_no_other.Goals as goal

pub returns-in-Some : goal.returns-in-Some
returns-in-Some c = no_other _ _ c.self.view_is c.self.invariant (map (λ n. n.now) c.args.names.now) _ _ c.in-Some.ensures c.are_among.ensures

pub returns-in-None : goal.returns-in-None
returns-in-None c =
    let names = map (λ n. n.now) c.args.names.now in
    seen _ _ c.self.view_is c.self.invariant (λ j. option_map_or (json_names_among names) (find.as_object j) false) (has_no_other names) (no_other_kept names) false
    (λ j at. ap (λ o. option_map_or (json_names_among names) o false) (sym (c.in-None.ensures j at)))
