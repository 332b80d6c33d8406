use Rattle.json.specs.Find as find
use Rattle.serde_json.specs.Find.{as_bool}
use Rattle.json_nodes.proofs.Values.{bool_kept}
use Rattle.json_nodes.proofs.Views.{seen}
use Rattle.json_nodes.proofs.node.Node.as_bool.Goals as goal

pub returns : goal.returns
returns c = seen _ _ c.self.view_is c.self.invariant find.as_bool as_bool bool_kept _ c.as_bool.ensures
