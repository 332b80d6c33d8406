use Rattle.json.specs.Find as find
use Rattle.serde_json.specs.Find.{as_str}
use Rattle.json_nodes.proofs.Values.{str_kept}
use Rattle.json_nodes.proofs.Views.{seen}
use Rattle.json_nodes.proofs.node.Node.as_str.Goals as goal

pub returns : goal.returns
returns c = seen _ _ c.self.view_is c.self.invariant find.as_str as_str str_kept _ c.as_str.ensures
