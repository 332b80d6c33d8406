use Rattle.std.proofs.Common.{is_some}
use Rattle.json.specs.Find as find
use Rattle.serde_json.specs.Find.{as_null}
use Rattle.json_nodes.proofs.Values.{null_kept}
use Rattle.json_nodes.proofs.Views.{seen}
use Rattle.json_nodes.proofs.node.Node.is_null.Goals as goal

pub returns : goal.returns
returns c = seen _ _ c.self.view_is c.self.invariant find.is_null (λ d. is_some (as_null d)) null_kept _ c.is_null.ensures
