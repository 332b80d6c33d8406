use Rattle.std.proofs.Common.{◌≡◌, length}
use Rattle.json_nodes.specs.Nodes.{data_of, items_of}
use Rattle.json_values.specs.Form.{list_of}
use Rattle.json_values.proofs.Lists.{each_behind}
use Rattle.json_values.proofs.list.SequenceFromJson.from_json.Given as goal

abbrev pub invariant-loop-item : goal.invariant-loop-item
invariant-loop-item g l = each_behind g.T.FromJson.stands_for l.list (items_of l.items) ≡ list_of g.T.FromJson.stands_for (data_of l.held.value.now)

abbrev pub decreases-loop-item : goal.decreases-loop-item
decreases-loop-item g l = length l.items
