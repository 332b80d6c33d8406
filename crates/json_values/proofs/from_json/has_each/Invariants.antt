use Rattle.std.proofs.Common.{◌≡◌, drop}
use Rattle.json_nodes.specs.Nodes.{data_of}
use Rattle.json_nodes.specs.Fields.{has_each}
use Rattle.json_values.specs.Reads.{texts_of}
use Rattle.json_values.proofs.from_json.has_each.Given as goal

abbrev pub invariant-loop-name : goal.invariant-loop-name
invariant-loop-name l = has_each (texts_of (drop l.name-index l.names)) (data_of l.value) ≡ has_each (texts_of l.names) (data_of l.value)
