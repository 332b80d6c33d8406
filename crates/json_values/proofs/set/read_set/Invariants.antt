use Rattle.std.proofs.Common.{◌≡◌, length}
use Rattle.json_nodes.specs.Nodes.{data_of, items_of}
use Rattle.json_values.specs.Sets.{bits_of, bits_with}
use Rattle.json_values.proofs.set.read_set.Given as goal

abbrev pub invariant-loop-item : goal.invariant-loop-item
invariant-loop-item g l = g.B.Flags.exact → bits_with g.B.Flags.table l.joined (g.B.Flags.set_of l.set) (items_of l.items) ≡ bits_of g.B.Flags.table l.joined (data_of l.value)

abbrev pub decreases-loop-item : goal.decreases-loop-item
decreases-loop-item g l = length l.items
