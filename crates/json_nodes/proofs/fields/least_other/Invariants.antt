use Rattle.std.proofs.Common.{length}
use Rattle.json_nodes.proofs.fields.least_other.Given as goal

abbrev pub decreases-loop-key : goal.decreases-loop-key
decreases-loop-key l = length l.rest
