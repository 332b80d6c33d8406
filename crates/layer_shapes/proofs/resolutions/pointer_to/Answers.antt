use Rattle.std.proofs.Common.{rules}
use Rattle.layer_shapes.proofs.resolutions.pointer_to.Goals as goal

-- what edits of the gate leave open

pub returns-then-index-count : goal.returns-then-index-count
returns-then-index-count c = search rules
