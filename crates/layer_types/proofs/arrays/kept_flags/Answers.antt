use Rattle.std.proofs.Common.{rules}
use Rattle.layer_types.proofs.arrays.kept_flags.Goals as goal

-- what edits of the gate leave open

pub returns-in-Dynamic : goal.returns-in-Dynamic
returns-in-Dynamic c = search rules
