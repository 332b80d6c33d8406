use Rattle.std.proofs.Common.{rules}
use Rattle.ir_types.proofs.types.TypeInner.pointer_space.Goals as goal

-- what edits of the gate leave open

pub returns-in_default : goal.returns-in_default
returns-in_default c = search rules
