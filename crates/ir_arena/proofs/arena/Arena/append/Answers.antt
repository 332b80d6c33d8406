use Rattle.std.proofs.Common.{rules}
use Rattle.ir_arena.proofs.arena.Arena.append.Goals as goal

-- what edits of the gate leave open

pub returns-clause-appended : goal.returns-clause-appended
returns-clause-appended g c = search rules
