use Rattle.std.proofs.Common.{rules}
use Rattle.check_variables.proofs.global.check_in_space.Goals as goal

-- what edits of the gate leave open

pub returns-then-not-contains : goal.returns-then-not-contains
returns-then-not-contains c = search rules
