use Rattle.std.proofs.Common.{rules}
use Rattle.check_variables.proofs.local.check_initializer.Goals as goal

-- what edits of the gate leave open

pub returns-then-not-is_const_or_override : goal.returns-then-not-is_const_or_override
returns-then-not-is_const_or_override c = search rules
