use Rattle.std.proofs.Common.{rules}
use Rattle.check_variables.proofs.bindings.take_binding.Goals as goal

-- what edits of the gate leave open

pub returns-else-is_used : goal.returns-else-is_used
returns-else-is_used c = search rules
