use Rattle.std.proofs.Common.{rules}
use Rattle.ir_fits.proofs.entry.is_of_module.Goals as goal

-- what edits of the gate leave open

pub returns-in-Function : goal.returns-in-Function
returns-in-Function c = search rules
