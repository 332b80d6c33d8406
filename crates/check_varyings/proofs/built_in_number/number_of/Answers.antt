use Rattle.std.proofs.Common.{rules}
use Rattle.check_varyings.proofs.built_in_number.number_of.Goals as goal

-- what edits of the gate leave open

pub returns-in-PointSize-clause-number : goal.returns-in-PointSize-clause-number
returns-in-PointSize-clause-number c = search rules
