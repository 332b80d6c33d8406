use Rattle.std.proofs.Common.{rules}
use Rattle.naga_runs.proofs.Abilities.in_case.Goals as goal

-- what edits of the gate leave open

pub returns : goal.returns
returns c = search rules
