use Rattle.std.proofs.Common.{rules}
use Rattle.ir_fits.proofs.globals.is_unbindable.Goals as goal

-- what edits of the gate leave open

pub returns-in-Some-RayQuery-2 : goal.returns-in-Some-RayQuery-2
returns-in-Some-RayQuery-2 c = search rules
