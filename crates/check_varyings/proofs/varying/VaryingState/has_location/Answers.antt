use Rattle.std.proofs.Common.{rules}
use Rattle.check_varyings.proofs.varying.VaryingState.has_location.Goals as goal

-- what edits of the gate leave open

pub contains-requires : goal.contains-requires
contains-requires c = search rules
