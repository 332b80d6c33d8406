use Rattle.std.proofs.Common.{rules}
use Rattle.naga_valid.proofs.validator.Validator.with_types.Goals as goal

-- what edits of the gate leave open

pub returns : goal.returns
returns g c = search rules
