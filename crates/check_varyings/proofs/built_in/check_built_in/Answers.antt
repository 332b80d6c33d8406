use Rattle.std.proofs.Common.{rules}
use Rattle.check_varyings.proofs.built_in.check_built_in.Goals as goal

-- what edits of the gate leave open

pub returns-then-has_built_in : goal.returns-then-has_built_in
returns-then-has_built_in c = search rules
