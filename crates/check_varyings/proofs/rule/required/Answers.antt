use Rattle.std.proofs.Common.{rules}
use Rattle.check_varyings.proofs.rule.required.Goals as goal

-- what edits of the gate leave open

pub returns-in-AnyHit : goal.returns-in-AnyHit
returns-in-AnyHit c = search rules
