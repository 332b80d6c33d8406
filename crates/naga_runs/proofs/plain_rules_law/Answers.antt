use Rattle.naga_runs.proofs.PlainRulesGuard.{plain_rules_guard}
use Rattle.naga_runs.proofs.plain_rules_law.Goals as goal

pub returns : goal.returns
returns c = plain_rules_guard
