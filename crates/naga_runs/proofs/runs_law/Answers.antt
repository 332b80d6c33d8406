use Rattle.naga_runs.proofs.Laws.{surely_fit_is_sure}
use Rattle.naga_runs.proofs.UnionsAre.{scope_is_union}
use Rattle.naga_runs.proofs.runs_law.Goals as goal

pub returns-clause-sure : goal.returns-clause-sure
returns-clause-sure c = surely_fit_is_sure

pub returns-clause-scope : goal.returns-clause-scope
returns-clause-scope c = scope_is_union
