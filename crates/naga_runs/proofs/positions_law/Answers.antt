use Rattle.naga_runs.proofs.LastSteps.{abilities_by_last_step}
use Rattle.naga_runs.proofs.SkippedIs.{skipped_is_union}
use Rattle.naga_runs.proofs.UnionsAre.{must_is_union}
use Rattle.naga_runs.proofs.VisitOrders.{positions_are_visits}
use Rattle.naga_runs.proofs.positions_law.Goals as goal

pub returns : goal.returns
returns c = record {
  visits = positions_are_visits;
  must = must_is_union;
  skipped = skipped_is_union;
  abilities = abilities_by_last_step;
}
