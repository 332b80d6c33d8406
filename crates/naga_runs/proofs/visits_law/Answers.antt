use Rattle.naga_runs.proofs.Reading.{blocks_are_read}
use Rattle.naga_runs.proofs.VisitsByTree.{visits_are}
use Rattle.naga_runs.proofs.visits_law.Goals as goal

pub returns : goal.returns
returns c = record { by_tree = visits_are; read = blocks_are_read }
