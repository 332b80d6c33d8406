use Rattle.naga_runs.proofs.Judgements.{followed_agrees, earlier_agrees, earlier_is_all}
use Rattle.naga_runs.proofs.view_law.Goals as goal

pub returns : goal.returns
returns g c = record { follows = followed_agrees; earlier = earlier_agrees; all = earlier_is_all }
