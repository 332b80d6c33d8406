use Rattle.naga_runs.proofs.Exact.{must_is_live, must_is_exact, earlier_is_live, jumps_are_exact, dead_code_is_exact, trail_is_of_run}
use Rattle.naga_runs.proofs.ExactnessFacts.{dead_code_is_refused, put_is_refused, law_applies}
use Rattle.naga_runs.proofs.Witnessed.{uses_are_witnessed, jumps_are_witnessed}
use Rattle.naga_runs.proofs.exactness_law.Goals as goal

pub returns : goal.returns
returns c = record {
  trail = trail_is_of_run;
  live = must_is_live;
  must = must_is_exact;
  jumps = jumps_are_exact;
  uses = uses_are_witnessed;
  stuck = jumps_are_witnessed;
  earlier = earlier_is_live;
  dead_code = dead_code_is_exact;
  dead = dead_code_is_refused;
  puts = put_is_refused;
  applies = law_applies;
}
