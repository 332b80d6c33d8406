-- What the check lists ask of the visits before a place.
use Rattle.std.specs.Prelude.{ℕ, List, Option}
use Rattle.naga_runs.specs.Handles.{Handles}
use Rattle.naga_runs.specs.Visits.{Visit}
use Rattle.check_scope.specs.Context.{Context}
use Rattle.check_scope.specs.Results.{filled_before}
use Rattle.check_resources.specs.Traces.{payload_before}

-- the results that they fill, and the payload type so far
pub record Past : Type 0 where
  pub filled : Handles
  pub payload : Option ℕ

abbrev pub past_of : Context → List Visit → Past
past_of context earlier =
    record { filled = filled_before earlier; payload = payload_before context.trace context earlier }
