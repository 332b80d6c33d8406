use Rattle.std.proofs.Common.{◌≡◌, ◌+◌, ◌-◌}
use Rattle.check_flow.specs.walk.ValueSet.{found_from}
use Rattle.check_flow.proofs.value_set.ValueSet.find.Given as goal

-- what is left decides
abbrev pub invariant-loop-step : goal.invariant-loop-step
invariant-loop-step l =
    found_from l.self.places.items l.value (l.start + l.step) (8 - l.step) ≡ found_from l.self.places.items l.value l.start 8
