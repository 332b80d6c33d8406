use Rattle.std.proofs.Common.{◌≡◌, drop}
use Rattle.ir_arena.specs.Points.{first_fault, points_from, points_of_each}
use Rattle.ir_fits.specs.OfTypes.{override_points}
use Rattle.ir_fits.proofs.types.check_overrides.Given as goal

-- what is left decides
abbrev pub invariant-loop-place : goal.invariant-loop-place
invariant-loop-place l =
    first_fault (points_from (override_points l.types) l.place (drop l.place l.overrides))
    ≡ first_fault (points_of_each (override_points l.types) l.overrides)
