use Rattle.std.proofs.Common.{◌≡◌, drop}
use Rattle.ir_arena.specs.Points.{first_fault, points_from, points_of_each}
use Rattle.ir_fits.specs.OfTypes.{count_points}
use Rattle.ir_fits.proofs.types.check_counts.Given as goal

-- what is left decides
abbrev pub invariant-loop-place : goal.invariant-loop-place
invariant-loop-place l =
    first_fault (points_from (count_points) l.place (drop l.place l.types))
    ≡ first_fault (points_of_each (count_points) l.types)
