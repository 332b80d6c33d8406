use Rattle.std.proofs.Common.{◌≡◌, drop}
use Rattle.ir_arena.specs.Points.{first_fault, points_from, points_of_each}
use Rattle.ir_fits.specs.OfEntries.{space_points}
use Rattle.ir_fits.proofs.entry.check_spaces.Given as goal

-- what is left decides
abbrev pub invariant-loop-place : goal.invariant-loop-place
invariant-loop-place l =
    first_fault (points_from (space_points) l.place (drop l.place l.globals))
    ≡ first_fault (points_of_each (space_points) l.globals)
