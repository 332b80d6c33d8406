use Rattle.std.proofs.Common.{◌≡◌, drop}
use Rattle.ir_arena.specs.Points.{first_fault, points_from, points_of_each}
use Rattle.ir_fits.specs.OfGlobals.{resolution_points}
use Rattle.ir_fits.proofs.globals.check_resolutions.Given as goal

-- what is left decides
abbrev pub invariant-loop-place : goal.invariant-loop-place
invariant-loop-place l =
    first_fault (points_from (resolution_points l.types) l.place (drop l.place l.resolutions))
    ≡ first_fault (points_of_each (resolution_points l.types) l.resolutions)
