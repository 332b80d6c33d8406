use Rattle.std.proofs.Common.{◌≡◌, drop}
use Rattle.ir_arena.specs.Points.{first_fault, points_from, points_of_each}
use Rattle.ir_fits.specs.OfFunctions.{local_points}
use Rattle.ir_fits.proofs.function.check_locals.Given as goal

-- what is left decides
abbrev pub invariant-loop-place : goal.invariant-loop-place
invariant-loop-place l =
    first_fault (points_from (local_points l.«module» l.fun l.owner) l.place (drop l.place l.locals))
    ≡ first_fault (points_of_each (local_points l.«module» l.fun l.owner) l.locals)
