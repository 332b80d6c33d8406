use Rattle.std.proofs.Common.{◌≡◌, drop}
use Rattle.ir_arena.specs.Points.{first_fault, points_from, points_of_each}
use Rattle.ir_fits.specs.OfGlobals.{global_points}
use Rattle.ir_fits.proofs.globals.check_globals.Given as goal

-- what is left decides
abbrev pub invariant-loop-place : goal.invariant-loop-place
invariant-loop-place l =
    first_fault (points_from (global_points l.«module») l.place (drop l.place l.globals))
    ≡ first_fault (points_of_each (global_points l.«module») l.globals)
