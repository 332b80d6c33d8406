use Rattle.std.proofs.Common.{◌≡◌, drop}
use Rattle.ir_arena.specs.Points.{first_fault, points_from, points_of_each}
use Rattle.naga_module.specs.Misfits.{entry_point_points}
use Rattle.naga_module.proofs.misfit.check_entry_points_fit.Given as goal

-- what is left decides
abbrev pub invariant-loop-place : goal.invariant-loop-place
invariant-loop-place l =
    first_fault (points_from (entry_point_points l.«module») l.place (drop l.place l.entries))
    ≡ first_fault (points_of_each (entry_point_points l.«module») l.entries)
