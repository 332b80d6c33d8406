use Rattle.std.proofs.Common.{◌≡◌, drop}
use Rattle.ir_arena.specs.Points.{first_fault, points_from, points_of_each}
use Rattle.naga_module.specs.Misfits.{size_points}
use Rattle.naga_module.proofs.misfit.check_sizes.Given as goal

-- what is left decides
abbrev pub invariant-loop-place : goal.invariant-loop-place
invariant-loop-place g l =
    first_fault (points_from (size_points (g.B.Below.meaning l.below) l.«module») l.place (drop l.place l.globals))
    ≡ first_fault (points_of_each (size_points (g.B.Below.meaning l.below) l.«module») l.globals)
