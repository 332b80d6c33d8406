use Rattle.std.proofs.Common.{◌≡◌, drop}
use Rattle.ir_arena.specs.Points.{first_fault, points_from, points_of_each}
use Rattle.naga_module.specs.Misfits.{info_points}
use Rattle.naga_module.proofs.misfit.check_each_info.Given as goal

-- what is left decides
abbrev pub invariant-loop-place : goal.invariant-loop-place
invariant-loop-place l =
    first_fault (points_from (info_points l.types) l.place (drop l.place l.infos))
    ≡ first_fault (points_of_each (info_points l.types) l.infos)
