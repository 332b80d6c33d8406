use Rattle.std.proofs.Common.{◌≡◌, drop}
use Rattle.ir_arena.specs.Points.{first_fault, points_from, points_of_each}
use Rattle.ir_misfits.specs.ShortFacts.{type_points}
use Rattle.ir_misfits.proofs.short.check_types.Given as goal

-- what is left decides
abbrev pub invariant-loop-place : goal.invariant-loop-place
invariant-loop-place l =
    first_fault (points_from (type_points l.below) l.place (drop l.place l.types))
    ≡ first_fault (points_of_each (type_points l.below) l.types)
