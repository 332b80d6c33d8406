use Rattle.std.proofs.Common.{◌≡◌, drop}
use Rattle.ir_arena.specs.Points.{first_fault, points_from, points_of_each}
use Rattle.ir_misfits.specs.OfExpressions.{operands_points}
use Rattle.ir_misfits.proofs.expressions.first_misfit_of_expressions.Given as goal

-- what is left decides
abbrev pub invariant-loop-place : goal.invariant-loop-place
invariant-loop-place l =
    first_fault (points_from (operands_points l.owner) l.place (drop l.place l.expressions))
    ≡ first_fault (points_of_each (operands_points l.owner) l.expressions)
