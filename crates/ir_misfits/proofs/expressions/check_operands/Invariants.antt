use Rattle.std.proofs.Common.{◌≡◌, drop}
use Rattle.ir_arena.specs.Points.{first_fault, points_from, points_of_each}
use Rattle.ir_module.specs.Operands.{operands_of}
use Rattle.ir_misfits.specs.OfExpressions.{operand_points}
use Rattle.ir_misfits.proofs.expressions.check_operands.Given as goal

-- what is left decides
abbrev pub invariant-loop-index : goal.invariant-loop-index
invariant-loop-index l =
    first_fault (points_from (operand_points l.owner l.place) l.index (drop l.index (operands_of l.expression)))
    ≡ first_fault (points_of_each (operand_points l.owner l.place) (operands_of l.expression))
