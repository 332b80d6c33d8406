use Rattle.std.proofs.Common.{◌≡◌, drop}
use Rattle.ir_arena.specs.Points.{first_fault, points_from, points_of_each}
use Rattle.ir_misfits.specs.OfBodies.{call_argument_points}
use Rattle.ir_misfits.proofs.numbered.Numbered.check_call_arguments.Given as goal

-- what is left decides
abbrev pub invariant-loop-index : goal.invariant-loop-index
invariant-loop-index l =
    first_fault (points_from (call_argument_points l.self.expressions l.self.owner l.self.number) l.index (drop l.index l.arguments))
    ≡ first_fault (points_of_each (call_argument_points l.self.expressions l.self.owner l.self.number) l.arguments)
