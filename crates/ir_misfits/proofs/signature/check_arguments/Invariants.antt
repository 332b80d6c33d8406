use Rattle.std.proofs.Common.{◌≡◌, drop}
use Rattle.ir_arena.specs.Points.{first_fault, points_from, points_of_each}
use Rattle.ir_misfits.specs.OfSignatures.{argument_points}
use Rattle.ir_misfits.proofs.signature.check_arguments.Given as goal

-- what is left decides
abbrev pub invariant-loop-place : goal.invariant-loop-place
invariant-loop-place l =
    first_fault (points_from (argument_points l.owner l.types) l.place (drop l.place l.arguments))
    ≡ first_fault (points_of_each (argument_points l.owner l.types) l.arguments)
