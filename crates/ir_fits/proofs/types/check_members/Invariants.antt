use Rattle.std.proofs.Common.{◌≡◌, drop}
use Rattle.ir_arena.specs.Points.{first_fault, points_from, points_of_each}
use Rattle.ir_fits.specs.OfTypes.{member_points}
use Rattle.ir_fits.proofs.types.check_members.Given as goal

-- what is left decides
abbrev pub invariant-loop-index : goal.invariant-loop-index
invariant-loop-index l =
    first_fault (points_from (member_points l.owner l.below) l.index (drop l.index l.members))
    ≡ first_fault (points_of_each (member_points l.owner l.below) l.members)
