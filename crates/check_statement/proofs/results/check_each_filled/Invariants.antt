use Rattle.std.proofs.Common.{◌≡◌, ◌-◌, length}
use Rattle.ir_arena.specs.Points.{first_fault}
use Rattle.check_scope.specs.Results.{filled_points_from}
use Rattle.check_scope.specs.walk.SeenContext.{context_of}
use Rattle.check_scope.specs.walk.Table.{filled_in}
use Rattle.check_statement.proofs.results.check_each_filled.Given as goal

-- what is left decides
abbrev pub invariant-loop-index : goal.invariant-loop-index
invariant-loop-index l =
    first_fault (filled_points_from (context_of l.context) (filled_in l.filled) l.index (length (context_of l.context).fun.expressions - l.index)) ≡ first_fault (filled_points_from (context_of l.context) (filled_in l.filled) 0 (length (context_of l.context).fun.expressions))
