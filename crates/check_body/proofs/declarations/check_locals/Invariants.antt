use Rattle.std.proofs.Common.{◌≡◌, drop}
use Rattle.ir_arena.specs.Points.{first_fault, points_from}
use Rattle.check_statement.specs.Declarations.{variable_points}
use Rattle.check_scope.specs.walk.SeenContext.{context_of}
use Rattle.check_body.proofs.declarations.check_locals.Given as goal

-- what is left decides
abbrev pub invariant-loop-index : goal.invariant-loop-index
invariant-loop-index l =
    first_fault (points_from (variable_points (context_of l.context.block.now) l.context.infos.now) l.index (drop l.index (context_of l.context.block.now).fun.local_variables)) ≡ first_fault (points_from (variable_points (context_of l.context.block.now) l.context.infos.now) 0 (context_of l.context.block.now).fun.local_variables)
