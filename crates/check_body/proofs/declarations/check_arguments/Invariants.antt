use Rattle.std.proofs.Common.{◌≡◌, drop}
use Rattle.ir_arena.specs.Points.{first_fault, points_from}
use Rattle.check_statement.specs.Declarations.{argument_points}
use Rattle.check_scope.specs.walk.SeenContext.{context_of}
use Rattle.check_body.proofs.declarations.check_arguments.Given as goal

-- what is left decides
abbrev pub invariant-loop-index : goal.invariant-loop-index
invariant-loop-index l =
    first_fault (points_from (argument_points (context_of l.context.block.now) l.context.infos.now l.context.entry_point) l.index (drop l.index l.arguments)) ≡ first_fault (points_from (argument_points (context_of l.context.block.now) l.context.infos.now l.context.entry_point) 0 l.arguments)
