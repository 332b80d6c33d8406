use Rattle.std.proofs.Common.{rules}
use Rattle.check_statement.specs.Declarations.{argument_points}
use Rattle.check_scope.specs.walk.SeenContext.{context_of}
use Rattle.check_body.proofs.Each.{each_stops, each_passes}
use Rattle.check_body.proofs.declarations.check_arguments.Goals as goal

pub returns-in_err-check_argument : goal.returns-in_err-check_argument
returns-in_err-check_argument c =
    rw (← c.as_slice-arguments.ensures) (each_stops (argument_points (context_of c.args.context.now.block.now) c.args.context.now.infos.now c.args.context.now.entry_point) c.as_slice-arguments.result.now c.loop-index.index c.from_residual.result c.index-arguments-index.result c.loop-index-test.true (search rules) c.loop-index.invariant (search rules) (search rules))

pub loop-index-preserved : goal.loop-index-preserved
loop-index-preserved c =
    each_passes (argument_points (context_of c.args.context.now.block.now) c.args.context.now.infos.now c.args.context.now.entry_point) c.as_slice-arguments.result.now c.loop-index.index c.index-arguments-index.result c.loop-index-test.true (search rules) c.loop-index.invariant c.in_ok-check_argument.ensures
