use Rattle.std.proofs.Common.{rules}
use Rattle.ir_misfits.specs.OfExpressions.{operands_points}
use Rattle.ir_misfits.proofs.Lists.{item_stops, item_passes}
use Rattle.ir_misfits.proofs.expressions.first_misfit_of_expressions.Goals as goal

pub returns-in_err-check_operands : goal.returns-in_err-check_operands
returns-in_err-check_operands c =
    let told = item_stops (operands_points c.args.owner) c.args.expressions.now c.loop-place.place c.index-expressions-place.result c.loop-place-test.true c.index-expressions-place.is c.loop-place.invariant c.in_err-check_operands.field-0.0 c.in_err-check_operands.ensures in
    search (rules, told)

pub loop-place-preserved : goal.loop-place-preserved
loop-place-preserved c =
    item_passes (operands_points c.args.owner) c.args.expressions.now c.loop-place.place c.index-expressions-place.result c.loop-place-test.true c.index-expressions-place.is c.loop-place.invariant c.in_ok-check_operands.ensures
