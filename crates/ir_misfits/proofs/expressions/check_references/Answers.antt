use Rattle.std.proofs.Common.{rules}
use Rattle.ir_misfits.specs.OfExpressions.{reference_points}
use Rattle.ir_misfits.proofs.Lists.{item_stops, item_passes}
use Rattle.ir_misfits.proofs.expressions.check_references.Goals as goal

pub returns-in_err-check : goal.returns-in_err-check
returns-in_err-check c =
    let told = item_stops (reference_points c.args.module.now c.args.fun.now c.args.owner) c.args.expressions.now c.loop-place.place c.index-expressions-place.result c.loop-place-test.true c.index-expressions-place.is c.loop-place.invariant c.in_err-check.field-0.0 c.in_err-check.ensures in
    search (rules, told)

pub loop-place-preserved : goal.loop-place-preserved
loop-place-preserved c =
    item_passes (reference_points c.args.module.now c.args.fun.now c.args.owner) c.args.expressions.now c.loop-place.place c.index-expressions-place.result c.loop-place-test.true c.index-expressions-place.is c.loop-place.invariant c.in_ok-check.ensures
