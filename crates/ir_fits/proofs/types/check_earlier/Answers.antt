use Rattle.std.proofs.Common.{rules}
use Rattle.ir_fits.specs.OfTypes.{earlier_points}
use Rattle.ir_misfits.proofs.Lists.{item_stops, item_passes}
use Rattle.ir_fits.proofs.types.check_earlier.Goals as goal

pub returns-in_err-check_inner : goal.returns-in_err-check_inner
returns-in_err-check_inner c =
    let told = item_stops (earlier_points) c.args.types.now c.loop-place.place c.index-types-place.result c.loop-place-test.true c.index-types-place.is c.loop-place.invariant c.in_err-check_inner.field-0.0 c.in_err-check_inner.ensures in
    search (rules, told)

pub loop-place-preserved : goal.loop-place-preserved
loop-place-preserved c =
    item_passes (earlier_points) c.args.types.now c.loop-place.place c.index-types-place.result c.loop-place-test.true c.index-types-place.is c.loop-place.invariant c.in_ok-check_inner.ensures
