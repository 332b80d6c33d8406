use Rattle.std.proofs.Common.{rules}
use Rattle.ir_fits.specs.OfGlobals.{global_points}
use Rattle.ir_misfits.proofs.Lists.{item_stops, item_passes}
use Rattle.ir_fits.proofs.globals.check_globals.Goals as goal

pub returns-in_err-check_global_fits : goal.returns-in_err-check_global_fits
returns-in_err-check_global_fits c =
    let told = item_stops (global_points c.args.module.now) c.args.globals.now c.loop-place.place c.index-globals-place.result c.loop-place-test.true c.index-globals-place.is c.loop-place.invariant c.in_err-check_global_fits.field-0.0 c.in_err-check_global_fits.ensures in
    search (rules, told)

pub loop-place-preserved : goal.loop-place-preserved
loop-place-preserved c =
    item_passes (global_points c.args.module.now) c.args.globals.now c.loop-place.place c.index-globals-place.result c.loop-place-test.true c.index-globals-place.is c.loop-place.invariant c.in_ok-check_global_fits.ensures
