use Rattle.std.proofs.Common.{rules}
use Rattle.ir_fits.specs.OfGlobals.{resolution_points}
use Rattle.ir_misfits.proofs.Lists.{item_stops, item_passes}
use Rattle.ir_fits.proofs.globals.check_resolutions.Goals as goal

pub returns-in_err-check_resolution : goal.returns-in_err-check_resolution
returns-in_err-check_resolution c =
    let told = item_stops (resolution_points c.args.types) c.args.resolutions.now c.loop-place.place c.index-resolutions-place.result c.loop-place-test.true c.index-resolutions-place.is c.loop-place.invariant c.in_err-check_resolution.field-0.0 c.in_err-check_resolution.ensures in
    search (rules, told)

pub loop-place-preserved : goal.loop-place-preserved
loop-place-preserved c =
    item_passes (resolution_points c.args.types) c.args.resolutions.now c.loop-place.place c.index-resolutions-place.result c.loop-place-test.true c.index-resolutions-place.is c.loop-place.invariant c.in_ok-check_resolution.ensures
