use Rattle.std.proofs.Common.{rules}
use Rattle.naga_module.specs.Misfits.{entry_point_points}
use Rattle.ir_misfits.proofs.Lists.{item_stops, item_passes}
use Rattle.naga_module.proofs.misfit.check_entry_points_fit.Goals as goal

pub returns-in_err-check_entry_point_fits : goal.returns-in_err-check_entry_point_fits
returns-in_err-check_entry_point_fits c =
    let told = item_stops (entry_point_points c.args.module.now) c.args.entries.now c.loop-place.place c.index-entries-place.result c.loop-place-test.true c.index-entries-place.is c.loop-place.invariant c.in_err-check_entry_point_fits.field-0.0 c.in_err-check_entry_point_fits.ensures in
    search (rules, told)

pub loop-place-preserved : goal.loop-place-preserved
loop-place-preserved c =
    item_passes (entry_point_points c.args.module.now) c.args.entries.now c.loop-place.place c.index-entries-place.result c.loop-place-test.true c.index-entries-place.is c.loop-place.invariant c.in_ok-check_entry_point_fits.ensures
