use Rattle.std.proofs.Common.{rules}
use Rattle.naga_module.specs.Misfits.{module_function_points}
use Rattle.ir_misfits.proofs.Lists.{item_stops, item_passes}
use Rattle.naga_module.proofs.misfit.check_functions_fit.Goals as goal

pub returns-in_err-check_function_fits : goal.returns-in_err-check_function_fits
returns-in_err-check_function_fits c =
    let told = item_stops (module_function_points c.args.module.now) c.args.functions.now c.loop-place.place c.index-functions-place.result c.loop-place-test.true c.index-functions-place.is c.loop-place.invariant c.in_err-check_function_fits.field-0.0 c.in_err-check_function_fits.ensures in
    search (rules, told)

pub loop-place-preserved : goal.loop-place-preserved
loop-place-preserved c =
    item_passes (module_function_points c.args.module.now) c.args.functions.now c.loop-place.place c.index-functions-place.result c.loop-place-test.true c.index-functions-place.is c.loop-place.invariant c.in_ok-check_function_fits.ensures
