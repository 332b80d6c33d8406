use Rattle.std.proofs.Common.{rules}
use Rattle.naga_module.specs.Misfits.{info_points}
use Rattle.ir_misfits.proofs.Lists.{item_stops, item_passes}
use Rattle.naga_module.proofs.misfit.check_each_info.Goals as goal

pub returns-in_err-check_info : goal.returns-in_err-check_info
returns-in_err-check_info c =
    let told = item_stops (info_points c.args.types) c.args.infos.now c.loop-place.place c.index-infos-place.result c.loop-place-test.true c.index-infos-place.is c.loop-place.invariant c.in_err-check_info.field-0.0 c.in_err-check_info.ensures in
    search (rules, told)

pub loop-place-preserved : goal.loop-place-preserved
loop-place-preserved c =
    item_passes (info_points c.args.types) c.args.infos.now c.loop-place.place c.index-infos-place.result c.loop-place-test.true c.index-infos-place.is c.loop-place.invariant c.in_ok-check_info.ensures
