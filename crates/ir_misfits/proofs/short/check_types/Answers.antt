use Rattle.std.proofs.Common.{rules}
use Rattle.ir_misfits.specs.ShortFacts.{type_points}
use Rattle.ir_misfits.proofs.Lists.{item_stops, item_passes}
use Rattle.ir_misfits.proofs.short.check_types.Goals as goal

pub returns-in_err-check_type : goal.returns-in_err-check_type
returns-in_err-check_type c =
    let told = item_stops (type_points c.args.below) c.args.types.now c.loop-place.place c.index-types-place.result c.loop-place-test.true c.index-types-place.is c.loop-place.invariant c.in_err-check_type.field-0.0 c.in_err-check_type.ensures in
    search (rules, told)

pub loop-place-preserved : goal.loop-place-preserved
loop-place-preserved c =
    item_passes (type_points c.args.below) c.args.types.now c.loop-place.place c.index-types-place.result c.loop-place-test.true c.index-types-place.is c.loop-place.invariant c.in_ok-check_type.ensures
