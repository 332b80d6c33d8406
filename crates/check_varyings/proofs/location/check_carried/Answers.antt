use Rattle.std.proofs.Common.{rules}
use Rattle.check_varyings.specs.Locations.{interpolation_points, sharing_points}
use Rattle.check_varyings.specs.Varyings.{seen_in}
use Rattle.check_varyings.proofs.Behind.{fault_first, fault_second}
use Rattle.check_varyings.proofs.location.check_carried.Goals as goal

pub returns-in_err-check_sharing : goal.returns-in_err-check_sharing
returns-in_err-check_sharing c =
    let context = c.args.context.now in
    let sharing = sharing_points context.place.now context.infos.now (seen_in c.args.state.now) c.args.ty c.args.at.location c.args.at.blend_src c.args.at.per_primitive in
    let interpolation = interpolation_points context.place.now context.types.now c.args.ty c.args.at.interpolation c.args.at.sampling c.args.at.per_primitive in
    fault_first c.from_residual.result sharing interpolation (search rules) (search rules)

pub returns : goal.returns
returns c =
    let context = c.args.context.now in
    let sharing = sharing_points context.place.now context.infos.now (seen_in c.args.state.now) c.args.ty c.args.at.location c.args.at.blend_src c.args.at.per_primitive in
    let interpolation = interpolation_points context.place.now context.types.now c.args.ty c.args.at.interpolation c.args.at.sampling c.args.at.per_primitive in
    fault_second _ sharing interpolation (search rules) c.check_interpolation.ensures
