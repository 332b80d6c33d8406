use Rattle.std.proofs.Common.{rules, not, ◌||◌, ◌++◌}
use Rattle.ir_flags.specs.Capabilities.{MESH_SHADER, has_capability}
use Rattle.ir_errors.specs.declared.interface.VaryingError.TheVariants.{UnsupportedCapability}
use Rattle.check_varyings.specs.Locations.{carried_type, interpolation_points, per_vertex_points, sharing_points}
use Rattle.check_varyings.specs.Varyings.{seen_in}
use Rattle.check_varyings.proofs.Behind.{fault_behind, fault_first}
use Rattle.check_varyings.proofs.location.check_location.Goals as goal

pub returns-in_err-check_per_vertex : goal.returns-in_err-check_per_vertex
returns-in_err-check_per_vertex c =
    let context = c.args.context.now in
    let ty = carried_type context.types.now c.args.ty c.args.at.interpolation in
    let per_vertex = per_vertex_points context.place.now context.types.now c.args.ty c.args.at.interpolation c.args.at.sampling in
    let carried = sharing_points context.place.now context.infos.now (seen_in c.args.state.now) ty c.args.at.location c.args.at.blend_src c.args.at.per_primitive
    ++ interpolation_points context.place.now context.types.now ty c.args.at.interpolation c.args.at.sampling c.args.at.per_primitive in
    let mesh = not c.args.at.per_primitive || has_capability context.place.now.capabilities MESH_SHADER in
    fault_behind _ mesh (UnsupportedCapability MESH_SHADER) (per_vertex ++ carried) (search rules) (fault_first c.from_residual.result per_vertex carried (search rules) (search rules))
