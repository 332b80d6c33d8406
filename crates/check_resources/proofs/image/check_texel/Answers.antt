use Rattle.std.proofs.Common.{rules}
use Rattle.check_resources.specs.walk.ImageParts.{image_fault, coordinate_points}
use Rattle.check_resources.specs.Image.{array_index_points}
use Rattle.check_scope.specs.walk.Place.{place_at}
use Rattle.check_scope.specs.walk.SeenContext.{context_of}
use Rattle.check_scope.specs.walk.Table.{known}
use Rattle.ir_facts.proofs.Refusals.{fault_first, fault_second}
use Rattle.check_resources.proofs.image.check_texel.Goals as goal

pub returns-in_err-check_coordinate : goal.returns-in_err-check_coordinate
returns-in_err-check_coordinate c =
    let context = context_of c.args.context.now in
    let coordinates = coordinate_points c.args.statement context (place_at (known c.args.scope.now)) c.args.shape.dim c.args.texel.coordinate in
    let indices = array_index_points (image_fault c.args.statement) context (place_at (known c.args.scope.now)) c.args.shape.arrayed c.args.texel.array_index in
    fault_first c.from_residual.result coordinates indices (search rules) (search rules)

pub returns : goal.returns
returns c =
    let context = context_of c.args.context.now in
    let coordinates = coordinate_points c.args.statement context (place_at (known c.args.scope.now)) c.args.shape.dim c.args.texel.coordinate in
    let indices = array_index_points (image_fault c.args.statement) context (place_at (known c.args.scope.now)) c.args.shape.arrayed c.args.texel.array_index in
    fault_second _ coordinates indices (search rules) c.check_array_index.ensures
