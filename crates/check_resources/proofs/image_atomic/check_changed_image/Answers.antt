use Rattle.std.proofs.Common.{rules}
use Rattle.check_resources.specs.walk.ImageParts.{texel_points, changed_class_points}
use Rattle.check_scope.specs.walk.Place.{place_at}
use Rattle.check_scope.specs.walk.SeenContext.{context_of}
use Rattle.check_resources.specs.declared.image.ImageStatement.TheVariants.{Atomic}
use Rattle.check_scope.specs.walk.Table.{known}
use Rattle.ir_facts.proofs.Refusals.{fault_first, fault_second}
use Rattle.check_resources.proofs.image_atomic.check_changed_image.Goals as goal

pub returns-in_err-check_texel : goal.returns-in_err-check_texel
returns-in_err-check_texel c =
    let context = context_of c.args.context.now in
    let texels = texel_points Atomic context (place_at (known c.args.scope.now)) c.args.shape.dim c.args.shape.arrayed c.args.operation.texel.coordinate c.args.operation.texel.array_index in
    let classes = changed_class_points context (place_at (known c.args.scope.now)) c.args.class c.args.operation.fun c.args.operation.value in
    fault_first c.from_residual.result texels classes (search rules) (search rules)

pub returns : goal.returns
returns c =
    let context = context_of c.args.context.now in
    let texels = texel_points Atomic context (place_at (known c.args.scope.now)) c.args.shape.dim c.args.shape.arrayed c.args.operation.texel.coordinate c.args.operation.texel.array_index in
    let classes = changed_class_points context (place_at (known c.args.scope.now)) c.args.class c.args.operation.fun c.args.operation.value in
    fault_second _ texels classes (search rules) c.check_class.ensures
