use Rattle.check_resources.specs.ImageAtomic.{image_atomic_points}
use Rattle.check_scope.specs.walk.Place.{place_at}
use Rattle.check_scope.specs.walk.SeenContext.{context_of}
use Rattle.check_scope.specs.walk.Table.{known}
use Rattle.check_resources.proofs.image_atomic.check_image_atomic.Goals as goal

pub returns-clause-fault : goal.returns-clause-fault
returns-clause-fault c =
    c.answer.ensures.fault (image_atomic_points (context_of c.args.context.now) (place_at (known c.args.scope.now)) c.args.image c.args.operation.texel.coordinate c.args.operation.texel.array_index c.args.operation.fun c.args.operation.value) c.check_image_atomic_points-checked.ensures

pub returns-clause-refused : goal.returns-clause-refused
returns-clause-refused c =
    c.answer.ensures.refused (image_atomic_points (context_of c.args.context.now) (place_at (known c.args.scope.now)) c.args.image c.args.operation.texel.coordinate c.args.operation.texel.array_index c.args.operation.fun c.args.operation.value) c.check_image_atomic_points-checked.ensures
