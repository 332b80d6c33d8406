use Rattle.check_resources.specs.RayTrace.{trace_ray_points}
use Rattle.check_scope.specs.walk.Place.{place_at}
use Rattle.check_scope.specs.walk.SeenContext.{context_of}
use Rattle.check_scope.specs.walk.Table.{known}
use Rattle.check_resources.proofs.ray_trace.check_trace_ray.Goals as goal

pub returns-clause-refused : goal.returns-clause-refused
returns-clause-refused c =
    c.answer.ensures.refused (trace_ray_points (context_of c.args.context.now) c.args.so_far.now (place_at (known c.args.scope.now)) c.args.ray.structure c.args.ray.descriptor c.args.ray.payload) c.check_trace_ray_points-checked.ensures
