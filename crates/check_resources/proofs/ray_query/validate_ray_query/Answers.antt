use Rattle.std.proofs.Common.{rules, sym, ap, ◌∙◌}
use Rattle.ir_arena.specs.Points.{first_fault}
use Rattle.check_resources.specs.RayQuery.{ray_query_points}
use Rattle.check_scope.specs.walk.Place.{place_at}
use Rattle.check_scope.specs.walk.SeenContext.{context_of}
use Rattle.check_scope.specs.walk.Table.{known}
use Rattle.check_resources.proofs.RayQueries.{proceed_is_new}
use Rattle.check_resources.proofs.ray_query.validate_ray_query.Goals as goal

pub returns-in_err-answer-clause-fault : goal.returns-in_err-answer-clause-fault
returns-in_err-answer-clause-fault c =
    let points = ray_query_points (context_of c.args.context.now) (place_at (known c.args.scope.now)) c.args.query c.args.fun.now in
    let first = c.in_err-answer.ensures.fault points c.check_ray_query-checked.ensures in
    search (rules, first)

pub returns-in_err-answer-clause-refused : goal.returns-in_err-answer-clause-refused
returns-in_err-answer-clause-refused c =
    let points = ray_query_points (context_of c.args.context.now) (place_at (known c.args.scope.now)) c.args.query c.args.fun.now in
    let refused = c.in_err-answer.ensures.refused points c.check_ray_query-checked.ensures in
    search (rules, refused)

pub put-requires-clause-new : goal.put-requires-clause-new
put-requires-clause-new c =
    let context = context_of c.args.context.now in
    let s = place_at (known c.args.scope.now) in
    let points = ray_query_points context s c.args.query c.args.fun.now in
    let holds = c.in_ok-answer.ensures.fault points c.check_ray_query-checked.ensures in
    proceed_is_new context s c.args.query c.in-Proceed.result (ap (λ fun. first_fault (ray_query_points context s c.args.query fun)) (sym c.in-Proceed.is) ∙ holds)

pub returns-clause-fault : goal.returns-clause-fault
returns-clause-fault c =
    let points = ray_query_points (context_of c.args.context.now) (place_at (known c.args.scope.now)) c.args.query c.args.fun.now in
    c.in_ok-answer.ensures.fault points c.check_ray_query-checked.ensures
