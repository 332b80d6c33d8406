use Rattle.check_scope.specs.walk.Place.{place_at}
use Rattle.check_scope.specs.walk.SeenContext.{context_of}
use Rattle.check_scope.specs.walk.Table.{filled_in, known}
use Rattle.check_flow.proofs.Calls.{callee_holds, result_is_new}
use Rattle.check_flow.proofs.call.validate_call.Goals as goal

pub put-requires-clause-new : goal.put-requires-clause-new
put-requires-clause-new c =
    let context = context_of c.args.context.now in
    let filled = filled_in c.args.filled.now in
    let s = place_at (known c.args.scope.now) in
    let f = c.args.site.now.function in
    let holds = callee_holds context filled s f c.args.arguments.now c.args.site.now.named c.in_ok-check_call.ensures.fault in
    rw c.in-Some.is at (result_is_new context filled s f c.args.arguments.now c.args.site.now.named holds)
