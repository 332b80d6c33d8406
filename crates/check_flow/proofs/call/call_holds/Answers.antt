use Rattle.std.proofs.Common.{rules}
use Rattle.check_scope.specs.walk.Place.{place_at}
use Rattle.check_scope.specs.walk.SeenContext.{context_of}
use Rattle.check_scope.specs.walk.Table.{filled_in, known}
use Rattle.check_flow.proofs.Calls.{call_passes, call_fails}
use Rattle.check_flow.proofs.call.call_holds.Goals as goal

pub returns : goal.returns
returns c =
    call_passes (context_of c.args.context.now) (filled_in c.args.filled.now) (place_at (known c.args.scope.now)) c.args.site.now.function c.args.arguments.now c.args.site.now.named c.index-callee.result.now c.index-callee.ensures c.arguments_hold.result c.call_result_holds.result (rw c.as_slice.ensures at c.arguments_hold.ensures) (rw c.is_some.ensures at c.call_result_holds.ensures) (search rules)

pub returns-then-not-arguments_hold : goal.returns-then-not-arguments_hold
returns-then-not-arguments_hold c =
    call_fails (context_of c.args.context.now) (filled_in c.args.filled.now) (place_at (known c.args.scope.now)) c.args.site.now.function c.args.arguments.now c.args.site.now.named c.index-callee.result.now c.index-callee.ensures c.arguments_hold.result (rw c.as_slice.ensures at c.arguments_hold.ensures) (search rules)
