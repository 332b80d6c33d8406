use Rattle.std.proofs.Common.{rules}
use Rattle.check_scope.specs.walk.Place.{place_at}
use Rattle.check_scope.specs.walk.SeenContext.{context_of}
use Rattle.check_scope.specs.walk.Table.{filled_in, known}
use Rattle.check_flow.proofs.Calls.{call_stops, call_next, call_stops_alone, call_next_alone}
use Rattle.check_flow.proofs.call.first_fault_of_call.Goals as goal

pub returns-in_err-check_arguments-clause-fault : goal.returns-in_err-check_arguments-clause-fault
returns-in_err-check_arguments-clause-fault c =
    call_stops (context_of c.args.context.now) (filled_in c.args.filled.now) (place_at (known c.args.scope.now)) c.args.site.now.function c.args.arguments.now c.args.site.now.named c.index-callee.result.now c.index-callee.ensures c.from_residual.result (search rules) (search rules)

pub returns-clause-fault : goal.returns-clause-fault
returns-clause-fault c =
    call_next (context_of c.args.context.now) (filled_in c.args.filled.now) (place_at (known c.args.scope.now)) c.args.site.now.function c.args.arguments.now c.args.site.now.named c.index-callee.result.now c.index-callee.ensures c.check_call_result.result (rw c.as_slice.ensures at c.in_ok-check_arguments.ensures.fault) (search rules)

pub returns-in_err-check_arguments-clause-refused : goal.returns-in_err-check_arguments-clause-refused
returns-in_err-check_arguments-clause-refused c =
    call_stops_alone (context_of c.args.context.now) (filled_in c.args.filled.now) (place_at (known c.args.scope.now)) c.args.site.now.function c.args.arguments.now c.args.site.now.named c.index-callee.result.now c.index-callee.ensures c.from_residual.result (search rules)

pub returns-clause-refused : goal.returns-clause-refused
returns-clause-refused c =
    call_next_alone (context_of c.args.context.now) (filled_in c.args.filled.now) (place_at (known c.args.scope.now)) c.args.site.now.function c.args.arguments.now c.args.site.now.named c.index-callee.result.now c.index-callee.ensures c.check_call_result.result (search rules)
