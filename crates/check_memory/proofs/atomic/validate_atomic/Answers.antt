use Rattle.std.proofs.Common.{rules}
use Rattle.check_memory.specs.Atomic.{atomic_points}
use Rattle.check_scope.specs.walk.Place.{place_at}
use Rattle.check_scope.specs.walk.SeenContext.{context_of}
use Rattle.check_scope.specs.walk.Table.{filled_in, known}
use Rattle.check_memory.proofs.Atomics.{atomic_named, atomic_is_new}
use Rattle.check_memory.proofs.atomic.validate_atomic.Goals as goal

pub returns-in_err-answer-clause-fault : goal.returns-in_err-answer-clause-fault
returns-in_err-answer-clause-fault c =
    let points = atomic_points (context_of c.args.context.now) (filled_in c.args.filled.now) (place_at (known c.args.scope.now)) c.args.operation.now.pointer c.args.operation.now.fun c.args.operation.now.value c.args.operation.now.named in
    let first = c.in_err-answer.ensures.fault points c.check_atomic-checked.ensures in
    search (rules, first)

pub returns-in_err-answer-clause-refused : goal.returns-in_err-answer-clause-refused
returns-in_err-answer-clause-refused c =
    let points = atomic_points (context_of c.args.context.now) (filled_in c.args.filled.now) (place_at (known c.args.scope.now)) c.args.operation.now.pointer c.args.operation.now.fun c.args.operation.now.value c.args.operation.now.named in
    let refused = c.in_err-answer.ensures.refused points c.check_atomic-checked.ensures in
    search (rules, refused)

pub put-requires-clause-new : goal.put-requires-clause-new
put-requires-clause-new c =
    let context = context_of c.args.context.now in
    let filled = filled_in c.args.filled.now in
    let s = place_at (known c.args.scope.now) in
    let points = atomic_points context filled s c.args.operation.now.pointer c.args.operation.now.fun c.args.operation.now.value c.args.operation.now.named in
    let holds = c.in_ok-answer.ensures.fault points c.check_atomic-checked.ensures in
    rw c.in-Some.is at (atomic_is_new context filled s c.args.operation.now.named (atomic_named context filled s c.args.operation.now.pointer c.args.operation.now.fun c.args.operation.now.value c.args.operation.now.named holds))

pub returns-clause-fault : goal.returns-clause-fault
returns-clause-fault c =
    let points = atomic_points (context_of c.args.context.now) (filled_in c.args.filled.now) (place_at (known c.args.scope.now)) c.args.operation.now.pointer c.args.operation.now.fun c.args.operation.now.value c.args.operation.now.named in
    c.in_ok-answer.ensures.fault points c.check_atomic-checked.ensures
