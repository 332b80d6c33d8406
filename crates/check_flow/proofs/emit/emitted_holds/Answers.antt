use Rattle.std.proofs.Common.{rules}
use Rattle.std.specs.Option.{option_copied}
use Rattle.check_scope.specs.walk.Place.{place_at}
use Rattle.check_scope.specs.walk.SeenContext.{context_of}
use Rattle.check_scope.specs.walk.Table.{known}
use Rattle.check_flow.proofs.Emits.{emitted_passes, emitted_fails}
use Rattle.check_flow.proofs.emit.emitted_holds.Goals as goal

pub returns-clause-holds : goal.returns-clause-holds
returns-clause-holds c =
    let o = option_copied c.expression-expression.result in
    rw c.contains.ensures (emitted_passes (context_of c.args.context.now) (place_at (known c.args.scope.now)) c.args.handle o c.expression-expression.ensures c.operands_hold.result c.operands_hold.ensures.holds (search rules))

pub returns-then-not-operands_hold-clause-holds :
    goal.returns-then-not-operands_hold-clause-holds
returns-then-not-operands_hold-clause-holds c =
    let o = option_copied c.expression-expression.result in
    emitted_fails (context_of c.args.context.now) (place_at (known c.args.scope.now)) c.args.handle o c.expression-expression.ensures c.operands_hold.result c.operands_hold.ensures.holds (search rules)
