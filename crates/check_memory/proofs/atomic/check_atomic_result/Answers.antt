use Rattle.std.proofs.Common.{rules}
use Rattle.check_memory.specs.walk.AtomicParts.{compared_points, exchanged_points}
use Rattle.check_scope.specs.walk.Place.{place_at}
use Rattle.check_scope.specs.walk.SeenContext.{context_of}
use Rattle.check_scope.specs.walk.Table.{known}
use Rattle.ir_facts.proofs.Refusals.{fault_first, fault_second}
use Rattle.check_memory.proofs.atomic.check_atomic_result.Goals as goal

pub returns-in_err-check_compared-in-Exchange-Some : goal.returns-in_err-check_compared-in-Exchange-Some
returns-in_err-check_compared-in-Exchange-Some c =
    let context = context_of c.args.context.now in
    let place = place_at (known c.args.scope.now) in
    let compared = compared_points context place c.in-Exchange-Some.compare c.args.operation.now.value in
    let exchanged = exchanged_points context place c.args.scalar c.in-Some.handle in
    let first = fault_first c.from_residual.result compared exchanged (search rules) (search rules) in
    search (rules, first)

pub returns-in_ok-check_compared-in-Exchange-Some : goal.returns-in_ok-check_compared-in-Exchange-Some
returns-in_ok-check_compared-in-Exchange-Some c =
    let context = context_of c.args.context.now in
    let place = place_at (known c.args.scope.now) in
    let compared = compared_points context place c.in-Exchange-Some.compare c.args.operation.now.value in
    let exchanged = exchanged_points context place c.args.scalar c.in-Some.handle in
    let second = fault_second _ compared exchanged (search rules) c.check_exchanged.ensures in
    search (rules, second)
