use Rattle.std.proofs.Common.{rules}
use Rattle.std.specs.Prelude.{is_some}
use Rattle.check_memory.specs.Atomic.{scalar_points, atomic_result_points}
use Rattle.check_scope.specs.walk.Place.{place_at}
use Rattle.check_scope.specs.walk.SeenContext.{context_of}
use Rattle.check_scope.specs.walk.Table.{filled_in, known}
use Rattle.ir_facts.proofs.Refusals.{fault_first, fault_second}
use Rattle.check_memory.proofs.atomic.check_operation.Goals as goal

pub returns-in_err-check_scalar : goal.returns-in_err-check_scalar
returns-in_err-check_scalar c =
    let context = context_of c.args.context.now in
    let scalars = scalar_points context.settings.capabilities c.args.atomic.scalar c.args.atomic.space c.args.operation.now.fun (is_some c.args.operation.now.named) in
    let results = atomic_result_points context (filled_in c.args.filled.now) (place_at (known c.args.scope.now)) c.args.atomic.scalar c.args.operation.now.fun c.args.operation.now.value c.args.operation.now.named in
    fault_first c.from_residual.result scalars results (search rules) (search rules)

pub returns : goal.returns
returns c =
    let context = context_of c.args.context.now in
    let scalars = scalar_points context.settings.capabilities c.args.atomic.scalar c.args.atomic.space c.args.operation.now.fun (is_some c.args.operation.now.named) in
    let results = atomic_result_points context (filled_in c.args.filled.now) (place_at (known c.args.scope.now)) c.args.atomic.scalar c.args.operation.now.fun c.args.operation.now.value c.args.operation.now.named in
    fault_second _ scalars results (search rules) c.check_atomic_result.ensures
