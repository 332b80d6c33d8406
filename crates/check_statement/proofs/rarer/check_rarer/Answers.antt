use Rattle.std.proofs.Common.{arith, ◌<◌, IfSome, subst, sym, ap, ◌∙◌}
use Rattle.ir_facts.specs.FitsBody.{QueryFits}
use Rattle.ir_statements.proofs.Rows.{tree_of-switch}
use Rattle.ir_statements.specs.View as view
use Rattle.ir_statements.specs.View.{no_operands}
use Rattle.check_scope.specs.BodyTrees.{emitted_operands}
use Rattle.check_scope.specs.walk.SeenContext.{context_of}
use Rattle.check_scope.specs.walk.Table.{known}
use Rattle.check_flow.specs.walk.Emitted.{place}
use Rattle.check_flow.proofs.Lists.{same_switch}
use Rattle.check_memory.proofs.Atomics.{atomic_puts}
use Rattle.check_statement.proofs.Parts.{in_leaf}
use Rattle.check_statement.proofs.rarer.check_rarer.Goals as goal

pub returns-in-Switch-clause-fault : goal.returns-in-Switch-clause-fault
returns-in-Switch-clause-fault c =
    let span = c.args.located.now.span in
    let operands = emitted_operands (context_of c.args.context.now).fun in
    let tree = ap (λ st. view.tree_of operands st span) c.in-Switch.is ∙ tree_of-switch operands c.in-Switch.selector c.in-Switch.cases span in
    let context = context_of c.args.context.now in
    let same = same_switch operands no_operands context (place c.args.abilities.now (known c.args.table.now.scope)) c.in-Switch.selector c.in-Switch.cases in
    rw (tree, same, ← c.as_slice.ensures) c.check_switch.ensures

pub validate_load-requires-clause-result : goal.validate_load-requires-clause-result
validate_load-requires-clause-result c =
    let fits = in_leaf (context_of c.args.context.now) _ _ _ (rw c.in-WorkGroupUniformLoad.is at c.requires.statement) in
    omega (arith, c.requires.table.scope, fits.1)

pub validate_atomic-requires-clause-result : goal.validate_atomic-requires-clause-result
validate_atomic-requires-clause-result c =
    let fits = in_leaf (context_of c.args.context.now) _ _ _ (rw c.in-Atomic.is at c.requires.statement) in
    subst (λ n. IfSome c.in-Atomic.result (λ r. r < n)) (sym c.requires.table.scope) fits.3

pub returns-in-Atomic-clause-scope : goal.returns-in-Atomic-clause-scope
returns-in-Atomic-clause-scope c =
    rw (c.in-Atomic.is, atomic_puts c.in-Atomic.fun c.in-Atomic.result) c.validate_atomic.ensures.scope

pub validate_ray_query-requires : goal.validate_ray_query-requires
validate_ray_query-requires c =
    let fits = in_leaf (context_of c.args.context.now) _ _ _ (rw c.in-RayQuery.is at c.requires.statement) in
    subst (λ n. QueryFits n c.in-RayQuery.fun) (sym c.requires.table.scope) fits.1

pub validate_ballot-requires : goal.validate_ballot-requires
validate_ballot-requires c =
    let fits = in_leaf (context_of c.args.context.now) _ _ _ (rw c.in-SubgroupBallot.is at c.requires.statement) in
    omega (arith, c.requires.table.scope, fits.0)

pub validate_gather-requires : goal.validate_gather-requires
validate_gather-requires c =
    let fits = in_leaf (context_of c.args.context.now) _ _ _ (rw c.in-SubgroupGather.is at c.requires.statement) in
    omega (arith, c.requires.table.scope, fits.2)

pub validate_collective-requires : goal.validate_collective-requires
validate_collective-requires c =
    let fits = in_leaf (context_of c.args.context.now) _ _ _ (rw c.in-SubgroupCollectiveOperation.is at c.requires.statement) in
    omega (arith, c.requires.table.scope, fits.1)
