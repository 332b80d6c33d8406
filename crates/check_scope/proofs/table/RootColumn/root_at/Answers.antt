use Rattle.std.proofs.Common.{sym, ap, ◌∙◌}
use Rattle.check_scope.specs.Roots.{access_base_in}
use Rattle.check_scope.proofs.Walks.{root_of_base, root_of_itself}
use Rattle.check_scope.proofs.table.RootColumn.root_at.Goals as goal

pub loop-step-preserved : goal.loop-step-preserved
loop-step-preserved c =
    root_of_base c.args.context.now.fun.now.expressions c.requires.context.fun.operands c.loop-step.handle c.in-Some.base (ap access_base_in (sym c.expression.ensures) ∙ sym c.access_base_in.ensures ∙ c.in-Some.is)
    ∙ c.loop-step.invariant

pub returns-in-None-clause-root : goal.returns-in-None-clause-root
returns-in-None-clause-root c =
    sym (root_of_itself c.args.context.now.fun.now.expressions c.requires.context.fun.operands c.loop-step.handle (ap access_base_in (sym c.expression.ensures) ∙ sym c.access_base_in.ensures ∙ c.in-None.is))
    ∙ c.loop-step.invariant
