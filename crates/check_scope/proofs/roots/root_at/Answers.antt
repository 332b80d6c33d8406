use Rattle.std.proofs.Common.{sym, ap, ◌∙◌}
use Rattle.check_scope.specs.Roots.{access_base_in}
use Rattle.check_scope.proofs.Walks.{base_is_earlier, root_of_base, root_of_itself}
use Rattle.check_scope.proofs.roots.root_at.Goals as goal

pub loop-base-smaller : goal.loop-base-smaller
loop-base-smaller c =
    base_is_earlier c.args.context.now.fun.now.expressions c.requires.fun.operands c.loop-base.handle c.in-Some.base (ap access_base_in (sym c.expression.ensures) ∙ sym c.access_base_in.ensures ∙ c.in-Some.is)

pub loop-base-preserved : goal.loop-base-preserved
loop-base-preserved c =
    root_of_base c.args.context.now.fun.now.expressions c.requires.fun.operands c.loop-base.handle c.in-Some.base (ap access_base_in (sym c.expression.ensures) ∙ sym c.access_base_in.ensures ∙ c.in-Some.is)
    ∙ c.loop-base.invariant

pub returns : goal.returns
returns c =
    sym (root_of_itself c.args.context.now.fun.now.expressions c.requires.fun.operands c.loop-base.handle (ap access_base_in (sym c.expression.ensures) ∙ sym c.access_base_in.ensures ∙ c.in_default.is))
    ∙ c.loop-base.invariant
