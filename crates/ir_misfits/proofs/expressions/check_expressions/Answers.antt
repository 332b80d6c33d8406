use Rattle.std.proofs.Common.{sym}
use Rattle.ir_misfits.proofs.ExactParts.{expressions_exact}
use Rattle.ir_misfits.proofs.expressions.check_expressions.Goals as goal

pub returns-then-name_earlier_expressions : goal.returns-then-name_earlier_expressions
returns-then-name_earlier_expressions c =
    sym ((expressions_exact c.args.owner c.args.expressions.now).passes (c.name_earlier_expressions.ensures.0 c.if-name_earlier_expressions.true))
