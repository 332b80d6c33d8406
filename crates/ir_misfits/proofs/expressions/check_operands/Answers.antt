use Rattle.std.proofs.Common.{rules}
use Rattle.ir_module.specs.Operands.{operands_of}
use Rattle.ir_misfits.specs.OfExpressions.{operand_points}
use Rattle.ir_misfits.proofs.Lists.{stops_at, passes_at}
use Rattle.ir_misfits.proofs.expressions.check_operands.Goals as goal

pub returns-in_err-check_operand : goal.returns-in_err-check_operand
returns-in_err-check_operand c =
    let lt = rw c.operand_count-index-end.ensures at c.loop-index-test.true in
    let told = stops_at (operand_points c.args.owner c.args.place) (operands_of c.args.expression.now) c.loop-index.index lt c.loop-index.invariant c.in_err-check_operand.field-0.0 c.in_err-check_operand.ensures in
    search (rules, told)

pub loop-index-preserved : goal.loop-index-preserved
loop-index-preserved c =
    let lt = rw c.operand_count-index-end.ensures at c.loop-index-test.true in
    passes_at (operand_points c.args.owner c.args.place) (operands_of c.args.expression.now) c.loop-index.index lt c.loop-index.invariant c.in_ok-check_operand.ensures
