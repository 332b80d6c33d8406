use Rattle.std.proofs.Common.{◌<◌}
use Rattle.ir_module.specs.Operands.{operands_of}
use Rattle.ir_facts.proofs.Each.{left_behind}
use Rattle.ir_misfits.proofs.expressions.has_earlier_operands.Goals as goal

pub loop-index-preserved : goal.loop-index-preserved
loop-index-preserved c =
    let here = left_behind (λ h. h < c.args.place) (operands_of c.args.expression.now) c.loop-index.index (c.is_earlier.ensures.0 c.if-not-is_earlier.false) in
    (λ all. here.0 (c.loop-index.invariant.0 all), λ rest. c.loop-index.invariant.1 (here.1 rest))
