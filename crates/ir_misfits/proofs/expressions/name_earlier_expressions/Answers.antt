use Rattle.std.proofs.Common.{◌<◌, All}
use Rattle.ir_module.specs.Operands.{operands_of}
use Rattle.ir_facts.proofs.Each.{each_from}
use Rattle.ir_misfits.proofs.expressions.name_earlier_expressions.Goals as goal

pub loop-place-init : goal.loop-place-init
loop-place-init c = each_from (λ k x. All (λ h. h < k) (operands_of x)) c.args.expressions.now
