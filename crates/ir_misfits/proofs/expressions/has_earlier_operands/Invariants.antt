use Rattle.std.proofs.Common.{◌<◌, ◌↔◌, All, drop}
use Rattle.ir_module.specs.Operands.{operands_of}
use Rattle.ir_misfits.proofs.expressions.has_earlier_operands.Given as goal

-- what is left decides
abbrev pub invariant-loop-index : goal.invariant-loop-index
invariant-loop-index l =
    All (λ h. h < l.place) (operands_of l.expression) ↔ All (λ h. h < l.place) (drop l.index (operands_of l.expression))
