use Rattle.std.proofs.Common.{◌↔◌, ◌<◌, All, drop}
use Rattle.ir_module.specs.Operands.{operands_of}
use Rattle.ir_facts.specs.Fits.{NameEarlierExpressions}
use Rattle.ir_facts.proofs.Each.{EachFrom}
use Rattle.ir_misfits.proofs.expressions.name_earlier_expressions.Given as goal

-- what is left decides
abbrev pub invariant-loop-place : goal.invariant-loop-place
invariant-loop-place l =
    NameEarlierExpressions l.expressions ↔ EachFrom (λ k x. All (λ h. h < k) (operands_of x)) l.place (drop l.place l.expressions)
