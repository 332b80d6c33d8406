use Rattle.std.proofs.Common.{◌≡◌, drop, [], length, replicate}
use Rattle.ir_flags.specs.Bits.{NO_USE}
use Rattle.layer_uses.specs.GlobalRoots.{roots_from}
use Rattle.layer_uses.specs.Uses.{all_expression_uses}
use Rattle.layer_uses.proofs.uses.uses_of.Given as goal

abbrev pub invariant-loop-expression : goal.invariant-loop-expression
invariant-loop-expression l =
    let roots = roots_from [] l.fun.expressions in
    all_expression_uses roots l.uses.items (drop l.expression-index l.fun.expressions)
    ≡ all_expression_uses roots (replicate (length l.module.global_variables) NO_USE) l.fun.expressions
