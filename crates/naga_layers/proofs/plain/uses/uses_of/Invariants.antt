use Rattle.std.proofs.Common.{◌≡◌, drop}
use Rattle.naga_layers.specs.Plain.Uses.{uses_of, with_all_named}
use Rattle.naga_layers.proofs.plain.uses.uses_of.Given as goal

abbrev pub invariant-loop-expression : goal.invariant-loop-expression
invariant-loop-expression l =
    with_all_named l.uses.items (drop l.expression-index l.fun.expressions) ≡ uses_of l.module l.fun
