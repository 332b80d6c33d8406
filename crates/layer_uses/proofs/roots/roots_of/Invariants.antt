use Rattle.std.proofs.Common.{◌≡◌, drop, []}
use Rattle.layer_uses.specs.GlobalRoots.{roots_from}
use Rattle.layer_uses.proofs.roots.roots_of.Given as goal

abbrev pub invariant-loop-expression : goal.invariant-loop-expression
invariant-loop-expression l = roots_from l.roots (drop l.expression-index l.expressions) ≡ roots_from [] l.expressions
