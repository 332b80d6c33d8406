use Rattle.std.proofs.Common.{◌≡◌, drop, []}
use Rattle.naga_layers.specs.Kinds.{kinds_from}
use Rattle.naga_layers.proofs.kinds.kinds_of.Given as goal

abbrev pub invariant-loop-expression : goal.invariant-loop-expression
invariant-loop-expression l =
    kinds_from l.kinds (drop l.expression-index l.expressions) ≡ kinds_from [] l.expressions
