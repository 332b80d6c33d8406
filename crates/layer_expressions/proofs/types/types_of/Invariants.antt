use Rattle.std.proofs.Common.{◌≡◌, drop, length}
use Rattle.layer_expressions.specs.ComputedTypes.{types_from, types_of}
use Rattle.layer_expressions.proofs.types.types_of.Given as goal

abbrev pub invariant-loop-index : goal.invariant-loop-index
invariant-loop-index l =
    record {
      place : length l.types.items ≡ l.index;
      rest : types_from l.module l.arguments l.locals l.expressions l.types.items (drop l.index l.expressions) ≡ types_of l.module l.arguments l.locals l.expressions;
    }
