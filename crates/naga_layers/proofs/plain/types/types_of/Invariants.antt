use Rattle.std.proofs.Common.{◌≡◌, drop, [], length}
use Rattle.naga_layers.specs.Plain.Types.{types_from}
use Rattle.naga_layers.proofs.plain.types.types_of.Given as goal

abbrev pub invariant-loop-index : goal.invariant-loop-index
invariant-loop-index l =
    record {
      place : length l.types ≡ l.index;
      rest : types_from l.module l.fun l.types (drop l.index l.fun.expressions) ≡ types_from l.module l.fun [] l.fun.expressions;
    }
