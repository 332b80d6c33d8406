use Rattle.std.proofs.Common.{◌≡◌, drop}
use Rattle.layer_uses.specs.Joins.{joined_from}
use Rattle.layer_uses.proofs.joins.join_all.Given as goal

abbrev pub invariant-loop-global_use : goal.invariant-loop-global_use
invariant-loop-global_use l =
    record {
      place : l.place ≡ l.global_use-index;
      rest : joined_from l.place l.uses.items (drop l.global_use-index l.more) ≡ joined_from 0 l.fn.uses.items l.more;
    }
