use Rattle.std.proofs.Common.{◌≡◌, drop, [], length}
use Rattle.layer_types.specs.ComputedInfos.{infos_from}
use Rattle.layer_types.proofs.infos.infos_of_types.Given as goal

abbrev pub invariant-loop-index : goal.invariant-loop-index
invariant-loop-index l =
    record {
      place : length l.infos ≡ l.index;
      rest : infos_from l.types l.infos (drop l.index l.types) ≡ infos_from l.types [] l.types;
    }
