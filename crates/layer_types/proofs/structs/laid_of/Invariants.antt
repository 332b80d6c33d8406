use Rattle.std.proofs.Common.{◌≡◌, drop}
use Rattle.layer_types.specs.Structs.{begun, laid_from}
use Rattle.layer_types.proofs.structs.laid_of.Given as goal

abbrev pub invariant-loop-member : goal.invariant-loop-member
invariant-loop-member l =
    laid_from l.types l.earlier l.own l.laid (drop l.member-index l.members) ≡ laid_from l.types l.earlier l.own begun l.members
