use Rattle.std.proofs.Common.{◌≡◌, drop}
use Rattle.layer_types.specs.Structs.{are_sources}
use Rattle.layer_types.proofs.structs.are_sources.Given as goal

abbrev pub invariant-loop-member : goal.invariant-loop-member
invariant-loop-member l = are_sources (drop l.member-index l.members) ≡ are_sources l.members
