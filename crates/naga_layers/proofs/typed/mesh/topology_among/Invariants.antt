use Rattle.std.proofs.Common.{◌≡◌, drop}
use Rattle.naga_layers.specs.Typed.Mesh.{topology_among}
use Rattle.naga_layers.proofs.typed.mesh.topology_among.Given as goal

abbrev pub invariant-loop-member : goal.invariant-loop-member
invariant-loop-member l = topology_among (drop l.member-index l.members) ≡ topology_among l.members
