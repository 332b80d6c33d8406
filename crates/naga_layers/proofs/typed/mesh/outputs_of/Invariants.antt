use Rattle.std.proofs.Common.{◌≡◌, drop}
use Rattle.naga_layers.specs.Typed.Mesh.{no_outputs, outputs_from}
use Rattle.naga_layers.proofs.typed.mesh.outputs_of.Given as goal

abbrev pub invariant-loop-member : goal.invariant-loop-member
invariant-loop-member l =
    outputs_from l.types l.outputs (drop l.member-index l.members) ≡ outputs_from l.types no_outputs l.members
