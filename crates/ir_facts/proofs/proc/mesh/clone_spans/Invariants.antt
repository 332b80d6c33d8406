use Rattle.std.proofs.Common.{◌≡◌}
use Rattle.ir_facts.proofs.proc.mesh.clone_spans.Given as goal

abbrev pub invariant-loop-span : goal.invariant-loop-span
invariant-loop-span l = l.made ≡ l.fault
