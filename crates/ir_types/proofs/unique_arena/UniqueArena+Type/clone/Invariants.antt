use Rattle.std.proofs.Common.{◌≡◌, take}
use Rattle.ir_types.proofs.unique_arena.UniqueArena+Type.clone.Given as goal

abbrev pub invariant-loop-index : goal.invariant-loop-index
invariant-loop-index l = l.made ≡ take l.index l.self
