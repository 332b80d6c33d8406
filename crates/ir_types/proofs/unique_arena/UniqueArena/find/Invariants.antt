use Rattle.ir_arena.specs.LastPlaces.{past}
use Rattle.ir_types.specs.Unique.{hash_of}
use Rattle.ir_types.proofs.Unique.{IsAhead}
use Rattle.ir_types.proofs.unique_arena.UniqueArena.find.Given as goal

abbrev pub invariant-loop-next : goal.invariant-loop-next
invariant-loop-next g l = IsAhead (hash_of g.T.Hash.hash_input) l.self l.value l.next

-- it ends, as each place is before the last
abbrev pub decreases-loop-next : goal.decreases-loop-next
decreases-loop-next g l = past l.next
