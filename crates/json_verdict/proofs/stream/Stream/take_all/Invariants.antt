use Rattle.std.proofs.Common.{◌≡◌, ℕ, List, ◌++◌, length}
use Rattle.std.specs.Prelude.{Option}
use Rattle.json_verdict.specs.walk.Lines.{HasTaken}
use Rattle.json_verdict.proofs.stream.Stream.take_all.Given as goal

abbrev pub decreases-lines : goal.decreases-lines
decreases-lines g l = length l.rest

-- what was seen, and what is left
abbrev pub invariant-lines : goal.invariant-lines
invariant-lines g l =
    (seen : List ℕ) × (l.bytes ≡ seen ++ l.rest)
    × ((input : List ℕ) (start : Option (List ℕ)) → HasTaken l.initial.self input start (g.W.Write.contents l.initial.writer)
    → HasTaken l.self (input ++ seen) start (g.W.Write.contents l.writer))
