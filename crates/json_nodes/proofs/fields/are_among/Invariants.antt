use Rattle.std.proofs.Common.{◌≡◌, map, length}
use Rattle.json.specs.Json.{Members}
use Rattle.json.specs.Find.{InMembers}
use Rattle.json_nodes.specs.Written.{are_among}
use Rattle.json_nodes.proofs.fields.are_among.Given as goal

-- the walk from here finds what the whole finds
abbrev pub invariant-loop-key : goal.invariant-loop-key
invariant-loop-key l =
    (ms : Members) → InMembers l.fn.members ms
    → (more : Members) × InMembers l.rest more × (are_among (map (λ n. n.now) l.names) ms ≡ are_among (map (λ n. n.now) l.names) more)

abbrev pub decreases-loop-key : goal.decreases-loop-key
decreases-loop-key l = length l.rest
