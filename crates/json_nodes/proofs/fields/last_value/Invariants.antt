use Rattle.std.proofs.Common.{◌≡◌, length}
use Rattle.json.specs.Json.{Json, Members}
use Rattle.json.specs.Find.{BeginsWith, InMembers}
use Rattle.json_nodes.specs.Written.{last_value}
use Rattle.json_nodes.proofs.fields.last_value.Given as goal

-- the walk from here finds what the whole finds
abbrev pub invariant-loop-key : goal.invariant-loop-key
invariant-loop-key l =
    (j : Json) (ms : Members) → BeginsWith l.fn.first j → InMembers l.fn.members ms
    → (i : Json) × (more : Members) × BeginsWith l.last i × InMembers l.rest more × (last_value l.name j ms ≡ last_value l.name i more)

abbrev pub decreases-loop-key : goal.decreases-loop-key
decreases-loop-key l = length l.rest
