use Rattle.std.proofs.Common.{◌≡◌, map, drop}
use Rattle.json.specs.Json.{Members}
use Rattle.json.specs.Find.{InMembers}
use Rattle.json_nodes.specs.Written.{are_in_order}
use Rattle.json_nodes.proofs.fields.are_in_order.Given as goal

-- the walk from here, with the names that are left, finds what the whole finds
abbrev pub invariant-loop-name : goal.invariant-loop-name
invariant-loop-name l =
    (ms : Members) → InMembers l.fn.members ms
    → (more : Members) × InMembers l.rest more
    × (are_in_order (map (λ n. n.now) l.names) ms ≡ are_in_order (map (λ n. n.now) (drop l.name-index l.names)) more)
