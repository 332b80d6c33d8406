use Rattle.std.proofs.Common.{◌≡◌, map, drop}
use Rattle.json.specs.Tape.{node_token}
use Rattle.json_nodes.proofs.Whole.{fit}
use Rattle.json_nodes.proofs.check.is_whole.Given as goal

-- the walk from here finds what the whole finds
abbrev pub invariant-loop-node : goal.invariant-loop-node
invariant-loop-node l = fit l.level (map node_token (drop l.node-index l.nodes)) ≡ fit 0 (map node_token l.nodes)
