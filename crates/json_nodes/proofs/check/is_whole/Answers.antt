use Rattle.std.proofs.Common.{true, false, map, sym, ◌∙◌}
use Rattle.json.specs.Tape.{node_token}
use Rattle.json_nodes.proofs.Whole.{walked, stops, ends}
use Rattle.json_nodes.proofs.check.is_whole.Goals as goal

pub returns-in-None : goal.returns-in-None
returns-in-None c j is =
    walked (map node_token c.args.nodes.now) false j
    (stops c.args.nodes.now c.loop-node.node-index c.loop-node.level _ c.loop-node.invariant _ c.loop-node-test.true (sym c.level_after.ensures ∙ c.in-None.is)) is

pub returns : goal.returns
returns c j is =
    walked (map node_token c.args.nodes.now) true j
    (ends c.args.nodes.now c.loop-node.node-index c.loop-node.level _ c.loop-node.invariant c.loop-node-test.false) is
