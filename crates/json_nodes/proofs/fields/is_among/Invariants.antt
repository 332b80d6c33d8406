use Rattle.std.proofs.Common.{◌≡◌, map, drop}
use Rattle.json_nodes.specs.Fields.{is_among}
use Rattle.json_nodes.proofs.fields.is_among.Given as goal

abbrev pub invariant-loop-other : goal.invariant-loop-other
invariant-loop-other l = is_among l.name (map (λ n. n.now) (drop l.other-index l.names)) ≡ is_among l.name (map (λ n. n.now) l.names)
