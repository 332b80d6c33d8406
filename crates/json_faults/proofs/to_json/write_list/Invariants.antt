use Rattle.std.proofs.Common.{◌≡◌, ◌++◌, drop}
use Rattle.json.specs.Tree.{items_tokens}
use Rattle.json_faults.specs.JsonForm.{each}
use Rattle.json_faults.proofs.to_json.write_list.Given as goal

abbrev pub invariant-loop-item : goal.invariant-loop-item
invariant-loop-item g l =
    l.out ++ items_tokens (each g.T.ToJson.form (drop l.item-index l.items)) ≡ l.initial.out ++ items_tokens (each g.T.ToJson.form l.items)
