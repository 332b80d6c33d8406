use Rattle.std.proofs.Common.{arith}
use Rattle.json_faults.proofs.Lists.{list_on}
use Rattle.json_faults.proofs.to_json.write_list.Goals as goal

pub loop-item-preserved : goal.loop-item-preserved
loop-item-preserved g c = list_on g.T.ToJson.form c.loop-item.out _ _ c.item-item.result c.loop-item.item-index _ (omega arith) c.item-item.is c.in_ok-write_json.ensures c.loop-item.invariant
