use Rattle.json_values.proofs.Lists.{begun, read_on, ended}
use Rattle.json_values.proofs.list.ArenaFromJson.from_json.Goals as goal

pub loop-item-init : goal.loop-item-init
loop-item-init g c = begun g.T.FromJson.stands_for c.new-arena.result _ _ c.new-arena.ensures c.in-Ok.ensures

pub loop-item-preserved : goal.loop-item-preserved
loop-item-preserved g c = read_on g.T.FromJson.stands_for c.loop-item.arena c.append.new.self _ _ _ c.in-Ok-read_at.read _ c.in-Some.ensures.value c.in-Ok-read_at.ensures c.in_ok-append-in-Ok-read_at.ensures.appended c.loop-item.invariant

pub returns : goal.returns
returns g c = ended g.T.FromJson.stands_for c.loop-item.arena _ _ c.in_default.ensures.value c.loop-item.invariant
