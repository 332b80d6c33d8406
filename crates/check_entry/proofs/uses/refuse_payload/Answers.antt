use Rattle.check_entry.specs.EntryUses.{payload_points}
use Rattle.check_entry.proofs.uses.refuse_payload.Goals as goal

pub returns : goal.returns
returns c =
    c.answer.ensures.judges (payload_points c.args.module.now.global_variables c.args.ep.now.stage c.args.ep.now.task_payload) c.first_fault_of_payload.ensures
