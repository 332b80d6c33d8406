use Rattle.check_entry.specs.EntryVaryings.{returned_points}
use Rattle.check_entry.proofs.varyings.refuse_returned.Goals as goal

pub returns : goal.returns
returns c =
    c.answer.ensures.judges (returned_points c.args.module.now.types c.args.stage c.args.position c.args.declared) c.first_fault_of_returned.ensures
