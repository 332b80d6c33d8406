use Rattle.check_entry.specs.EntryFaults.{fault_of}
use Rattle.check_entry.specs.EntryUses.{payload_points}
use Rattle.check_entry.proofs.EntrySteps.{passes_within}
use Rattle.check_entry.proofs.uses.check_payload.Goals as goal

pub returns-then-payload_holds : goal.returns-then-payload_holds
returns-then-payload_holds c =
    let ep = c.args.ep.now in
    let globals = c.args.module.now.global_variables in
    passes_within fault_of (payload_points globals ep.stage ep.task_payload) (c.payload_holds.ensures globals c.if-payload_holds.true)
