use Rattle.check_entry.specs.EntryFaults.{fault_of}
use Rattle.check_entry.specs.EntryVaryings.{returned_points}
use Rattle.check_entry.proofs.EntrySteps.{passes_within}
use Rattle.check_entry.proofs.varyings.check_returned.Goals as goal

pub returns-then-returned_holds : goal.returns-then-returned_holds
returns-then-returned_holds c =
    let types = c.args.module.now.types in
    passes_within fault_of (returned_points types c.args.stage c.args.position c.args.declared)
    (c.returned_holds.ensures types c.args.declared c.if-returned_holds.true)
