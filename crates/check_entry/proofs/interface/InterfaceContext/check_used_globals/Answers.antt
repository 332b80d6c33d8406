use Rattle.std.proofs.Common.{rules}
use Rattle.check_entry.specs.EntryFaults.{fault_of}
use Rattle.check_entry.specs.UsedGlobals.{globals_points}
use Rattle.check_entry.proofs.EntrySteps.{passes_within}
use Rattle.check_entry.proofs.interface.InterfaceContext.check_used_globals.Goals as goal

pub returns-then-branch : goal.returns-then-branch
returns-then-branch g c =
    let below = g.B.Below.meaning c.args.self.now.below.now in
    let program = c.args.self.now.program.now in
    let ep = c.args.self.now.entry_point.now in
    let uses = c.args.self.now.info.now.global_uses in
    passes_within fault_of (globals_points below c.args.self.now.settings.flags program ep uses) (c.in_ok-used_globals_hold.ensures (search rules))
