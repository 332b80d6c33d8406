use Rattle.ir_facts.proofs.Callers.{types_name_each_other}
use Rattle.check_entry.specs.EntryFaults.{OfArgument}
use Rattle.check_entry.proofs.EntrySteps.{passes_within}
use Rattle.check_varyings.specs.Varyings.{points_from, seen_in}
use Rattle.check_entry.proofs.interface.InterfaceContext.check_rarer_argument.Goals as goal

pub check_varying_item-requires-clause-types : goal.check_varying_item-requires-clause-types
check_varying_item-requires-clause-types g c = types_name_each_other c.args.self.now.program.now c.requires.types

pub returns-in-Ok-clause-fault : goal.returns-in-Ok-clause-fault
returns-in-Ok-clause-fault g c =
    let points = points_from c.args.place.now c.args.self.now.program.now.types c.args.self.now.infos.now (seen_in c.args.state.now) c.args.argument.now.ty c.args.argument.now.binding in
    passes_within (OfArgument c.args.index) points c.in-Ok.ensures.fault

pub returns-in-Err-clause-fault : goal.returns-in-Err-clause-fault
returns-in-Err-clause-fault g c =
    let points = points_from c.args.place.now c.args.self.now.program.now.types c.args.self.now.infos.now (seen_in c.args.state.now) c.args.argument.now.ty c.args.argument.now.binding in
    c.argument_refused.ensures points c.in-Err.ensures.fault
