use Rattle.std.proofs.Common.{rules, ◌≡◌, subst}
use Rattle.std.specs.Prelude.{OnOk}
use Rattle.ir_arena.specs.Points.{within}
use Rattle.ir_facts.proofs.Callers.{types_name_each_other}
use Rattle.ir_facts.specs.Answers.{Answers, FirstOf, read_by}
use Rattle.check_entry.specs.EntryFaults.{OfArgument, fault_of}
use Rattle.check_entry.proofs.EntrySteps.{passes_within}
use Rattle.check_varyings.specs.Seen.{Seen}
use Rattle.check_varyings.specs.Varyings.{parts_of, points_from, seen_in, seen_with}
use Rattle.check_entry.proofs.interface.InterfaceContext.check_argument.Goals as goal

pub take_at_once-requires-clause-types : goal.take_at_once-requires-clause-types
take_at_once-requires-clause-types g c = types_name_each_other c.args.self.now.program.now c.requires.types

pub returns-then-take_at_once-clause-fault : goal.returns-then-take_at_once-clause-fault
returns-then-take_at_once-clause-fault g c =
    let points = points_from c.args.place.now c.args.self.now.program.now.types c.args.self.now.infos.now (seen_in c.args.state.now) c.args.argument.now.ty c.args.argument.now.binding in
    passes_within (OfArgument c.args.index) points (c.take_at_once.ensures.holds (search rules))

pub returns-clause-fault : goal.returns-clause-fault
returns-clause-fault g c =
    let types = c.args.self.now.program.now.types in
    let infos = c.args.self.now.infos.now in
    let x = c.args.argument.now in
    let stays : seen_in c.take_at_once.new.state ≡ seen_in c.args.state.now = c.take_at_once.ensures.stays (search rules) in
    subst (λ (seen : Seen). Answers (FirstOf (within (OfArgument c.args.index) (points_from c.args.place.now types infos seen x.ty x.binding))) (read_by fault_of c.check_rarer_argument.result)) stays c.check_rarer_argument.ensures.fault

pub returns-clause-seen : goal.returns-clause-seen
returns-clause-seen g c =
    let parts = parts_of c.args.self.now.program.now.types c.args.self.now.infos.now c.args.argument.now.ty c.args.argument.now.binding in
    let stays : seen_in c.take_at_once.new.state ≡ seen_in c.args.state.now = c.take_at_once.ensures.stays (search rules) in
    subst (λ (seen : Seen). OnOk c.check_rarer_argument.result (seen_in c.check_rarer_argument.new.state ≡ seen_with seen parts)) stays c.check_rarer_argument.ensures.seen
