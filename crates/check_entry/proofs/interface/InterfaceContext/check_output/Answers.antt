use Rattle.std.proofs.Common.{rules, true, None, Result, Ok, Err}
use Rattle.ir_arena.specs.declared.span.Refusal.{Refusal}
use Rattle.check_varyings.specs.Varyings.{points_from, seen_in}
use Rattle.check_entry.specs.EntryFaults.{OfResult}
use Rattle.check_entry.specs.EntryVaryings.{place_of}
use Rattle.check_faults.specs.declared.entry.EntryPointError.{EntryPointError}
use Rattle.check_entry.proofs.EntrySteps.{passes_within}
use Rattle.check_entry.proofs.Groups.{struct_decides}
use Rattle.check_entry.proofs.interface.InterfaceContext.check_output.Goals as goal

pub returns-in-Ok-clause-fault : goal.returns-in-Ok-clause-fault
returns-in-Ok-clause-fault g c =
    let types = c.args.self.now.program.now.types in
    let infos = c.args.self.now.infos.now in
    let seen = seen_in c.args.state.now in
    let place = place_of c.args.self.now.settings c.args.self.now.entry_point.now true c.args.mesh_output in
    let found = c.place_of-place.result in
    let passed : Result (Unit {0}) (Refusal EntryPointError) = Ok tt in
    let none = passes_within OfResult (points_from found types infos seen c.args.ty None) c.in-Ok.ensures.fault in
    struct_decides types infos place found seen c.args.ty passed c.place_of-place.ensures (search rules) none

pub returns-in-Ok-clause-seen : goal.returns-in-Ok-clause-seen
returns-in-Ok-clause-seen g c = c.in-Ok.ensures.seen

pub returns-in-Err-clause-fault : goal.returns-in-Err-clause-fault
returns-in-Err-clause-fault g c =
    let types = c.args.self.now.program.now.types in
    let infos = c.args.self.now.infos.now in
    let seen = seen_in c.args.state.now in
    let place = place_of c.args.self.now.settings c.args.self.now.entry_point.now true c.args.mesh_output in
    let found = c.place_of-place.result in
    let refused : Result (Unit {0}) (Refusal EntryPointError) = Err c.result_refused.result in
    let here = c.result_refused.ensures (points_from found types infos seen c.args.ty None) c.in-Err.ensures.fault in
    struct_decides types infos place found seen c.args.ty refused c.place_of-place.ensures (search rules) here
