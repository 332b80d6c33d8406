use Rattle.std.proofs.Common.{List, false, Result, Ok, Err, sym, ap, ◌∙◌, subst}
use Rattle.ir_arena.specs.Points.{within}
use Rattle.ir_types.specs.declared.type_info.TypeInfo.{TypeInfo}
use Rattle.ir_arena.specs.declared.span.Refusal.{Refusal}
use Rattle.ir_leaves.specs.declared.built_in.BuiltIn.TheVariants.{Position}
use Rattle.check_varyings.specs.Seen.{Seen}
use Rattle.check_varyings.specs.Varyings.{points_from, parts_of, seen_in, seen_with}
use Rattle.check_varyings.specs.declared.varying.VaryingPlace.{VaryingPlace}
use Rattle.check_entry.specs.EntryFaults.{OfResult, fault_of}
use Rattle.check_entry.specs.EntryVaryings.{declared_points, has_built_in, result_parts}
use Rattle.check_faults.specs.declared.entry.EntryPointError.{EntryPointError}
use Rattle.check_entry.proofs.EntrySteps.{passes_within}
use Rattle.check_entry.proofs.Groups.{result_decides}
use Rattle.check_entry.proofs.interface.InterfaceContext.check_declared.Goals as goal
use Rattle.ir_facts.specs.Answers.{Answers, FirstOf, read_by}

pub returns-in_default-clause-seen : goal.returns-in_default-clause-seen
returns-in_default-clause-seen g c =
    ap (λ (s : Seen). s.built_ins (Position false)) c.requires.seen
    ∙ sym (ap (λ d. has_built_in (Position false) (result_parts c.args.self.now.program.now.types c.args.self.now.infos.now d)) c.in_default.is)

pub returns-in-Ok-clause-fault : goal.returns-in-Ok-clause-fault
returns-in-Ok-clause-fault g c =
    let settings = c.args.self.now.settings in
    let types = c.args.self.now.program.now.types in
    let infos = c.args.self.now.infos.now in
    let ep = c.args.self.now.entry_point.now in
    let declared = c.in-Some.declared in
    let points = λ (place : VaryingPlace) (infos : List TypeInfo). points_from place types infos (seen_in c.args.state.now) declared.ty declared.binding in
    let passed : Result (Unit {0}) (Refusal EntryPointError) = Ok tt in
    let none = passes_within OfResult (points c.place_of-place.result infos) c.in-Ok.ensures.fault in
    let here : Answers (FirstOf (within OfResult (points c.place_of-place.result infos))) (read_by fault_of passed) = none in
    let at_place = subst (λ p. Answers (FirstOf (within OfResult (points p infos))) (read_by fault_of passed)) c.place_of-place.ensures here in
    subst (λ d. Answers (FirstOf (declared_points settings types infos ep d)) (read_by fault_of passed)) (sym c.in-Some.is) (result_decides types infos settings ep (seen_in c.args.state.now) declared passed c.requires.seen at_place)

pub returns-in-Ok-clause-seen : goal.returns-in-Ok-clause-seen
returns-in-Ok-clause-seen g c =
    let types = c.args.self.now.program.now.types in
    let infos = c.args.self.now.infos.now in
    let declared = c.in-Some.declared in
    let parts = λ (infos : List TypeInfo). parts_of types infos declared.ty declared.binding in
    let left = c.in-Ok.ensures.seen in
    ap (λ (s : Seen). s.built_ins (Position false)) (left ∙ ap (λ (s : Seen). seen_with s (parts infos)) c.requires.seen)
    ∙ sym (ap (λ d. has_built_in (Position false) (result_parts types infos d)) c.in-Some.is)

pub returns-in-Err-clause-fault : goal.returns-in-Err-clause-fault
returns-in-Err-clause-fault g c =
    let settings = c.args.self.now.settings in
    let types = c.args.self.now.program.now.types in
    let infos = c.args.self.now.infos.now in
    let ep = c.args.self.now.entry_point.now in
    let declared = c.in-Some.declared in
    let points = λ (place : VaryingPlace) (infos : List TypeInfo). points_from place types infos (seen_in c.args.state.now) declared.ty declared.binding in
    let refused : Result (Unit {0}) (Refusal EntryPointError) = Err c.result_refused.result in
    let here : Answers (FirstOf (within OfResult (points c.place_of-place.result infos))) (read_by fault_of refused) = c.result_refused.ensures (points c.place_of-place.result infos) c.in-Err.ensures.fault in
    let at_place = subst (λ p. Answers (FirstOf (within OfResult (points p infos))) (read_by fault_of refused)) c.place_of-place.ensures here in
    subst (λ d. Answers (FirstOf (declared_points settings types infos ep d)) (read_by fault_of refused)) (sym c.in-Some.is) (result_decides types infos settings ep (seen_in c.args.state.now) declared refused c.requires.seen at_place)
