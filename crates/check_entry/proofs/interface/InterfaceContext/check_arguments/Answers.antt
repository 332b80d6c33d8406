use Rattle.std.proofs.Common.{rules, ◌≡◌, ◌<◌, ◌≤◌, ◌+◌, List, None, false, length, map, take, get_or, sym, ap, ◌∙◌, subst}
use Rattle.std.proofs.Math.ListN.{get_or-map}
use Rattle.std.proofs.lemmas.List.{length-map}
use Rattle.ir_arena.specs.Points.{first_fault, within}
use Rattle.ir_module.specs.declared.functions.FunctionArgument.{FunctionArgument}
use Rattle.check_varyings.proofs.Seeing.{leaves_the_next}
use Rattle.ir_types.specs.declared.type_info.TypeInfo.{TypeInfo}
use Rattle.check_varyings.specs.Seen.{Seen}
use Rattle.check_varyings.specs.Varyings.{group_points, parts_of, points_from, seen_at, seen_in, seen_with, group_parts}
use Rattle.check_varyings.specs.declared.varying.MeshOutputType.TheVariants.{Neither}
use Rattle.check_varyings.specs.declared.varying.VaryingPlace.{VaryingPlace}
use Rattle.check_entry.specs.EntryFaults.{OfArgument, fault_of}
use Rattle.check_entry.specs.EntryVaryings.{argument_item, place_of}
use Rattle.check_entry.proofs.Groups.{group_stops, group_goes_on, group_ends, parts_taken, seen_by_position}
use Rattle.check_entry.proofs.interface.InterfaceContext.check_arguments.Goals as goal
use Rattle.ir_facts.specs.Answers.{Answers, FirstOf, read_by}

pub returns-in_err-check_argument : goal.returns-in_err-check_argument
returns-in_err-check_argument g c =
    let settings = c.args.self.now.settings in
    let infos = c.args.self.now.infos.now in
    let types = c.args.self.now.program.now.types in
    let ep = c.args.self.now.entry_point.now in
    let xs = c.as_slice-arguments.result.now in
    let i = c.loop-index.index in
    let x = c.index-arguments-index.result in
    let items = map (argument_item settings ep) xs in
    let item = argument_item settings ep x in
    let before = group_parts types infos (take i items) in
    let place = place_of settings ep false Neither in
    let lt : i < length items = rw length-map c.loop-index-test.true in
    let is : item ≡ get_or items i item = ap (argument_item settings ep) c.index-arguments-index.is ∙ sym (get_or-map (argument_item settings ep) xs i x) in
    let seen : seen_in c.loop-index.state ≡ seen_at place before = subst (λ (p : VaryingPlace). seen_in c.loop-index.state ≡ seen_at p before) c.place_of-place.ensures c.loop-index.invariant.seen in
    let r = c.from_residual.result in
    let asked : Answers (FirstOf (within (OfArgument i) (points_from c.place_of-place.result types infos (seen_in c.loop-index.state) x.ty x.binding))) (read_by fault_of r) = search (rules, c.check_argument.ensures.fault) in
    let here = subst (λ (p : VaryingPlace). Answers (FirstOf (within (OfArgument i) (points_from p types infos (seen_in c.loop-index.state) x.ty x.binding))) (read_by fault_of r)) c.place_of-place.ensures asked in
    let found = subst (λ points. Answers (FirstOf (within (OfArgument i) points)) (read_by fault_of r)) (seen_by_position types infos place before (seen_in c.loop-index.state) x.ty x.binding seen) here in
    subst (λ (arguments : List FunctionArgument). Answers (FirstOf (group_points types infos OfArgument (map (argument_item settings ep) arguments))) (read_by fault_of r)) c.as_slice-arguments.ensures (group_stops types infos OfArgument items i r item lt is c.loop-index.invariant.faults (search rules) found)

pub loop-index-preserved : goal.loop-index-preserved
loop-index-preserved g c =
    let settings = c.args.self.now.settings in
    let infos = c.args.self.now.infos.now in
    let types = c.args.self.now.program.now.types in
    let ep = c.args.self.now.entry_point.now in
    let xs = c.as_slice-arguments.result.now in
    let i = c.loop-index.index in
    let x = c.index-arguments-index.result in
    let items = map (argument_item settings ep) xs in
    let item = argument_item settings ep x in
    let before = group_parts types infos (take i items) in
    let place = place_of settings ep false Neither in
    let parts = parts_of types infos x.ty x.binding in
    let lt : i < length items = rw length-map c.loop-index-test.true in
    let is : item ≡ get_or items i item = ap (argument_item settings ep) c.index-arguments-index.is ∙ sym (get_or-map (argument_item settings ep) xs i x) in
    let seen : seen_in c.loop-index.state ≡ seen_at place before = subst (λ (p : VaryingPlace). seen_in c.loop-index.state ≡ seen_at p before) c.place_of-place.ensures c.loop-index.invariant.seen in
    let points = λ (place : VaryingPlace) (infos : List TypeInfo). points_from place types infos (seen_in c.loop-index.state) x.ty x.binding in
    let passed : first_fault (within (OfArgument i) (points c.place_of-place.result infos)) ≡ None = search rules in
    let here = subst (λ p. first_fault (within (OfArgument i) (points p infos)) ≡ None) c.place_of-place.ensures passed in
    let none = subst (λ points. first_fault (within (OfArgument i) points) ≡ None) (seen_by_position types infos place before (seen_in c.loop-index.state) x.ty x.binding seen) here in
    let taken : seen_in c.check_argument.new.state ≡ seen_with (seen_in c.loop-index.state) parts = search rules in
    let left : seen_in c.check_argument.new.state ≡ seen_at place (group_parts types infos (take (i + 1) items)) =
    taken
    ∙ ap (λ (s : Seen). seen_with s parts) seen
    ∙ leaves_the_next place before parts
    ∙ ap (seen_at place) (sym (parts_taken types infos OfArgument items i item lt is)) in
    record {
      faults = group_goes_on types infos OfArgument items i item lt is c.loop-index.invariant.faults none;
      seen = subst (λ (p : VaryingPlace). seen_in c.check_argument.new.state ≡ seen_at p (group_parts types infos (take (i + 1) items))) (sym c.place_of-place.ensures) left;
    }

pub returns : goal.returns
returns g c =
    let settings = c.args.self.now.settings in
    let infos = c.args.self.now.infos.now in
    let types = c.args.self.now.program.now.types in
    let ep = c.args.self.now.entry_point.now in
    let items = map (argument_item settings ep) c.as_slice-arguments.result.now in
    let over : length items ≤ c.loop-index.index = rw length-map c.loop-index-test.false in
    let none = group_ends types infos OfArgument items c.loop-index.index over c.loop-index.invariant.faults in
    subst (λ (arguments : List FunctionArgument). first_fault (group_points types infos OfArgument (map (argument_item settings ep) arguments)) ≡ None) c.as_slice-arguments.ensures none
