use Rattle.std.proofs.Common.{rules, ◌≡◌, ◌∷◌, ◌++◌, true, false, None, [], sym, ap, ◌∙◌, subst}
use Rattle.ir_arena.specs.Points.{first_fault, within}
use Rattle.ir_types.specs.TypeTests.{is_struct, it_is}
use Rattle.ir_types.specs.Types.{inner_at}
use Rattle.ir_leaves.specs.declared.built_in.BuiltIn.TheVariants.{Position}
use Rattle.check_varyings.proofs.Seeing.{leaves_the_next}
use Rattle.check_varyings.specs.Seen.{Seen}
use Rattle.check_varyings.specs.Varyings.{parts_of, points_from, seen_in, seen_with}
use Rattle.check_varyings.specs.declared.varying.MeshOutputType.TheVariants.{VertexOutput}
use Rattle.check_entry.specs.EntryFaults.{OfResult, Other, fault_of}
use Rattle.check_entry.specs.EntryVaryings.{has_built_in, output_points, place_of}
use Rattle.check_faults.specs.declared.entry.EntryPointError.TheVariants as fault
use Rattle.check_entry.proofs.EntrySteps.{refuses_as}
use Rattle.ir_facts.proofs.Refusals.{refuses_first, stays_refused}
use Rattle.check_entry.proofs.Groups.{last_fails, last_holds, output_by_position}
use Rattle.check_entry.proofs.interface.InterfaceContext.check_vertex_output.Goals as goal
use Rattle.ir_facts.specs.Answers.{Answers, FirstOf, read_by}

pub returns-in_err-check_output-clause-fault : goal.returns-in_err-check_output-clause-fault
returns-in_err-check_output-clause-fault g c =
    let settings = c.args.self.now.settings in
    let infos = c.args.self.now.infos.now in
    let types = c.args.self.now.program.now.types in
    let ep = c.args.self.now.entry_point.now in
    let ty = c.args.ty in
    let r = c.from_residual.result in
    let out = output_points settings types infos ep VertexOutput [] ty in
    let by = output_by_position types infos settings ep VertexOutput [] (seen_in c.args.state.now) ty c.requires.seen in
    let asked : Answers (FirstOf ((it_is is_struct (inner_at types ty), Other fault.InvalidMeshOutputType) ∷ within OfResult (points_from (place_of settings ep true VertexOutput) types infos (seen_in c.args.state.now) ty None))) (read_by fault_of r) = search (rules, c.check_output.ensures.fault) in
    refuses_first (read_by fault_of r) out ((has_built_in (Position false) (parts_of types infos ty None), Other fault.MissingVertexOutputPosition) ∷ []) (stays_refused fault_of r (search rules)) (subst (λ points. Answers (FirstOf points) (read_by fault_of r)) by asked)

pub returns-then-not-has_built_in-clause-fault : goal.returns-then-not-has_built_in-clause-fault
returns-then-not-has_built_in-clause-fault g c =
    let settings = c.args.self.now.settings in
    let infos = c.args.self.now.infos.now in
    let types = c.args.self.now.program.now.types in
    let ep = c.args.self.now.entry_point.now in
    let ty = c.args.ty in
    let parts = parts_of types infos ty None in
    let out = output_points settings types infos ep VertexOutput [] ty in
    let by = output_by_position types infos settings ep VertexOutput [] (seen_in c.args.state.now) ty c.requires.seen in
    let none = subst (λ points. first_fault points ≡ None) by c.in_ok-check_output.ensures.fault in
    let same = sym (c.has_built_in.ensures ∙ ap (λ (s : Seen). s.built_ins (Position false)) (c.in_ok-check_output.ensures.seen ∙ ap (λ (s : Seen). seen_with s parts) c.requires.seen)) in
    let no : c.has_built_in.result ≡ false = search rules in
    refuses_as fault.MissingVertexOutputPosition c.unplaced.result (out ++ ((has_built_in (Position false) parts, Other fault.MissingVertexOutputPosition) ∷ [])) c.unplaced.ensures
    (last_fails out (has_built_in (Position false) parts) (Other fault.MissingVertexOutputPosition) none (same ∙ no))

pub returns-clause-fault : goal.returns-clause-fault
returns-clause-fault g c =
    let settings = c.args.self.now.settings in
    let infos = c.args.self.now.infos.now in
    let types = c.args.self.now.program.now.types in
    let ep = c.args.self.now.entry_point.now in
    let ty = c.args.ty in
    let parts = parts_of types infos ty None in
    let out = output_points settings types infos ep VertexOutput [] ty in
    let by = output_by_position types infos settings ep VertexOutput [] (seen_in c.args.state.now) ty c.requires.seen in
    let none = subst (λ points. first_fault points ≡ None) by c.in_ok-check_output.ensures.fault in
    let same = sym (c.has_built_in.ensures ∙ ap (λ (s : Seen). s.built_ins (Position false)) (c.in_ok-check_output.ensures.seen ∙ ap (λ (s : Seen). seen_with s parts) c.requires.seen)) in
    let yes : c.has_built_in.result ≡ true = search rules in
    last_holds out (has_built_in (Position false) parts) (Other fault.MissingVertexOutputPosition) none (same ∙ yes)

pub returns-clause-seen : goal.returns-clause-seen
returns-clause-seen g c =
    let parts = parts_of c.args.self.now.program.now.types c.args.self.now.infos.now c.args.ty None in
    c.in_ok-check_output.ensures.seen
    ∙ ap (λ (s : Seen). seen_with s parts) c.requires.seen
    ∙ leaves_the_next (place_of c.args.self.now.settings c.args.self.now.entry_point.now true VertexOutput) [] parts
