use Rattle.std.proofs.Common.{rules, ◌≡◌, ◌∷◌, ◌++◌, true, false, None, [], sym, ◌∙◌, subst}
use Rattle.ir_arena.specs.Points.{first_fault, within}
use Rattle.ir_types.specs.TypeTests.{is_struct, it_is}
use Rattle.ir_types.specs.Types.{inner_at}
use Rattle.check_varyings.specs.Varyings.{parts_of, placed_parts, points_from, seen_in}
use Rattle.check_varyings.specs.declared.varying.MeshOutputType.TheVariants.{VertexOutput, PrimitiveOutput}
use Rattle.check_entry.specs.EntryFaults.{OfResult, Other, fault_of}
use Rattle.check_entry.specs.EntryVaryings.{has_one_of_indices, output_item, output_points, place_of}
use Rattle.check_faults.specs.declared.entry.EntryPointError.TheVariants as fault
use Rattle.check_entry.proofs.EntrySteps.{refuses_as}
use Rattle.ir_facts.proofs.Refusals.{refuses_first, stays_refused}
use Rattle.check_entry.proofs.Groups.{indices_by_position, last_fails, last_holds, output_by_position}
use Rattle.check_entry.proofs.interface.InterfaceContext.check_primitive_output.Goals as goal
use Rattle.ir_facts.specs.Answers.{Answers, FirstOf, read_by}

pub returns-in_err-check_output : goal.returns-in_err-check_output
returns-in_err-check_output g c =
    let settings = c.args.self.now.settings in
    let infos = c.args.self.now.infos.now in
    let types = c.args.self.now.program.now.types in
    let ep = c.args.self.now.entry_point.now in
    let ty = c.args.mesh.now.primitive_output_type in
    let r = c.from_residual.result in
    let earlier = placed_parts types infos (output_item settings ep VertexOutput c.args.mesh.now.vertex_output_type) in
    let out = output_points settings types infos ep PrimitiveOutput earlier ty in
    let by = output_by_position types infos settings ep PrimitiveOutput earlier (seen_in c.args.state.now) ty c.requires.seen in
    let asked : Answers (FirstOf ((it_is is_struct (inner_at types ty), Other fault.InvalidMeshOutputType) ∷ within OfResult (points_from (place_of settings ep true PrimitiveOutput) types infos (seen_in c.args.state.now) ty None))) (read_by fault_of r) = search (rules, c.check_output.ensures.fault) in
    refuses_first (read_by fault_of r) out ((has_one_of_indices (parts_of types infos ty None), Other fault.InvalidMeshPrimitiveOutputType) ∷ []) (stays_refused fault_of r (search rules)) (subst (λ points. Answers (FirstOf points) (read_by fault_of r)) by asked)

pub returns-then-not-has_one_of_indices : goal.returns-then-not-has_one_of_indices
returns-then-not-has_one_of_indices g c =
    let settings = c.args.self.now.settings in
    let infos = c.args.self.now.infos.now in
    let types = c.args.self.now.program.now.types in
    let ep = c.args.self.now.entry_point.now in
    let ty = c.args.mesh.now.primitive_output_type in
    let vertex = c.args.mesh.now.vertex_output_type in
    let parts = parts_of types infos ty None in
    let earlier = placed_parts types infos (output_item settings ep VertexOutput vertex) in
    let out = output_points settings types infos ep PrimitiveOutput earlier ty in
    let by = output_by_position types infos settings ep PrimitiveOutput earlier (seen_in c.args.state.now) ty c.requires.seen in
    let none = subst (λ points. first_fault points ≡ None) by c.in_ok-check_output.ensures.fault in
    let same = sym (c.has_one_of_indices.ensures ∙ indices_by_position types infos settings ep vertex ty (seen_in c.args.state.now) (seen_in c.check_output.new.state) c.requires.seen c.in_ok-check_output.ensures.seen) in
    let no : c.has_one_of_indices.result ≡ false = search rules in
    refuses_as fault.InvalidMeshPrimitiveOutputType c.unplaced.result (out ++ ((has_one_of_indices parts, Other fault.InvalidMeshPrimitiveOutputType) ∷ [])) c.unplaced.ensures
    (last_fails out (has_one_of_indices parts) (Other fault.InvalidMeshPrimitiveOutputType) none (same ∙ no))

pub returns : goal.returns
returns g c =
    let settings = c.args.self.now.settings in
    let infos = c.args.self.now.infos.now in
    let types = c.args.self.now.program.now.types in
    let ep = c.args.self.now.entry_point.now in
    let ty = c.args.mesh.now.primitive_output_type in
    let vertex = c.args.mesh.now.vertex_output_type in
    let parts = parts_of types infos ty None in
    let earlier = placed_parts types infos (output_item settings ep VertexOutput vertex) in
    let out = output_points settings types infos ep PrimitiveOutput earlier ty in
    let by = output_by_position types infos settings ep PrimitiveOutput earlier (seen_in c.args.state.now) ty c.requires.seen in
    let none = subst (λ points. first_fault points ≡ None) by c.in_ok-check_output.ensures.fault in
    let same = sym (c.has_one_of_indices.ensures ∙ indices_by_position types infos settings ep vertex ty (seen_in c.args.state.now) (seen_in c.check_output.new.state) c.requires.seen c.in_ok-check_output.ensures.seen) in
    let yes : c.has_one_of_indices.result ≡ true = search rules in
    last_holds out (has_one_of_indices parts) (Other fault.InvalidMeshPrimitiveOutputType) none (same ∙ yes)
