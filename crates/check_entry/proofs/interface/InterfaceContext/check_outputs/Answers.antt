use Rattle.std.proofs.Common.{rules, true, None, refl, sym, ap, ◌∙◌}
use Rattle.check_varyings.proofs.Seeing.{sees_locations_alone}
use Rattle.check_varyings.specs.Varyings.{parts_of, placed_parts, without_built_ins}
use Rattle.check_varyings.specs.declared.varying.MeshOutputType.TheVariants.{VertexOutput, PrimitiveOutput}
use Rattle.check_entry.specs.EntryVaryings.{output_item, place_of, primitive_points, vertex_points}
use Rattle.ir_facts.proofs.Refusals.{refuses_first, refuses_second, stays_refused}
use Rattle.check_entry.proofs.interface.InterfaceContext.check_outputs.Goals as goal
use Rattle.ir_facts.specs.Answers.{Answers, FirstOf, read_by}
use Rattle.check_entry.specs.EntryFaults.{fault_of}

pub returns-in_err-check_vertex_output : goal.returns-in_err-check_vertex_output
returns-in_err-check_vertex_output g c =
    let settings = c.args.self.now.settings in
    let infos = c.args.self.now.infos.now in
    let types = c.args.self.now.program.now.types in
    let ep = c.args.self.now.entry_point.now in
    let mesh = c.args.mesh.now in
    let r = c.from_residual.result in
    let first = vertex_points settings types infos ep mesh.vertex_output_type in
    let second = primitive_points settings types infos ep (placed_parts types infos (output_item settings ep VertexOutput mesh.vertex_output_type)) mesh.primitive_output_type in
    let here : Answers (FirstOf first) (read_by fault_of r) = search (rules, c.check_vertex_output.ensures.fault) in
    refuses_first (read_by fault_of r) first second (stays_refused fault_of r (search rules)) here

pub check_primitive_output-requires-clause-seen : goal.check_primitive_output-requires-clause-seen
check_primitive_output-requires-clause-seen g c =
    let settings = c.args.self.now.settings in
    let ep = c.args.self.now.entry_point.now in
    let parts = parts_of c.args.self.now.program.now.types c.args.self.now.infos.now c.args.mesh.now.vertex_output_type None in
    c.clear_built_ins.ensures
    ∙ ap without_built_ins c.in_ok-check_vertex_output.ensures.seen
    ∙ sym (sees_locations_alone (place_of settings ep true PrimitiveOutput) (place_of settings ep true VertexOutput) parts refl)

pub returns : goal.returns
returns g c =
    let settings = c.args.self.now.settings in
    let infos = c.args.self.now.infos.now in
    let types = c.args.self.now.program.now.types in
    let ep = c.args.self.now.entry_point.now in
    let mesh = c.args.mesh.now in
    let first = vertex_points settings types infos ep mesh.vertex_output_type in
    let second = primitive_points settings types infos ep (placed_parts types infos (output_item settings ep VertexOutput mesh.vertex_output_type)) mesh.primitive_output_type in
    refuses_second (read_by fault_of c.check_primitive_output.result) first second c.in_ok-check_vertex_output.ensures.fault c.check_primitive_output.ensures
