use Rattle.std.proofs.Common.{rules, ◌++◌, sym, subst}
use Rattle.ir_arena.specs.Points.{within}
use Rattle.check_entry.specs.EntryFaults.{fault_of}
use Rattle.check_entry.specs.Mesh.{variable_points, implied_points, mesh_points}
use Rattle.check_entry.specs.EntryVaryings.{outputs_points}
use Rattle.ir_facts.proofs.Refusals.{refuses_first, refuses_second, stays_refused}
use Rattle.check_entry.proofs.interface.InterfaceContext.check_mesh.Goals as goal
use Rattle.ir_facts.specs.Answers.{Answers, FirstOf, read_by}

pub returns-in_err-answer : goal.returns-in_err-answer
returns-in_err-answer g c =
    let below = g.B.Below.meaning c.args.self.now.below.now in
    let settings = c.args.self.now.settings in
    let infos = c.args.self.now.infos.now in
    let program = c.args.self.now.program.now in
    let ep = c.args.self.now.entry_point.now in
    let mesh = c.in-Some.mesh in
    let r = c.from_residual.result in
    let first = variable_points program mesh in
    let second = within fault_of (implied_points settings.capabilities program (below.mesh_analysis program mesh.output_variable) mesh) in
    let third = outputs_points settings program.types infos ep mesh.vertex_output_type mesh.primitive_output_type in
    let here : Answers (FirstOf (within fault_of first)) (read_by fault_of r) = search (rules, c.answer.ensures.judges first c.check_variable.ensures) in
    subst (λ m. Answers (FirstOf (mesh_points below settings infos program ep m)) (read_by fault_of r)) (sym c.in-Some.is) (refuses_first (read_by fault_of r) (within fault_of first) (second ++ third) (stays_refused fault_of r (search rules)) here)

pub returns-in_err-check_implied : goal.returns-in_err-check_implied
returns-in_err-check_implied g c =
    let below = g.B.Below.meaning c.args.self.now.below.now in
    let settings = c.args.self.now.settings in
    let infos = c.args.self.now.infos.now in
    let program = c.args.self.now.program.now in
    let ep = c.args.self.now.entry_point.now in
    let mesh = c.in-Some.mesh in
    let r = c.from_residual-in_err-check_implied.result in
    let first = variable_points program mesh in
    let second = implied_points settings.capabilities program (below.mesh_analysis program mesh.output_variable) mesh in
    let third = outputs_points settings program.types infos ep mesh.vertex_output_type mesh.primitive_output_type in
    let none = c.in_ok-answer.ensures.judges first c.check_variable.ensures in
    let here : Answers (FirstOf (within fault_of second)) (read_by fault_of r) = search (rules, c.check_implied.ensures) in
    subst (λ m. Answers (FirstOf (mesh_points below settings infos program ep m)) (read_by fault_of r)) (sym c.in-Some.is) (refuses_second (read_by fault_of r) (within fault_of first) (within fault_of second ++ third) none (refuses_first (read_by fault_of r) (within fault_of second) third (stays_refused fault_of r (search rules)) here))

pub returns : goal.returns
returns g c =
    let below = g.B.Below.meaning c.args.self.now.below.now in
    let settings = c.args.self.now.settings in
    let infos = c.args.self.now.infos.now in
    let program = c.args.self.now.program.now in
    let ep = c.args.self.now.entry_point.now in
    let mesh = c.in-Some.mesh in
    let r = c.check_outputs.result in
    let first = variable_points program mesh in
    let second = implied_points settings.capabilities program (below.mesh_analysis program mesh.output_variable) mesh in
    let third = outputs_points settings program.types infos ep mesh.vertex_output_type mesh.primitive_output_type in
    let none = c.in_ok-answer.ensures.judges first c.check_variable.ensures in
    let none_implied = c.in_ok-check_implied.ensures in
    subst (λ m. Answers (FirstOf (mesh_points below settings infos program ep m)) (read_by fault_of r)) (sym c.in-Some.is) (refuses_second (read_by fault_of r) (within fault_of first) (within fault_of second ++ third) none (refuses_second (read_by fault_of r) (within fault_of second) third none_implied c.check_outputs.ensures))
