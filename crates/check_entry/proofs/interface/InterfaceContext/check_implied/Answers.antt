use Rattle.std.proofs.Common.{rules, ◌≡◌, ◌++◌, None, Option, sym, subst}
use Rattle.ir_facts.specs.declared.proc.mesh.MeshAnalysis.{MeshAnalysis}
use Rattle.ir_errors.specs.declared.mesh.MeshFault.{MeshFault}
use Rattle.check_entry.specs.Mesh.{analysis_points, stated_points, implied_points}
use Rattle.check_entry.specs.EntryAnswers.{EntryPoints}
use Rattle.check_entry.proofs.EntrySteps.{judges_within}
use Rattle.check_entry.proofs.interface.InterfaceContext.check_implied.Goals as goal
use Rattle.ir_facts.specs.Answers.{Answers, FirstOf}

pub returns : goal.returns
returns g c =
    let capabilities = c.args.self.now.settings.capabilities in
    let program = c.args.self.now.program.now in
    let mesh = c.args.mesh.now in
    let analysis = c.in_ok-analysis.analysis in
    let r = c.answer.result in
    let points : EntryPoints = stated_points capabilities program analysis.overrides analysis.implied mesh in
    let none : analysis.fault ≡ None = search rules in
    let met : Answers (FirstOf points) r = search (rules, c.answer.ensures.meets points) in
    let is : analysis ≡ (g.B.Below.meaning c.args.self.now.below.now).mesh_analysis program mesh.output_variable = search rules in
    judges_within r (implied_points capabilities program ((g.B.Below.meaning c.args.self.now.below.now).mesh_analysis program mesh.output_variable) mesh) (subst (λ (a : MeshAnalysis). Answers (FirstOf (implied_points capabilities program a mesh)) r) is (subst (λ (f : Option MeshFault). Answers (FirstOf (analysis_points f ++ points)) r) (sym none) met))
