use Rattle.std.proofs.Common.{rules, ◌∙◌, false, Bool, subst}
use Rattle.ir_arena.specs.Points.{within}
use Rattle.ir_leaves.specs.declared.built_in.BuiltIn.TheVariants.{Position}
use Rattle.check_entry.specs.EntryFaults.{fault_of}
use Rattle.check_entry.specs.EntryVaryings.{declared_points, has_built_in, result_parts, returned_points}
use Rattle.ir_facts.proofs.Refusals.{refuses_first, refuses_second, stays_refused}
use Rattle.check_entry.proofs.interface.InterfaceContext.check_result.Goals as goal
use Rattle.ir_facts.specs.Answers.{Answers, FirstOf, read_by}

pub returns-in_err-check_declared : goal.returns-in_err-check_declared
returns-in_err-check_declared g c =
    let infos = c.args.self.now.infos.now in
    let types = c.args.self.now.program.now.types in
    let ep = c.args.self.now.entry_point.now in
    let r = c.from_residual.result in
    let first = declared_points c.args.self.now.settings types infos ep ep.function.result in
    let position = has_built_in (Position false) (result_parts types infos ep.function.result) in
    let second = within fault_of (returned_points types ep.stage position ep.function.result) in
    let here : Answers (FirstOf first) (read_by fault_of r) = search (rules, c.check_declared.ensures.fault) in
    refuses_first (read_by fault_of r) first second (stays_refused fault_of r (search rules)) here

pub returns : goal.returns
returns g c =
    let infos = c.args.self.now.infos.now in
    let types = c.args.self.now.program.now.types in
    let ep = c.args.self.now.entry_point.now in
    let r = c.check_returned.result in
    let first = declared_points c.args.self.now.settings types infos ep ep.function.result in
    let position = has_built_in (Position false) (result_parts types infos ep.function.result) in
    let points = returned_points types ep.stage position ep.function.result in
    let same = c.has_built_in-position.ensures ∙ c.in_ok-check_declared.ensures.seen in
    let found = subst (λ (b : Bool). Answers (FirstOf (within fault_of (returned_points types ep.stage b ep.function.result))) (read_by fault_of r)) same c.check_returned.ensures in
    refuses_second (read_by fault_of r) first (within fault_of points) c.in_ok-check_declared.ensures.fault found
