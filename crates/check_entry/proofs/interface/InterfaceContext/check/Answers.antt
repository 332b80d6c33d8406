use Rattle.std.proofs.Common.{rules}
use Rattle.check_entry.proofs.InterfaceSteps.{at_arguments, at_globals, at_mesh, at_result, at_stage}
use Rattle.check_entry.proofs.interface.InterfaceContext.check.Goals as goal

pub returns-in_err-check_stage : goal.returns-in_err-check_stage
returns-in_err-check_stage g c =
    let below = g.B.Below.meaning c.args.self.now.below.now in
    let settings = c.args.self.now.settings in
    let infos = c.args.self.now.infos.now in
    let program = c.args.self.now.program.now in
    let ep = c.args.self.now.entry_point.now in
    let info = c.args.self.now.info.now in
    at_stage below settings infos program ep info c.from_residual.result (search rules) (search (rules, c.check_stage.ensures))

pub returns-in_err-check_arguments : goal.returns-in_err-check_arguments
returns-in_err-check_arguments g c =
    let below = g.B.Below.meaning c.args.self.now.below.now in
    let settings = c.args.self.now.settings in
    let infos = c.args.self.now.infos.now in
    let program = c.args.self.now.program.now in
    let ep = c.args.self.now.entry_point.now in
    let info = c.args.self.now.info.now in
    at_arguments below settings infos program ep info c.from_residual-in_err-check_arguments.result c.in_ok-check_stage.ensures (search rules)
    (search (rules, c.check_arguments.ensures))

pub returns-in_err-check_result : goal.returns-in_err-check_result
returns-in_err-check_result g c =
    let below = g.B.Below.meaning c.args.self.now.below.now in
    let settings = c.args.self.now.settings in
    let infos = c.args.self.now.infos.now in
    let program = c.args.self.now.program.now in
    let ep = c.args.self.now.entry_point.now in
    let info = c.args.self.now.info.now in
    at_result below settings infos program ep info c.from_residual-in_err-check_result.result c.in_ok-check_stage.ensures c.in_ok-check_arguments.ensures
    (search rules) (search (rules, c.check_result.ensures))

pub returns-in_err-check_used_globals : goal.returns-in_err-check_used_globals
returns-in_err-check_used_globals g c =
    let below = g.B.Below.meaning c.args.self.now.below.now in
    let settings = c.args.self.now.settings in
    let infos = c.args.self.now.infos.now in
    let program = c.args.self.now.program.now in
    let ep = c.args.self.now.entry_point.now in
    let info = c.args.self.now.info.now in
    at_globals below settings infos program ep info c.from_residual-in_err-check_used_globals.result c.in_ok-check_stage.ensures c.in_ok-check_arguments.ensures
    c.in_ok-check_result.ensures (search rules) (search (rules, c.check_used_globals.ensures))

pub returns : goal.returns
returns g c =
    let below = g.B.Below.meaning c.args.self.now.below.now in
    let settings = c.args.self.now.settings in
    let infos = c.args.self.now.infos.now in
    let program = c.args.self.now.program.now in
    let ep = c.args.self.now.entry_point.now in
    let info = c.args.self.now.info.now in
    at_mesh below settings infos program ep info c.check_mesh.result c.in_ok-check_stage.ensures c.in_ok-check_arguments.ensures
    c.in_ok-check_result.ensures c.in_ok-check_used_globals.ensures c.check_mesh.ensures
