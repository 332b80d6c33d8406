use Rattle.std.proofs.Common.{rules, ◌++◌}
use Rattle.check_entry.specs.UsedGlobals.{immediate_points, global_points}
use Rattle.ir_arena.specs.Points.{points_of_each}
use Rattle.check_entry.proofs.EntrySteps.{judges_within}
use Rattle.ir_facts.proofs.Refusals.{refuses_first, refuses_second}
use Rattle.check_entry.proofs.interface.InterfaceContext.first_fault_of_used_globals.Goals as goal
use Rattle.ir_facts.specs.Answers.{Answers, FirstOf}

pub returns-in_err-answer : goal.returns-in_err-answer
returns-in_err-answer g c =
    let uses = c.args.self.now.info.now.global_uses in
    let globals = c.args.self.now.program.now.global_variables in
    let each = points_of_each (global_points (g.B.Below.meaning c.args.self.now.below.now) c.args.self.now.settings.flags c.args.self.now.program.now c.args.self.now.entry_point.now uses) globals in
    let met = c.in_err-answer.ensures.meets (immediate_points uses globals) c.check_immediates.ensures in
    let r = c.from_residual.result in
    let here : Answers (FirstOf (immediate_points uses globals)) r = search (rules, met) in
    judges_within r (immediate_points uses globals ++ each) (refuses_first r (immediate_points uses globals) each (search rules) here)

pub returns : goal.returns
returns g c =
    let uses = c.args.self.now.info.now.global_uses in
    let globals = c.args.self.now.program.now.global_variables in
    let each = points_of_each (global_points (g.B.Below.meaning c.args.self.now.below.now) c.args.self.now.settings.flags c.args.self.now.program.now c.args.self.now.entry_point.now uses) globals in
    let met = c.in_ok-answer.ensures.meets (immediate_points uses globals) c.check_immediates.ensures in
    judges_within c.check_each_used_global.result (immediate_points uses globals ++ each) (refuses_second c.check_each_used_global.result (immediate_points uses globals) each met c.check_each_used_global.ensures)
