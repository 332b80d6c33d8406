use Rattle.std.proofs.Common.{rules, ◌≡◌, subst, None}
use Rattle.ir_arena.specs.Points.{first_fault, points_of_each}
use Rattle.check_entry.specs.UsedGlobals.{global_points}
use Rattle.check_entry.proofs.EntrySteps.{each_meets, each_goes_on}
use Rattle.check_entry.proofs.interface.InterfaceContext.check_each_used_global.Goals as goal
use Rattle.ir_facts.specs.Answers.{Answers, FirstOf}

pub returns-in_err-answer : goal.returns-in_err-answer
returns-in_err-answer g c =
    let points = global_points (g.B.Below.meaning c.args.self.now.below.now) c.args.self.now.settings.flags c.args.self.now.program.now c.args.self.now.entry_point.now c.args.self.now.info.now.global_uses in
    let x = c.index-globals-index.result in
    let r = c.from_residual.result in
    let met = c.in_err-answer.ensures.meets (points c.new-handle.result x) c.check_used_global-checked.ensures in
    let here : Answers (FirstOf (points c.new-handle.result x)) r = search (rules, met) in
    subst (λ xs. Answers (FirstOf (points_of_each points xs)) r) c.as_slice-globals.ensures (each_meets points c.as_slice-globals.result.now c.loop-index.index r x (search rules) (search rules) c.loop-index.invariant.faults (search rules) (subst (λ h. Answers (FirstOf (points h x)) r) c.new-handle.ensures here))

pub loop-index-preserved : goal.loop-index-preserved
loop-index-preserved g c =
    let points = global_points (g.B.Below.meaning c.args.self.now.below.now) c.args.self.now.settings.flags c.args.self.now.program.now c.args.self.now.entry_point.now c.args.self.now.info.now.global_uses in
    let x = c.index-globals-index.result in
    let met = c.in_ok-answer.ensures.meets (points c.new-handle.result x) c.check_used_global-checked.ensures in
    record {
      faults = each_goes_on points c.as_slice-globals.result.now c.loop-index.index x (search rules) (search rules) c.loop-index.invariant.faults (subst (λ h. first_fault (points h x) ≡ None) c.new-handle.ensures met);
      taken = search rules;
    }
