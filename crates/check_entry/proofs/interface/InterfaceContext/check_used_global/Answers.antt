use Rattle.std.proofs.Common.{rules, ◌≡◌, ◌==◌, false, [], Some, None, slice_get, sym}
use Rattle.ir_arena.specs.Points.{first_fault}
use Rattle.check_entry.specs.UsedGlobals.{binding_points, use_points}
use Rattle.check_entry.proofs.EntryGlobals.{use_refused, binding_decides}
use Rattle.check_entry.proofs.interface.InterfaceContext.check_used_global.Goals as goal
use Rattle.ir_facts.specs.Answers.{Finds, FirstOf}

pub returns-in_err-check_use : goal.returns-in_err-check_use
returns-in_err-check_use g c =
    let is : slice_get c.args.self.now.info.now.global_uses c.args.handle ≡ Some c.in-Some.uses = search rules in
    let some : (c.in-Some.uses.0 == 0) ≡ false = search rules in
    use_refused (g.B.Below.meaning c.args.self.now.below.now) c.args.self.now.settings.flags c.args.self.now.program.now c.args.self.now.entry_point.now c.args.self.now.info.now.global_uses c.args.handle c.args.var.now c.in-Some.uses is some c.from_residual.result (search rules) (search rules)

pub returns : goal.returns
returns g c =
    let is : slice_get c.args.self.now.info.now.global_uses c.args.handle ≡ Some c.in-Some.uses = search rules in
    let some : (c.in-Some.uses.0 == 0) ≡ false = search rules in
    let none : first_fault (use_points (g.B.Below.meaning c.args.self.now.below.now) c.args.self.now.settings.flags c.args.self.now.program.now c.args.self.now.entry_point.now [] c.args.handle c.args.var.now c.in-Some.uses) ≡ None = sym c.in_ok-check_use.ensures in
    let found = c.check_binding.ensures c.args.self.now.info.now.global_uses c.args.self.now.program.now.global_variables c.requires.taken in
    let bound : Finds (FirstOf (binding_points c.args.self.now.settings.flags c.args.self.now.info.now.global_uses c.args.self.now.program.now.global_variables c.args.handle c.args.var.now.binding)) c.check_binding.result = search (rules, found) in
    binding_decides (g.B.Below.meaning c.args.self.now.below.now) c.args.self.now.settings.flags c.args.self.now.program.now c.args.self.now.entry_point.now c.args.self.now.info.now.global_uses c.args.handle c.args.var.now c.in-Some.uses is some c.check_binding.result none bound
