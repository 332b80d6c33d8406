use Rattle.std.proofs.Common.{rules, ◌≡◌, ◌+◌, ℕ, suc, Bool, sym, ap, ◌∙◌, arith}
use Rattle.std.specs.Prelude.{if◌then◌else◌}
use Rattle.check_entry.specs.UsedGlobals.{global_points, is_used_immediate, used_immediates}
use Rattle.check_entry.proofs.EntrySteps.{each_goes_on}
use Rattle.check_entry.proofs.UsedGlobals.{at_most_one}
use Rattle.check_entry.proofs.interface.InterfaceContext.used_globals_hold.Goals as goal

pub loop-index-preserved : goal.loop-index-preserved
loop-index-preserved g c =
    let uses = c.args.self.now.info.now.global_uses in
    let points = global_points (g.B.Below.meaning c.args.self.now.below.now) c.args.self.now.settings.flags c.args.self.now.program.now c.args.self.now.entry_point.now uses in
    let globals = c.as_slice-globals.result.now in
    let i = c.loop-index.index in
    let one = c.is_used_immediate-is_one.result in
    let so_far = used_immediates uses globals i in
    let is : one ≡ is_used_immediate uses globals i = c.is_used_immediate-is_one.ensures ∙ ap (λ gs. is_used_immediate uses gs i) (sym c.as_slice-globals.ensures) in
    let next : suc i ≡ i + 1 = omega arith in
    record {
      faults = each_goes_on points globals i c.index-globals-index.result (search rules) (search rules) c.loop-index.invariant.faults (c.used_global_holds.ensures (search rules));
      taken = search rules;
      counted =
          c.with_one-immediates.ensures
          ∙ ap (λ (n : ℕ). n + (if one then 1 else 0)) c.loop-index.invariant.counted
          ∙ ap (λ (b : Bool). so_far + (if b then 1 else 0)) is
          ∙ ap (used_immediates uses globals) next;
      small = omega (arith, c.with_one-immediates.ensures, c.loop-index.invariant.small, at_most_one one);
    }
