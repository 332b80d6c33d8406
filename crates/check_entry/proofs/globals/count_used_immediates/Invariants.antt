use Rattle.std.proofs.Common.{◌≡◌, ◌≤◌}
use Rattle.check_entry.specs.UsedGlobals.{used_immediates}
use Rattle.check_entry.proofs.globals.count_used_immediates.Given as goal

abbrev pub invariant-loop-index : goal.invariant-loop-index
invariant-loop-index l = record {
  counted : l.count ≡ used_immediates l.info.global_uses l.module.global_variables l.index;
  small : l.count ≤ l.index;
}
