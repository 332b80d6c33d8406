use Rattle.std.proofs.Common.{◌≡◌, length, drop}
use Rattle.naga_module.specs.CodeModule.{EntriesLead}
use Rattle.naga_module.proofs.check.entries.validate_entry_points.Given as goal

-- what is right of the entry points that are left is right of all, and nothing but what ray traces leave changed
abbrev pub invariant-loop-index : goal.invariant-loop-index
invariant-loop-index g l = record {
  place : length l.infos.entry_points ≡ l.index;
  kept : l.validator ≡ record l.fn.validator { trace = l.validator.trace };
  leads : EntriesLead (g.B.Below.meaning l.fn.validator.below) l.fn.validator.settings l.fn.validator.types l.module l.fn.validator.trace l.fn.infos l.module.entry_points l.validator.trace l.infos (drop l.index l.module.entry_points);
}
