use Rattle.std.proofs.Common.{◌≡◌, length, drop}
use Rattle.naga_module.specs.CodeModule.{Leads}
use Rattle.naga_module.proofs.check.functions.validate_functions.Given as goal

-- what is right of the functions that are left is right of all, and nothing but what ray traces leave changed
abbrev pub invariant-loop-index : goal.invariant-loop-index
invariant-loop-index g l = record {
  place : length l.infos.functions ≡ l.index;
  entries : l.infos.entry_points ≡ l.fn.infos.entry_points;
  kept : l.validator ≡ record l.fn.validator { trace = l.validator.trace };
  leads : Leads (g.B.Below.meaning l.fn.validator.below) l.fn.validator.settings l.fn.validator.types l.module l.fn.validator.trace l.fn.infos l.module.functions l.validator.trace l.infos (drop l.index l.module.functions);
}
