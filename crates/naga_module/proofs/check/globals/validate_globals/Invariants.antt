use Rattle.std.proofs.Common.{◌≡◌, drop}
use Rattle.ir_arena.specs.Points.{first_fault, points_from, points_of_each}
use Rattle.naga_module.specs.ModuleJudgement.{points_of_global}
use Rattle.naga_module.proofs.check.globals.validate_globals.Given as goal

-- what is left decides
abbrev pub invariant-loop-index : goal.invariant-loop-index
invariant-loop-index g l =
    first_fault (points_from (points_of_global (g.B.Below.meaning l.validator.below) l.validator.settings l.validator.types l.module l.infos) l.index (drop l.index l.module.global_variables))
    ≡ first_fault (points_of_each (points_of_global (g.B.Below.meaning l.validator.below) l.validator.settings l.validator.types l.module l.infos) l.module.global_variables)
