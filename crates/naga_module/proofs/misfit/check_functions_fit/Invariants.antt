use Rattle.std.proofs.Common.{◌≡◌, drop}
use Rattle.ir_arena.specs.Points.{first_fault, points_from, points_of_each}
use Rattle.naga_module.specs.Misfits.{module_function_points}
use Rattle.naga_module.proofs.misfit.check_functions_fit.Given as goal

-- what is left decides
abbrev pub invariant-loop-place : goal.invariant-loop-place
invariant-loop-place l =
    first_fault (points_from (module_function_points l.«module») l.place (drop l.place l.functions))
    ≡ first_fault (points_of_each (module_function_points l.«module») l.functions)
