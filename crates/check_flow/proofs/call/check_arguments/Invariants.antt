use Rattle.std.proofs.Common.{◌≡◌, drop}
use Rattle.ir_arena.specs.Points.{first_fault, within}
use Rattle.ir_errors.specs.declared.function.FunctionError.TheVariants.{InvalidCall}
use Rattle.check_flow.specs.Call.{passed_points_from}
use Rattle.check_scope.specs.walk.Place.{place_at}
use Rattle.check_scope.specs.walk.SeenContext.{context_of}
use Rattle.check_scope.specs.walk.Table.{known}
use Rattle.check_flow.proofs.call.check_arguments.Given as goal

-- what is left decides
abbrev pub invariant-loop-index : goal.invariant-loop-index
invariant-loop-index l =
    first_fault (within (InvalidCall l.site.function) (passed_points_from (context_of l.context) (place_at (known l.scope)) l.index (drop l.index l.declared) (drop l.index l.given))) ≡ first_fault (within (InvalidCall l.site.function) (passed_points_from (context_of l.context) (place_at (known l.scope)) 0 l.declared l.given))
