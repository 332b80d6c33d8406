use Rattle.std.proofs.Common.{◌≡◌, drop}
use Rattle.std.specs.Prelude.{map}
use Rattle.ir_arena.specs.Points.{first_fault}
use Rattle.check_scope.specs.ScopePoints.{use_point}
use Rattle.check_scope.specs.walk.Place.{place_at}
use Rattle.check_scope.specs.walk.Table.{known}
use Rattle.check_flow.proofs.emit.check_listed.Given as goal

-- what is left decides
abbrev pub invariant-loop-index : goal.invariant-loop-index
invariant-loop-index l =
    first_fault (map (use_point (place_at (known l.scope))) (drop l.index l.operands)) ≡ first_fault (map (use_point (place_at (known l.scope))) l.operands)
