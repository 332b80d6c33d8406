use Rattle.std.proofs.Common.{◌≡◌}
use Rattle.check_scope.specs.walk.SeenContext.{context_of}
use Rattle.check_scope.specs.Roots.{root_at}
use Rattle.check_scope.proofs.table.RootColumn.root_at.Given as goal

-- the walk from here stops where the whole does
abbrev pub invariant-loop-step : goal.invariant-loop-step
invariant-loop-step l = root_at (context_of l.context) l.handle ≡ root_at (context_of l.context) l.fn.expression
