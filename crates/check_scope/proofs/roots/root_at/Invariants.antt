use Rattle.std.proofs.Common.{◌≡◌}
use Rattle.check_scope.specs.walk.SeenContext.{context_of}
use Rattle.check_scope.specs.Roots.{root_at}
use Rattle.check_scope.proofs.roots.root_at.Given as goal

-- the walk from here stops where the whole does
abbrev pub invariant-loop-base : goal.invariant-loop-base
invariant-loop-base l = root_at (context_of l.context) l.handle ≡ root_at (context_of l.context) l.fn.expression

-- it ends, as each base stands before its access
abbrev pub decreases-loop-base : goal.decreases-loop-base
decreases-loop-base l = l.handle
