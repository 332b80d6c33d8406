-- The check list of CooperativeStore: what it says of uses.
use Rattle.std.proofs.Common.{◌≡◌, ℕ, [], ◌∷◌, None}
use Rattle.ir_arena.specs.Points.{first_fault}
use Rattle.ir_statements.specs.Tree.{Use}
use Rattle.naga_runs.specs.Soundness.{Fit}
use Rattle.naga_runs.specs.Visits.{VisitPlace}
use Rattle.check_scope.specs.Context.{Context}
use Rattle.check_memory.specs.Cooperative.{cooperative_points}
use Rattle.check_scope.specs.ScopePoints.{may_use, is_in_scope}
use Rattle.check_scope.proofs.Flat.{holds_at}

-- its one use is allowed
pub cooperative_fits : (context : Context) (place : VisitPlace) (target pointer : ℕ) → first_fault (cooperative_points context place target pointer) ≡ None → Fit (may_use place) (is_in_scope place) (Use target ∷ [])
cooperative_fits context place target pointer e = (holds_at 0 (cooperative_points context place target pointer) e, tt)
