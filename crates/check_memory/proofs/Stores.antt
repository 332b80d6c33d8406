-- What the check list of Store says of uses.
use Rattle.std.proofs.Common.{◌≡◌, ℕ, [], ◌∷◌, None}
use Rattle.ir_statements.specs.Tree.{Use}
use Rattle.naga_runs.specs.Visits.{VisitPlace}
use Rattle.ir_arena.specs.Points.{first_fault}
use Rattle.naga_runs.specs.Soundness.{Fit}
use Rattle.check_scope.specs.Context.{Context}
use Rattle.check_scope.specs.ScopePoints.{may_use, is_in_scope}
use Rattle.check_memory.specs.Store.{store_points}
use Rattle.check_scope.proofs.Flat.{holds_at}

-- its one use is allowed
pub store_fits : (context : Context) (place : VisitPlace) (pointer value : ℕ) → first_fault (store_points context place pointer value) ≡ None → Fit (may_use place) (is_in_scope place) (Use value ∷ [])
store_fits context place pointer value e = (holds_at 1 (store_points context place pointer value) e, tt)
