-- The check list of WorkGroupUniformLoad: what it says of uses and puts.
use Rattle.std.proofs.Common.{◌≡◌, ℕ, true, false, [], ◌∷◌, None}
use Rattle.ir_arena.proofs.Points.{not_holds}
use Rattle.ir_arena.specs.Points.{first_fault}
use Rattle.ir_statements.specs.Tree.{Use, Put}
use Rattle.naga_runs.specs.Soundness.{Fit}
use Rattle.naga_runs.specs.Visits.{VisitPlace}
use Rattle.check_scope.specs.Context.{Context}
use Rattle.check_memory.specs.Load.{load_points}
use Rattle.check_scope.specs.ScopePoints.{may_use, is_in_scope}
use Rattle.check_scope.proofs.Flat.{holds_at}

-- its use is allowed, and its put is not in scope
module _ (context : Context) (place : VisitPlace) (pointer r : ℕ) (e : first_fault (load_points context place pointer r) ≡ None) where
  pub load_is_allowed : (may_use place pointer ≡ true) × (is_in_scope place r ≡ false)
  load_is_allowed =
      let points = load_points context place pointer r in
      (holds_at 0 points e, not_holds (is_in_scope place r) (holds_at 2 points e))

  pub load_fits : Fit (may_use place) (is_in_scope place) (Use pointer ∷ Put r ∷ [])
  load_fits = (load_is_allowed.0, (load_is_allowed.1, tt))
