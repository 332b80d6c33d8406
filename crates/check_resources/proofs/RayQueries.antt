-- The check list of RayQuery: what it says of uses and puts.
use Rattle.std.proofs.Common.{◌≡◌, ℕ, Bool, false, None}
use Rattle.ir_arena.proofs.Points.{not_holds}
use Rattle.ir_arena.specs.Points.{first_fault}
use Rattle.ir_statements.specs.View.{query_acts}
use Rattle.ir_statements.specs.declared.operations.RayQueryFunction.{RayQueryFunction}
use Rattle.ir_statements.specs.declared.operations.RayQueryFunction.TheVariants as query
use Rattle.naga_runs.specs.Soundness.{Fit}
use Rattle.naga_runs.specs.Visits.{VisitPlace}
use Rattle.check_scope.specs.Context.{Context}
use Rattle.check_scope.specs.ScopePoints.{may_use, is_in_scope}
use Rattle.check_resources.specs.RayQuery.{is_set, query_flag_at, query_function_points, ray_query_points}
use Rattle.check_scope.proofs.Flat.{holds_at, holds_behind}

module _ (context : Context) (place : VisitPlace) where
  function_fits : (q : ℕ) (flag : Bool) (fun : RayQueryFunction) → first_fault (query_function_points context place q flag fun) ≡ None → Fit (may_use place) (is_in_scope place) (query_acts fun)
  function_fits q flag (query.Initialize a d) e =
      let points = query_function_points context place q flag (query.Initialize a d) in
      (holds_at 0 points e, (holds_at 3 points e, tt))
  function_fits q flag (query.Proceed r) e =
      (not_holds (is_in_scope place r) (holds_at 0 (query_function_points context place q flag (query.Proceed r)) e), tt)
  function_fits q flag (query.GenerateIntersection t) e =
      (holds_at 0 (query_function_points context place q flag (query.GenerateIntersection t)) e, tt)
  function_fits q flag query.ConfirmIntersection e = tt
  function_fits q flag query.Terminate e = tt

  -- its uses are allowed, and what it puts is not in scope
  pub ray_query_fits : (q : ℕ) (fun : RayQueryFunction) → first_fault (ray_query_points context place q fun) ≡ None → Fit (may_use place) (is_in_scope place) (query_acts fun)
  ray_query_fits q fun e =
      function_fits q (is_set (query_flag_at context q)) fun (holds_behind 2 (ray_query_points context place q fun) e)

  pub proceed_is_new : (q r : ℕ) → first_fault (ray_query_points context place q (query.Proceed r)) ≡ None → is_in_scope place r ≡ false
  proceed_is_new q r e = (ray_query_fits q (query.Proceed r) e).0
