-- What the points of RayQuery and TraceRay say where they fail.
use Rattle.std.proofs.Common.{ℕ, [], ◌∷◌, Option}
use Rattle.std.specs.Prelude.{⊤}
use Rattle.ir_statements.specs.Tree.{Use}
use Rattle.ir_statements.specs.View.{query_acts}
use Rattle.ir_statements.specs.declared.operations.RayQueryFunction.{RayQueryFunction}
use Rattle.ir_statements.specs.declared.operations.RayQueryFunction.TheVariants as query
use Rattle.naga_runs.specs.Visits.{VisitPlace}
use Rattle.check_resources.specs.RayQuery.{ray_query_points}
use Rattle.check_resources.specs.RayTrace.{trace_ray_points}
use Rattle.check_scope.specs.Context.{Context}
use Rattle.check_laws.proofs.Refused.{Answered, first_use, second_use, third_use}

module _ (context : Context) (place : VisitPlace) where
  pub ray_query_answered : (q : ℕ) (fun : RayQueryFunction) →
      Answered place.must (query_acts fun) ⊤ (ray_query_points context place q fun)
  ray_query_answered q (query.Initialize a d) = (
    λ e. tt,
    (
      λ e. tt,
      (
        λ e. first_use place.must (Use d ∷ []) a e,
        (
          λ e. tt,
          (
            λ e. tt,
            (λ e. second_use place.must a d [] e, (λ e. tt, tt)),
          ),
        ),
      ),
    ),
  )
  ray_query_answered q (query.Proceed r) = (λ e. tt, (λ e. tt, (λ e. tt, tt)))
  ray_query_answered q (query.GenerateIntersection t) =
      (λ e. tt, (λ e. tt, (λ e. first_use place.must [] t e, (λ e. tt, tt))))
  ray_query_answered q query.ConfirmIntersection = (λ e. tt, (λ e. tt, tt))
  ray_query_answered q query.Terminate = (λ e. tt, (λ e. tt, tt))

  pub trace_ray_answered : (so_far : Option ℕ) (a d p : ℕ) →
      Answered place.must (Use a ∷ Use p ∷ Use d ∷ []) ⊤ (trace_ray_points context so_far place a d p)
  trace_ray_answered so_far a d p = (
    λ e. first_use place.must (Use p ∷ Use d ∷ []) a e,
    (
      λ e. tt,
      (
        λ e. second_use place.must a p (Use d ∷ []) e,
        (
          λ e. tt,
          (
            λ e. tt,
            (
              λ e. tt,
              (
                λ e. tt,
                (λ e. third_use place.must a p d [] e, (λ e. tt, tt)),
              ),
            ),
          ),
        ),
      ),
    ),
  )
