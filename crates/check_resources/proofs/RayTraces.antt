-- The check list of TraceRay: what it says of uses.
use Rattle.std.proofs.Common.{◌≡◌, ℕ, Option, None}
use Rattle.ir_arena.specs.Points.{first_fault}
use Rattle.ir_statements.specs.View.{pipeline_acts}
use Rattle.ir_statements.specs.declared.operations.RayPipelineFunction.TheVariants.{TraceRay}
use Rattle.naga_runs.specs.Soundness.{Fit}
use Rattle.naga_runs.specs.Visits.{VisitPlace}
use Rattle.check_scope.specs.Context.{Context}
use Rattle.check_scope.specs.ScopePoints.{may_use, is_in_scope}
use Rattle.check_resources.specs.RayTrace.{trace_ray_points}
use Rattle.check_scope.proofs.Flat.{holds_at}

-- its uses are allowed
pub trace_ray_fits : (context : Context) (so_far : Option ℕ) (place : VisitPlace) (a d p : ℕ) → first_fault (trace_ray_points context so_far place a d p) ≡ None → Fit (may_use place) (is_in_scope place) (pipeline_acts (TraceRay a d p))
trace_ray_fits context so_far place a d p e =
    let points = trace_ray_points context so_far place a d p in
    (holds_at 0 points e, (holds_at 2 points e, (holds_at 7 points e, tt)))
