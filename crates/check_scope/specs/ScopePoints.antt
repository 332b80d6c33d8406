-- Check points: what must hold where a statement stands, and the fault where it does not.
use Rattle.std.specs.Prelude.{ℕ, not, List}
use Rattle.ir_errors.specs.declared.expression.ExpressionError.TheVariants.{NotInScope}
use Rattle.ir_errors.specs.declared.function.FunctionError.{FunctionError}
use Rattle.ir_errors.specs.declared.function.FunctionError.TheVariants.{Expression, ExpressionAlreadyInScope}
use Rattle.naga_runs.specs.Handles.{Handles}
use Rattle.naga_runs.specs.Visits.{VisitPlace}
use Rattle.ir_arena.specs.Points.{Point}

abbrev pub Points : Type 0
Points = List (Point FunctionError)

-- what may be used at a place: what every run has put where it comes there
abbrev pub may_use : VisitPlace → Handles
may_use place = place.must

-- what is in scope there, and so cannot be put
abbrev pub is_in_scope : VisitPlace → Handles
is_in_scope place = place.scope

-- a use: the handle may be used
abbrev pub use_point : VisitPlace → ℕ → Point FunctionError
use_point place h = (may_use place h, Expression h NotInScope)

-- a put: the handle is not in scope yet
abbrev pub put_point : VisitPlace → ℕ → Point FunctionError
put_point place h = (not (is_in_scope place h), ExpressionAlreadyInScope h)
