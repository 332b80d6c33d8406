-- The check list of Atomic: what it says of uses and puts.
use Rattle.std.proofs.Common.{◌≡◌, ℕ, true, false, ◌∷◌, Option, None, Some, refl}
use Rattle.std.specs.Prelude.{IfSome, is_some}
use Rattle.ir_arena.proofs.Points.{both_hold, not_holds}
use Rattle.ir_arena.specs.Points.{first_fault}
use Rattle.ir_statements.specs.Tree.{Use}
use Rattle.ir_statements.specs.View.{atomic_acts, put_if}
use Rattle.ir_statements.specs.declared.operations.AtomicFunction.{AtomicFunction}
use Rattle.ir_statements.specs.declared.operations.AtomicFunction.TheVariants.{Exchange}
use Rattle.ir_leaves.specs.declared.scalars.Scalar.{Scalar}
use Rattle.naga_runs.specs.Handles.{Handles}
use Rattle.naga_runs.specs.Soundness.{Fit}
use Rattle.naga_runs.specs.Visits.{VisitPlace}
use Rattle.check_memory.specs.Atomic.{atomic_scalar, atomic_space, scalar_points, is_atomic_result, atomic_result_points, atomic_points}
use Rattle.check_scope.specs.Context.{Context}
use Rattle.naga_runs.specs.PutsAndUses.{puts_of}
use Rattle.check_scope.specs.ScopePoints.{may_use, is_in_scope}
use Rattle.check_scope.specs.Results.{is_fresh}
use Rattle.check_scope.specs.ExpressionTypes.{expression_at}
use Rattle.check_scope.proofs.Flat.{holds_at, holds_behind}

-- what holds of a result that is named
pub record NamedHolds (context : Context) (filled : Handles) (place : VisitPlace) (r : ℕ) : Type 0 where
  pub kind : is_atomic_result (expression_at context r) ≡ true
  pub fresh : is_fresh context filled r ≡ true
  pub new : is_in_scope place r ≡ false

module _ (context : Context) (filled : Handles) (place : VisitPlace) (s : Scalar) (value : ℕ) where
  result_holds : (fun : AtomicFunction) (named : Option ℕ) → first_fault (atomic_result_points context filled place s fun value named) ≡ None →
      IfSome named (NamedHolds context filled place) × Fit (may_use place) (is_in_scope place) (atomic_acts fun named)
  result_holds fun None e = (tt, tt)
  result_holds (Exchange (Some c)) (Some r) e =
      let points = atomic_result_points context filled place s (Exchange (Some c)) value (Some r) in
      let new = not_holds (is_in_scope place r) (holds_at 6 points e) in
      (record { kind = holds_at 0 points e; fresh = holds_at 1 points e; new = new }, (holds_at 2 points e, (new, tt)))
  result_holds fun (Some r) e =
      let points = atomic_result_points context filled place s fun value (Some r) in
      let new = not_holds (is_in_scope place r) (holds_at 4 points e) in
      (record { kind = holds_at 0 points e; fresh = holds_at 1 points e; new = new }, (new, tt))

module _ (context : Context) (filled : Handles) (place : VisitPlace) (pointer : ℕ) (fun : AtomicFunction) (value : ℕ) (named : Option ℕ) (e : first_fault (atomic_points context filled place pointer fun value named) ≡ None) where
  all_hold : IfSome named (NamedHolds context filled place) × Fit (may_use place) (is_in_scope place) (Use pointer ∷ Use value ∷ atomic_acts fun named)
  all_hold =
      let points = atomic_points context filled place pointer fun value named in
      let s = atomic_scalar context pointer in
      let scalars = scalar_points context.settings.capabilities s (atomic_space context pointer) fun (is_some named) in
      let both = both_hold scalars (atomic_result_points context filled place s fun value named) (holds_behind 4 points e) in
      let holds = result_holds context filled place s value fun named both.1 in
      (holds.0, (holds_at 0 points e, (holds_at 2 points e, holds.1)))

  pub atomic_named : IfSome named (NamedHolds context filled place)
  atomic_named = all_hold.0

  pub atomic_fits : Fit (may_use place) (is_in_scope place) (Use pointer ∷ Use value ∷ atomic_acts fun named)
  atomic_fits = all_hold.1

-- a result that is named is not in scope before
pub atomic_is_new : (context : Context) (filled : Handles) (place : VisitPlace) (named : Option ℕ) → IfSome named (NamedHolds context filled place) → IfSome named (λ r. is_in_scope place r ≡ false)
atomic_is_new context filled place None h = tt
atomic_is_new context filled place (Some r) h = h.new

-- the uses of an Atomic put nothing
pub atomic_puts : (fun : AtomicFunction) (named : Option ℕ) → puts_of (atomic_acts fun named) ≡ puts_of (put_if named)
atomic_puts fun None = refl
atomic_puts (Exchange (Some c)) (Some r) = refl
atomic_puts fun (Some r) = refl
