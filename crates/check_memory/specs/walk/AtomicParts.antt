-- Parts of the check list of Atomic, as the code checks them: work of lemmas, cited by functions that the validator alone calls.
use Rattle.std.specs.Prelude.{ℕ, not, [], ◌∷◌, ◌++◌, Option, is_some}
use Rattle.ir_statements.specs.declared.operations.AtomicFunction.{AtomicFunction}
use Rattle.ir_types.specs.declared.types.AddressSpace.{AddressSpace}
use Rattle.ir_leaves.specs.declared.scalars.Scalar.{Scalar}
use Rattle.ir_errors.specs.declared.function.AtomicError.TheVariants as wrong
use Rattle.naga_runs.specs.Handles.{Handles}
use Rattle.naga_runs.specs.Visits.{VisitPlace}
use Rattle.check_memory.specs.Atomic.{atomic_point, are_equivalent_at, is_exchange_result, is_result_like, is_comparison, scalar_points, atomic_result_points}
use Rattle.check_scope.specs.Context.{Context}
use Rattle.check_scope.specs.ScopePoints.{Points, use_point, put_point}
use Rattle.check_scope.specs.ExpressionTypes.{expression_at}

-- of a compare exchange: what is compared with
abbrev pub compared_points : Context → VisitPlace → ℕ → ℕ → Points
compared_points context place compare value =
    use_point place compare ∷ atomic_point (are_equivalent_at context compare value) (wrong.InvalidOperand compare) ∷ []

-- of a compare exchange: the type of the result, and its put
abbrev pub exchanged_points : Context → VisitPlace → Scalar → ℕ → Points
exchanged_points context place s r =
    atomic_point (is_exchange_result context s r) (wrong.ResultTypeMismatch r)
    ∷ atomic_point (is_comparison (expression_at context r)) (wrong.ResultExpressionNotExchange r)
    ∷ put_point place r
    ∷ []

-- of any other operation: the type of the result, and its put
abbrev pub uncompared_points : Context → VisitPlace → ℕ → ℕ → Points
uncompared_points context place value r =
    atomic_point (is_result_like context r value) (wrong.ResultTypeMismatch r)
    ∷ atomic_point (not (is_comparison (expression_at context r))) (wrong.ResultExpressionExchange r)
    ∷ put_point place r
    ∷ []

-- what the scalar asks for, and the result
abbrev pub operated_points : Context → Handles → VisitPlace → Scalar → AddressSpace → AtomicFunction → ℕ → Option ℕ → Points
operated_points context filled place s p fun value result =
    scalar_points context.settings.capabilities s p fun (is_some result)
    ++ atomic_result_points context filled place s fun value result
