-- What is named is there: the type of an atomic's result, in a context that fits.
use Rattle.std.proofs.Common.{ℕ, Option, Some, length}
use Rattle.std.specs.Prelude.{IfSome}
use Rattle.ir_types.specs.Types.{NamesTypesBelow}
use Rattle.ir_module.specs.declared.expressions.Expression.{Expression}
use Rattle.ir_module.specs.declared.expressions.Expression.TheVariants as e
use Rattle.check_scope.proofs.InRange.{inner_fits}
use Rattle.check_scope.specs.Context.{Context, ContextFits}
use Rattle.check_scope.specs.ExpressionTypes.{expression_at}
use Rattle.check_memory.specs.Atomic.{result_type_of, result_type_at}

module _ (context : Context) (fits : ContextFits context) where
  pub result_type_fits : (r : ℕ) → IfSome (result_type_at context r) (NamesTypesBelow (length context.program.types))
  result_type_fits r = go (expression_at context r)
    where
      go : (o : Option Expression) → IfSome (result_type_of context.program.types o) (NamesTypesBelow (length context.program.types))
      go (Some (e.AtomicResult ty comparison)) = inner_fits context fits ty
      go _ = tt
