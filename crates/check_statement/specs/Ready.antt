-- What a body is judged under: what it names is there.
use Rattle.std.specs.Prelude.{length}
use Rattle.ir_facts.specs.FitsBody.{StatementFits, BodyFits, CasesFit}
use Rattle.ir_statements.specs.Tree.{Stmt, Body, Cases}
use Rattle.check_scope.specs.Context.{Context}

module _ (context : Context) where
  unfoldable pub IsStatementReady : Stmt → Type 0
  IsStatementReady x = StatementFits context.program (length context.fun.expressions) (length context.earlier.functions) x

  unfoldable pub IsBodyReady : Body → Type 0
  IsBodyReady b = BodyFits context.program (length context.fun.expressions) (length context.earlier.functions) b

  unfoldable pub AreCasesReady : Cases → Type 0
  AreCasesReady cs = CasesFit context.program (length context.fun.expressions) (length context.earlier.functions) cs
