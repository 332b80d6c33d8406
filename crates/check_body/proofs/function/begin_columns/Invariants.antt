use Rattle.std.proofs.Common.{◌≡◌, ℕ, List, take}
use Rattle.naga_runs.specs.Handles.{no_handles}
use Rattle.check_scope.specs.Context.{if_pre_emitted}
use Rattle.check_scope.specs.Results.{is_to_fill}
use Rattle.check_scope.specs.declared.table.OperandColumn.{OperandColumn}
use Rattle.check_scope.specs.walk.Table.{KnowsOperands, count, filled_in, known, marked, unfilled_in}
use Rattle.check_body.proofs.PreEmitted.{chosen_in}
use Rattle.check_body.proofs.function.begin_columns.Given as goal

abbrev pub invariant-loop-index : goal.invariant-loop-index
invariant-loop-index l = record {
  scope : (known l.scope).scope ≡ chosen_in if_pre_emitted (take l.index l.context.fun.now.expressions);
  must : (known l.scope).must ≡ chosen_in if_pre_emitted (take l.index l.context.fun.now.expressions);
  count : count l.scope ≡ count l.initial.scope;
  filled : filled_in l.filled ≡ no_handles;
  unfilled : unfilled_in l.filled ≡ chosen_in is_to_fill (take l.index l.context.fun.now.expressions);
  marked : marked l.filled ≡ marked l.initial.filled;
  operands : (operands : ℕ → List ℕ) (t : OperandColumn) → KnowsOperands operands t l.initial.scope → KnowsOperands operands t l.scope;
}
