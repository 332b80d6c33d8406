-- What is kept of the operands of an expression, whether there was memory for it or not.
use Rattle.std.proofs.Common.{◌≡◌, ◌<◌, ◌==◌, ℕ, List, OnOk, Result, Ok, Err}
use Rattle.std.specs.Prelude.{OnErr, if◌then◌else◌}
use Rattle.check_scope.specs.declared.table.OperandColumn.{OperandColumn}
use Rattle.check_scope.specs.declared.table.ScopeColumn.{ScopeColumn}
use Rattle.check_scope.specs.walk.Table.{ArePutUpTo, KnowsOperands, kept_at, scopes, shown}
use Rattle.check_scope.proofs.Operands.{kept_operands, same_operands}

pub kept_unless_refused : {T E : Type 0} {operands : ℕ → List ℕ} {t : OperandColumn} {scope : ScopeColumn} → KnowsOperands operands t scope → (u : OperandColumn) (h number : ℕ) → number < scopes scope → ArePutUpTo (shown scope) number (operands h) → (r : Result T E) → OnOk r ((j : ℕ) → kept_at u j ≡ (if j == h then number else kept_at t j)) → OnErr r ((j : ℕ) → kept_at u j ≡ kept_at t j) → KnowsOperands operands u scope
kept_unless_refused k u h number lt put (Ok x) ok err = kept_operands k u h number lt put ok
kept_unless_refused k u h number lt put (Err e) ok err = same_operands k u err
