use Rattle.std.proofs.Common.{ℕ, ◌<◌, get_or}
use Rattle.check_scope.specs.walk.Table.{IsPutUpTo, scopes, shown}
use Rattle.check_scope.proofs.table.ScopeColumn.last_of.Given as goal

abbrev pub invariant-loop-handle : goal.invariant-loop-handle
invariant-loop-handle l = record {
  taken : l.last < scopes l.self;
  put : (k : ℕ) → k < l.handle-index → IsPutUpTo (shown l.self) l.last (get_or l.handles k 0);
}
