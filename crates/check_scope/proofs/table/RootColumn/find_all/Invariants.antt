use Rattle.std.proofs.Common.{◌≡◌, length}
use Rattle.check_scope.specs.walk.SeenContext.{context_of}
use Rattle.check_scope.specs.walk.Table.{KnowsRoots}
use Rattle.check_scope.proofs.table.RootColumn.find_all.Given as goal

abbrev pub invariant-loop-index : goal.invariant-loop-index
invariant-loop-index l = record {
  count : length l.self.roots.items ≡ l.index;
  roots : KnowsRoots (context_of l.context) l.self;
}
