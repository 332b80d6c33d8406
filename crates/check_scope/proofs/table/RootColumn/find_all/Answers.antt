use Rattle.std.proofs.Common.{◌≡◌, ◌+◌, length, subst, sym, ap, ◌∙◌}
use Rattle.check_scope.specs.Roots.{root_at}
use Rattle.check_scope.specs.walk.SeenContext.{context_of}
use Rattle.check_scope.specs.walk.Table.{AreRoots}
use Rattle.check_scope.proofs.Walks.{longer, one_root_more}
use Rattle.check_scope.proofs.table.RootColumn.find_all.Goals as goal

pub loop-index-preserved : goal.loop-index-preserved
loop-index-preserved c =
    let context = context_of c.args.context.now in
    let old = c.loop-index.invariant in
    let roots = c.loop-index.self.roots.items in
    let root = c.next_root-root.result in
    let count = old.count in
    let next : length (c.loop-index.self.roots.items) ≡ c.loop-index.index = count in
    record {
      count = ap length c.in_ok-push.ensures.items ∙ longer roots root ∙ ap (λ n. n + 1) next;
      roots = subst (AreRoots context) (sym c.in_ok-push.ensures.items) (one_root_more context roots root old.roots (c.next_root-root.ensures ∙ ap (root_at context) (c.new-handle.ensures ∙ sym next)));
    }
