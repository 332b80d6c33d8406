use Rattle.std.proofs.Common.{◌≡◌, get_or, ap, ◌∙◌, arith}
use Rattle.std.proofs.lemmas.List.{get_or_default}
use Rattle.check_scope.specs.walk.Table.{scopes}
use Rattle.check_scope.specs.walk.ScopeNumbers.{number_at}
use Rattle.check_scope.proofs.Operands.{more_put}
use Rattle.check_scope.proofs.table.ScopeColumn.last_of.Goals as goal

pub loop-handle-preserved : goal.loop-handle-preserved
loop-handle-preserved c =
    let t = c.args.self.now in
    let xs = c.args.handles.now in
    let i = c.loop-handle.handle-index in
    let old = c.loop-handle.invariant in
    let item : number_at t.numbers.items c.handle-item.result ≡ number_at t.numbers.items (get_or xs i 0) = ap (number_at t.numbers.items) (c.handle-item.is ∙ get_or_default xs i c.handle-item.result 0 c.loop-handle-test.true) in
    let number = c.number_of-number.ensures.number in
    let up_to = c.later-last.ensures.other in
    record {
      taken = c.later-last.ensures.below (scopes t) old.taken c.number_of-number.ensures.taken;
      put = more_put t xs i c.loop-handle.last c.later-last.result c.loop-handle-test.true c.later-last.ensures.one (omega (arith, up_to, number, item)) (c.requires i c.loop-handle-test.true) old.put;
    }
