use Rattle.std.proofs.Common.{rules, ◌≤◌, ◌∙◌, length-set, replicate, ap, arith}
use Rattle.check_scope.specs.declared.table.ScopeState.TheVariants.{Open}
use Rattle.check_scope.specs.walk.Table.{known, shown}
use Rattle.check_scope.proofs.Columns.{begun, last_begun, none_in_scope}
use Rattle.check_scope.proofs.table.ScopeColumn.begin.Goals as goal

pub returns-clause-known : goal.returns-clause-known
unfolding known shown
returns-clause-known c =
    let less : c.truncate.new.self.len ≤ c.args.expressions = omega (arith, c.truncate.ensures.len) in
    let all = c.fill.ensures.after (λ y e. e) ∙ ap (λ n. replicate n 0) c.as_mut_slice.ensures.len in
    let is = begun c.args.expressions c.truncate.new.self.len 0 _ c.fill.new.self c.resize.new.self.items less all c.in_ok-resize.ensures.items in
    none_in_scope _ c.args.expressions _ 1 is (search rules)

pub returns-clause-last : goal.returns-clause-last
unfolding shown
returns-clause-last c =
    let same = length-set c.truncate-2.new.self.items 1 Open in
    let cut = c.truncate-2.ensures.len in
    λ n e. last_begun _ n (omega (arith, same, cut)) e
