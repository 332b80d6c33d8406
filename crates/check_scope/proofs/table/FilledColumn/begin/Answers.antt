use Rattle.std.proofs.Common.{◌≤◌, ◌∙◌, replicate, refl, ap, arith}
use Rattle.check_scope.specs.declared.table.ResultState.TheVariants.{NoResult}
use Rattle.check_scope.specs.walk.Table.{filled_in, is_filled_state, is_unfilled_state, unfilled_in}
use Rattle.check_scope.proofs.Columns.{begun, nothing_marked}
use Rattle.check_scope.proofs.table.FilledColumn.begin.Goals as goal

pub returns-clause-filled : goal.returns-clause-filled
unfolding filled_in
returns-clause-filled c =
    let less : c.truncate.new.self.len ≤ c.args.expressions = omega (arith, c.truncate.ensures.len) in
    let all = c.fill.ensures.after (λ y e. e) ∙ ap (λ n. replicate n NoResult) c.as_mut_slice.ensures.len in
    let is = begun c.args.expressions c.truncate.new.self.len NoResult _ c.fill.new.self c.resize.new.self.items less all c.in_ok-resize.ensures.items in
    nothing_marked _ c.args.expressions is_filled_state refl is

pub returns-clause-unfilled : goal.returns-clause-unfilled
unfolding unfilled_in
returns-clause-unfilled c =
    let less : c.truncate.new.self.len ≤ c.args.expressions = omega (arith, c.truncate.ensures.len) in
    let all = c.fill.ensures.after (λ y e. e) ∙ ap (λ n. replicate n NoResult) c.as_mut_slice.ensures.len in
    let is = begun c.args.expressions c.truncate.new.self.len NoResult _ c.fill.new.self c.resize.new.self.items less all c.in_ok-resize.ensures.items in
    nothing_marked _ c.args.expressions is_unfilled_state refl is
