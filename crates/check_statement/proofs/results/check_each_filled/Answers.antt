use Rattle.std.proofs.Common.{◌≡◌, Some, true, false, length, sym, ap, ◌∙◌}
use Rattle.ir_errors.specs.declared.function.FunctionError.TheVariants.{UnvisitedExpression}
use Rattle.check_scope.specs.Results.{is_unfilled}
use Rattle.check_scope.specs.walk.SeenContext.{context_of}
use Rattle.check_scope.specs.walk.Table.{filled_in}
use Rattle.check_statement.proofs.Fillings.{filled_stops, filled_next, filled_end}
use Rattle.check_statement.proofs.results.check_each_filled.Goals as goal

pub returns-then-is_still_to_fill : goal.returns-then-is_still_to_fill
returns-then-is_still_to_fill c =
    let context = context_of c.args.context.now in
    let filled = filled_in c.args.filled.now in
    let h = c.loop-index.index in
    let lt = rw c.len-count.ensures.len at c.loop-index-test.true in
    let left : is_unfilled context filled h ≡ true = ap (is_unfilled context filled) (sym c.new-handle.ensures) ∙ sym (c.requires c.new-handle.result) ∙ sym c.is_still_to_fill.ensures ∙ c.if-is_still_to_fill.true in
    ap (λ x. Some (UnvisitedExpression x)) c.new-handle.ensures ∙ sym (filled_stops context filled h (length context.fun.expressions) lt left) ∙ c.loop-index.invariant

pub loop-index-preserved : goal.loop-index-preserved
loop-index-preserved c =
    let context = context_of c.args.context.now in
    let filled = filled_in c.args.filled.now in
    let h = c.loop-index.index in
    let lt = rw c.len-count.ensures.len at c.loop-index-test.true in
    let left : is_unfilled context filled h ≡ false = ap (is_unfilled context filled) (sym c.new-handle.ensures) ∙ sym (c.requires c.new-handle.result) ∙ sym c.is_still_to_fill.ensures ∙ c.if-is_still_to_fill.false in
    sym (filled_next context filled h (length context.fun.expressions) lt left) ∙ c.loop-index.invariant

pub returns : goal.returns
returns c =
    let context = context_of c.args.context.now in
    let over = rw c.len-count.ensures.len at c.loop-index-test.false in
    sym (filled_end context (filled_in c.args.filled.now) c.loop-index.index (length context.fun.expressions) over) ∙ c.loop-index.invariant
