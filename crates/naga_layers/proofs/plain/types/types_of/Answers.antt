use Rattle.std.proofs.Common.{◌≡◌, Err, None, Some, sym, ap, ◌∙◌, rules}
use Rattle.std.proofs.lemmas.List.{length-append}
use Rattle.ir_errors.specs.declared.expression.ExpressionError.TheVariants.{Lower}
use Rattle.ir_errors.specs.declared.function.FunctionError.TheVariants.{Expression as InExpression}
use Rattle.naga_layers.specs.Plain.Types.{type_of}
use Rattle.naga_layers.proofs.PlainTypes.{none_here, some_here}
use Rattle.naga_layers.proofs.plain.types.types_of.Goals as goal

pub returns-in-None : goal.returns-in-None
returns-in-None c =
    let m = c.args.module.now in
    let f = c.args.fun.now in
    let at = rw c.new-handle.ensures at c.index.ensures in
    let lt = rw c.len-count.ensures.len at c.loop-index-test.true in
    let none : type_of m f c.loop-index.types c.index.result.now ≡ None = sym (λ j. type_of m f (c.as_slice.ensures j) c.index.result.now) ∙ sym c.in_ok-ty.ensures ∙ c.in-None.is in
    let found = none_here m f c.loop-index.types f.expressions c.loop-index.index c.index.result.now lt at c.loop-index.invariant.place none in
    rw c.untyped.ensures (sym c.loop-index.invariant.rest ∙ found ∙ ap (λ h. Err (InExpression h (Lower 1))) (sym c.new-handle.ensures))

pub loop-index-preserved : goal.loop-index-preserved
loop-index-preserved c =
    let m = c.args.module.now in
    let f = c.args.fun.now in
    let at = rw c.new-handle.ensures at c.index.ensures in
    let lt = rw c.len-count.ensures.len at c.loop-index-test.true in
    let some : type_of m f c.loop-index.types c.index.result.now ≡ Some c.in-Some.ty = sym (λ j. type_of m f (c.as_slice.ensures j) c.index.result.now) ∙ sym c.in_ok-ty.ensures ∙ c.in-Some.is in
    let found = some_here m f c.loop-index.types f.expressions c.loop-index.index c.index.result.now lt at c.loop-index.invariant.place c.in-Some.ty some in
    let pushed = c.in_ok-push-in-Some.ensures.pushed in
    record {
      place = search (rules, c.loop-index.invariant.place, pushed, length-append);
      rest = rw pushed (sym found ∙ c.loop-index.invariant.rest);
    }
