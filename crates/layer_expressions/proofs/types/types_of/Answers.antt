use Rattle.std.proofs.Common.{◌≡◌, ℕ, List, Result, Err, Ok, sym, ap, ◌∙◌, rules}
use Rattle.std.proofs.lemmas.List.{length-append}
use Rattle.ir_types.specs.declared.typifier.TypeResolution.{TypeResolution}
use Rattle.layer_expressions.specs.declared.types.Untyped.{Untyped}
use Rattle.layer_expressions.specs.ComputedTypes.{type_of}
use Rattle.layer_expressions.proofs.TypesFrom.{untyped, none_here, some_here}
use Rattle.layer_expressions.proofs.types.types_of.Goals as goal

pub returns-in-Err : goal.returns-in-Err
returns-in-Err c =
    let m = c.args.module.now in
    let a = c.args.arguments.now in
    let l = c.args.locals.now in
    let xs = c.args.expressions.now in
    let x = c.index.result.now in
    let broken = c.in-Err.rule in
    let at = rw c.new-handle.ensures at c.index.ensures in
    let lt = rw c.len-count.ensures.len at c.loop-index-test.true in
    let none : type_of m a l xs c.loop-index.types.items x ≡ Err broken = sym (λ j. type_of m a l (c.as_slice.ensures j) (c.as_slice-in-loop-index.ensures.value j) x) ∙ sym c.in-Err.ensures in
    let found = none_here m a l c.loop-index.types.items xs c.loop-index.index x lt at c.loop-index.invariant.place broken none in
    let refused : ℕ → Result (List TypeResolution) Untyped = λ h. Err (untyped h broken) in
    ap refused c.new-handle.ensures ∙ sym found ∙ c.loop-index.invariant.rest

pub loop-index-preserved : goal.loop-index-preserved
loop-index-preserved c =
    let m = c.args.module.now in
    let a = c.args.arguments.now in
    let l = c.args.locals.now in
    let xs = c.args.expressions.now in
    let x = c.index.result.now in
    let at = rw c.new-handle.ensures at c.index.ensures in
    let lt = rw c.len-count.ensures.len at c.loop-index-test.true in
    let some : type_of m a l xs c.loop-index.types.items x ≡ Ok c.in-Ok.ty = sym (λ j. type_of m a l (c.as_slice.ensures j) (c.as_slice-in-loop-index.ensures.value j) x) ∙ sym c.in-Ok.ensures in
    let found = some_here m a l c.loop-index.types.items xs c.loop-index.index x lt at c.loop-index.invariant.place c.in-Ok.ty some in
    let pushed = c.in_ok-push-in-Ok.ensures.items in
    record {
      place = search (rules, c.loop-index.invariant.place, pushed, length-append);
      rest = rw pushed (sym found ∙ c.loop-index.invariant.rest);
    }
