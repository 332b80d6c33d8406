use Rattle.std.proofs.Common.{Some, arith, ◌∷◌, [], refl, subst, sym, ap, ◌∙◌}
use Rattle.std.proofs.lemmas.Option.{get_or_from_slice_get}
use Rattle.check_scope.specs.Context.{if_pre_emitted}
use Rattle.check_scope.specs.Results.{is_to_fill}
use Rattle.check_scope.specs.walk.SeenContext.{context_of}
use Rattle.check_scope.proofs.Operands.{put_operands}
use Rattle.check_scope.specs.walk.Table.{KnowsOperands, count, filled_in, known, marked, unfilled_in, with_all}
use Rattle.check_body.proofs.PreEmitted.{is_new, one_more, none_more, results_known}
use Rattle.naga_runs.specs.Handles.{with_handle}
use Rattle.check_body.proofs.function.begin_columns.Goals as goal
use Rattle.check_body.proofs.function.begin_columns.Goals.{then-needs_pre_emit, else-needs_pre_emit, then-is_to_fill, else-is_to_fill}

pub put-requires-clause-there : goal.put-requires-clause-there
put-requires-clause-there c =
    let lt = rw c.len-count.ensures.len at c.loop-index-test.true in
    omega (arith, c.new-handle.ensures, c.loop-index.invariant.count, c.requires.count, lt)

pub put-requires-clause-new : goal.put-requires-clause-new
put-requires-clause-new c =
    (λ j. c.loop-index.invariant.scope j (c.new-handle.ensures j)) ∙ is_new if_pre_emitted refl c.args.context.now.fun.now.expressions c.loop-index.index

pub expect-requires-clause-there : goal.expect-requires-clause-there
expect-requires-clause-there c =
    let lt = rw c.len-count.ensures.len at c.loop-index-test.true in
    omega (arith, c.new-handle.ensures, c.loop-index.invariant.marked, c.requires.marked, lt)

pub expect-requires-clause-new : goal.expect-requires-clause-new
expect-requires-clause-new c = λ j. c.loop-index.invariant.filled j c.new-handle.result

pub loop-index-preserved : goal.loop-index-preserved
loop-index-preserved c =
    let es = c.args.context.now.fun.now.expressions in
    let i = c.loop-index.index in
    let x = c.index.result.now in
    let lt = rw c.len-count.ensures.len at c.loop-index-test.true in
    let here = get_or_from_slice_get es i x x (rw c.new-handle.ensures at c.index.ensures) in
    let needs = ap (λ z. if_pre_emitted (Some z)) here ∙ sym c.needs_pre_emit.ensures in
    let fills = ap (λ z. is_to_fill (Some z)) here ∙ ap is_to_fill (sym c.index.ensures ∙ sym c.expression.ensures) ∙ sym c.is_to_fill.ensures in
    record {
      scope = elim c.if-needs_pre_emit.branch [
        | then-needs_pre_emit w ↦
            ap (λ t. (known t).scope) w.scope-is
            ∙ ap (λ s. s.scope) w.put.ensures.inside
            ∙ (λ j. with_all (c.loop-index.invariant.scope j) (c.new-handle.ensures j ∷ []))
            ∙ one_more if_pre_emitted refl es i x lt (needs ∙ w.if-needs_pre_emit.true)
        | else-needs_pre_emit w ↦
            ap (λ t. (known t).scope) w.scope-is ∙ c.loop-index.invariant.scope ∙ none_more if_pre_emitted refl es i x lt (needs ∙ w.if-needs_pre_emit.false)
      ];
      must = elim c.if-needs_pre_emit.branch [
        | then-needs_pre_emit w ↦
            ap (λ t. (known t).must) w.scope-is
            ∙ ap (λ s. s.must) w.put.ensures.inside
            ∙ (λ j. with_all (c.loop-index.invariant.must j) (c.new-handle.ensures j ∷ []))
            ∙ one_more if_pre_emitted refl es i x lt (needs ∙ w.if-needs_pre_emit.true)
        | else-needs_pre_emit w ↦
            ap (λ t. (known t).must) w.scope-is ∙ c.loop-index.invariant.must ∙ none_more if_pre_emitted refl es i x lt (needs ∙ w.if-needs_pre_emit.false)
      ];
      count = elim c.if-needs_pre_emit.branch [
        | then-needs_pre_emit w ↦ ap count w.scope-is ∙ w.put.ensures.as_many ∙ c.loop-index.invariant.count
        | else-needs_pre_emit w ↦ ap count w.scope-is ∙ c.loop-index.invariant.count
      ];
      filled = elim c.if-is_to_fill.branch [
        | then-is_to_fill w ↦ ap filled_in w.filled-is ∙ w.expect.ensures.filled ∙ c.loop-index.invariant.filled
        | else-is_to_fill w ↦ ap filled_in w.filled-is ∙ c.loop-index.invariant.filled
      ];
      unfilled = elim c.if-is_to_fill.branch [
        | then-is_to_fill w ↦
            ap unfilled_in w.filled-is
            ∙ w.expect.ensures.unfilled
            ∙ (λ j. with_handle (c.loop-index.invariant.unfilled j) (c.new-handle.ensures j))
            ∙ one_more is_to_fill refl es i x lt (fills ∙ w.if-is_to_fill.true)
        | else-is_to_fill w ↦ ap unfilled_in w.filled-is ∙ c.loop-index.invariant.unfilled ∙ none_more is_to_fill refl es i x lt (fills ∙ w.if-is_to_fill.false)
      ];
      marked = elim c.if-is_to_fill.branch [
        | then-is_to_fill w ↦ ap marked w.filled-is ∙ w.expect.ensures.count ∙ c.loop-index.invariant.marked
        | else-is_to_fill w ↦ ap marked w.filled-is ∙ c.loop-index.invariant.marked
      ];
      operands = λ operands t k.
          let old = c.loop-index.invariant.operands operands t k in
          elim c.if-needs_pre_emit.branch [
            | then-needs_pre_emit w ↦ subst (KnowsOperands operands t) (sym w.scope-is) (put_operands w.put.ensures old)
            | else-needs_pre_emit w ↦ subst (KnowsOperands operands t) (sym w.scope-is) old
          ];
    }

pub returns-clause-results : goal.returns-clause-results
returns-clause-results c =
    results_known (context_of c.args.context.now) _ _ c.loop-index.index (rw c.len-count.ensures.len at c.loop-index-test.false) c.loop-index.invariant.filled c.loop-index.invariant.unfilled
