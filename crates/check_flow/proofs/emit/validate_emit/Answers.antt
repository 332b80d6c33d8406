use Rattle.std.proofs.Common.{rules, ◌≡◌, None, arith, subst, sym, ◌∙◌}
use Rattle.std.specs.Prelude.{◌≢◌}
use Rattle.ir_arena.specs.Points.{first_fault}
use Rattle.check_flow.specs.Emit.{emit_points}
use Rattle.ir_facts.specs.Answers.{IsFirstFault}
use Rattle.check_scope.specs.walk.Place.{place_at}
use Rattle.check_scope.specs.walk.SeenContext.{context_of}
use Rattle.check_scope.specs.walk.Table.{HasPut, known}
use Rattle.check_scope.proofs.Columns.{both_put}
use Rattle.check_scope.proofs.Operands.{put_operands}
use Rattle.check_flow.proofs.Emits.{asked_is, emitted_new, emit_stops, emit_stops_alone, emit_next, emit_none}
use Rattle.check_flow.proofs.Lists.{between_more, between_end}
use Rattle.check_flow.proofs.emit.validate_emit.Goals as goal

pub returns-in_err-check_emitted-clause-fault : goal.returns-in_err-check_emitted-clause-fault
returns-in_err-check_emitted-clause-fault c =
    let context = context_of c.args.context.now in
    let s = known c.args.scope.now in
    let start = c.args.range.start in
    let h = c.loop-index.index in
    let asked = asked_is context s start h c.loop-index.auto.index (known c.loop-index.scope) c.loop-index.invariant.scope.inside in
    let here = subst (λ ps. IsFirstFault ps c.in_err-check_emitted.field-0.0) asked (rw c.new-handle.ensures at c.in_err-check_emitted.ensures.fault) in
    let whole = emit_points context (place_at s) start c.args.range.end in
    let stops = emit_stops context (place_at s) start h c.args.range.end c.loop-index-test.true whole c.in_err-check_emitted.field-0.0 c.loop-index.invariant.faults here in
    search (rules, stops)

pub returns-in_err-check_emitted-clause-refused : goal.returns-in_err-check_emitted-clause-refused
returns-in_err-check_emitted-clause-refused c =
    let context = context_of c.args.context.now in
    let s = known c.args.scope.now in
    let start = c.args.range.start in
    let h = c.loop-index.index in
    let asked = asked_is context s start h c.loop-index.auto.index (known c.loop-index.scope) c.loop-index.invariant.scope.inside in
    let here = subst (λ ps. first_fault ps ≢ None) asked (rw c.new-handle.ensures at c.in_err-check_emitted.ensures.refused) in
    let whole = emit_points context (place_at s) start c.args.range.end in
    let alone = emit_stops_alone context (place_at s) start h c.args.range.end c.loop-index-test.true whole c.loop-index.invariant.faults here in
    search (rules, alone)

pub put-requires-clause-new : goal.put-requires-clause-new
put-requires-clause-new c =
    emitted_new (context_of c.args.context.now) (place_at (known c.loop-index.scope)) c.new-handle.result c.in_ok-check_emitted.ensures.fault

pub loop-index-preserved : goal.loop-index-preserved
loop-index-preserved c =
    let context = context_of c.args.context.now in
    let s = known c.args.scope.now in
    let start = c.args.range.start in
    let h = c.loop-index.index in
    let asked = asked_is context s start h c.loop-index.auto.index (known c.loop-index.scope) c.loop-index.invariant.scope.inside in
    let here = subst (λ ps. first_fault ps ≡ None) asked (rw c.new-handle.ensures at c.in_ok-check_emitted.ensures.fault) in
    let whole = emit_points context (place_at s) start c.args.range.end in
    record {
      scope = rw (between_more start h c.loop-index.auto.index) (both_put c.loop-index.invariant.scope (rw c.new-handle.ensures at c.put.ensures));
      operands = put_operands c.put.ensures c.in_ok-check_emitted.ensures.operands;
      stays = omega arith;
      faults = emit_next context (place_at s) start h c.args.range.end c.loop-index-test.true whole c.loop-index.invariant.faults here;
    }

pub returns-clause-fault : goal.returns-clause-fault
returns-clause-fault c =
    sym c.loop-index.invariant.faults ∙ emit_none (context_of c.args.context.now) (place_at (known c.args.scope.now)) c.args.range.start c.loop-index.index c.args.range.end c.loop-index-test.false

pub returns-clause-scope : goal.returns-clause-scope
returns-clause-scope c =
    subst (HasPut c.args.scope.now c.loop-index.scope) (between_end c.args.range.start c.loop-index.index c.args.range.end c.loop-index.auto.index c.loop-index-test.false c.loop-index.invariant.stays c.loop-index.auto.index-end) c.loop-index.invariant.scope
