use Rattle.std.proofs.Common.{rules, ◌≡◌, Some, None, sym, subst}
use Rattle.std.proofs.lemmas.Option.{get_or_from_slice_get}
use Rattle.std.specs.Prelude.{slice_get}
use Rattle.ir_arena.specs.Points.{first_fault}
use Rattle.ir_facts.specs.Answers.{Answers, FirstOf}
use Rattle.check_statement.specs.Declarations.{variable_points}
use Rattle.check_scope.specs.walk.SeenContext.{context_of}
use Rattle.check_body.proofs.Each.{each_stops, each_passes}
use Rattle.check_body.proofs.declarations.check_locals.Goals as goal

pub returns-in_err-check_variable : goal.returns-in_err-check_variable
returns-in_err-check_variable c =
    let context = context_of c.args.context.now.block.now in
    let i = c.loop-index.index in
    let x = c.index-var.result.now in
    let r = c.from_residual.result in
    let lt = rw c.len-count.ensures.len at c.loop-index-test.true in
    let is = subst (λ h. slice_get context.fun.local_variables h ≡ Some x) c.new-handle.ensures c.index-var.ensures in
    let points = variable_points context c.args.context.now.infos.now in
    each_stops points context.fun.local_variables i r x lt (sym (get_or_from_slice_get context.fun.local_variables i x x is)) c.loop-index.invariant (search rules) (subst (λ h. Answers (FirstOf (points h x)) r) c.new-handle.ensures (search rules))

pub loop-index-preserved : goal.loop-index-preserved
loop-index-preserved c =
    let context = context_of c.args.context.now.block.now in
    let i = c.loop-index.index in
    let x = c.index-var.result.now in
    let lt = rw c.len-count.ensures.len at c.loop-index-test.true in
    let is = subst (λ h. slice_get context.fun.local_variables h ≡ Some x) c.new-handle.ensures c.index-var.ensures in
    let points = variable_points context c.args.context.now.infos.now in
    each_passes points context.fun.local_variables i x lt (sym (get_or_from_slice_get context.fun.local_variables i x x is)) c.loop-index.invariant (subst (λ h. first_fault (points h x) ≡ None) c.new-handle.ensures c.in_ok-check_variable.ensures)
