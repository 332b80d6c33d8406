use Rattle.std.proofs.Common.{rules, arith, ◌≡◌, ◌<◌, IfSome, Err, None, Some, ◌||◌, subst, append-nil, ◌++◌, ◌+◌, [], sym, ap, ◌∙◌, drop, append_assoc}
use Rattle.ir_statements.specs.declared.statements.Block.{the_lemmas}
use Rattle.ir_statements.proofs.Rows.{body_of-list, tree_of-switch}
use Rattle.ir_statements.specs.View as view
use Rattle.check_scope.specs.BodyTrees.{emitted_operands, tree_of, list_of, cases_of, block_of}
use Rattle.ir_facts.specs.Answers.{Answers, Exactly}
use Rattle.check_statement.specs.Ready.{IsStatementReady, IsBodyReady}
use Rattle.check_scope.specs.walk.SeenContext.{context_of}
use Rattle.check_statement.specs.walk.State.{kept, with_statement}
use Rattle.check_scope.specs.Results.{result_of}
use Rattle.check_scope.specs.walk.Table.{HasPut, KnowsOperands, KnowsResults, KnowsRoots, known, marked}
use Rattle.check_scope.proofs.Operands.{put_operands}
use Rattle.naga_runs.specs.Positions.{StatementNode}
use Rattle.check_statement.specs.walk.Walk.{puts, body_puts, body_answer}
use Rattle.check_scope.proofs.Columns.{both_put, put_nothing, same_known, stays_put, shows_before, may_leave}
use Rattle.check_scope.proofs.Divided.{apart_still, loop_left, may_leave_loop}
use Rattle.naga_runs.specs.Must.{body_holds_continue, cases_hold_continue}
use Rattle.check_body.proofs.LoopBody.{PutsOfLoop, at_first, one_more, undivided, divided, may_part, last_parted}
use Rattle.check_body.proofs.Tables.{entered_table, divided_table, left_table, skipped_table}
use Rattle.check_statement.proofs.Parts.{in_block, in_branch, in_switch, in_lists, in_list, in_cases, in_result}
use Rattle.ir_facts.proofs.Refusals.{next_is, passes, stops_first, stops_next, answers_next}
use Rattle.check_body.proofs.Walk.{holds_turn, rest_turn, rest_end, cases_hold_turn, leaving_err, whole_parts, whole_holds, or_assoc, own_passes, own_refuses, parts_later, parts_branch, parts_switch, stmt_more, body_turn, puts_turn, body_end, puts_end, cases_turn, cases_end}
use Rattle.check_body.proofs.function.+walk.Goals as goal

pub validate_nested-validate_block-requires : goal.validate_nested-validate_block-requires
validate_nested-validate_block-requires t c =
    (search (rules, the_lemmas), (c.requires.context, (in_block (context_of c.args.context.now) _ (rw c.in-Block.is at c.requires.ready), c.requires.table)))

pub validate_nested-validate_block-requires-in-If :
    goal.validate_nested-validate_block-requires-in-If
validate_nested-validate_block-requires-in-If t c =
    (search (rules, the_lemmas), (c.requires.context, ((in_branch (context_of c.args.context.now) _ _ _ (rw c.in-If.is at c.requires.ready)).0, c.requires.table)))

pub validate_nested-validate_cases-requires : goal.validate_nested-validate_cases-requires
validate_nested-validate_cases-requires t c =
    let span = c.args.located.now.span in
    let tree = ap (λ st. view.tree_of (emitted_operands (context_of c.args.context.now).fun) st span) c.in-Switch.is ∙ tree_of-switch (emitted_operands (context_of c.args.context.now).fun) c.in-Switch.selector c.in-Switch.cases span in
    (search (rules, the_lemmas), (c.requires.context, (rw c.as_slice.ensures (in_switch (context_of c.args.context.now) c.in-Switch.selector (cases_of (context_of c.args.context.now) c.in-Switch.cases) (subst (IsStatementReady (context_of c.args.context.now)) tree c.requires.ready)), c.requires.table)))

pub validate_nested-returns-in-Switch-clause-fault :
    goal.validate_nested-returns-in-Switch-clause-fault
validate_nested-returns-in-Switch-clause-fault t c =
    let span = c.args.located.now.span in
    let tree = ap (λ st. view.tree_of (emitted_operands (context_of c.args.context.now).fun) st span) c.in-Switch.is ∙ tree_of-switch (emitted_operands (context_of c.args.context.now).fun) c.in-Switch.selector c.in-Switch.cases span in
    rw (tree, parts_switch (context_of c.args.context.now) (kept c.args.table.now.filled c.args.state.now) c.args.abilities.now (known c.args.table.now.scope) c.in-Switch.selector (cases_of (context_of c.args.context.now) c.in-Switch.cases), ← c.in_case-abilities.ensures, ← c.as_slice.ensures) c.validate_cases.ensures.fault

pub validate_statement-returns-in_err-whole-clause-fault :
    goal.validate_statement-returns-in_err-whole-clause-fault
validate_statement-returns-in_err-whole-clause-fault t c =
    rw (stmt_more (context_of c.args.context.now) (kept c.args.table.now.filled c.args.state.now) c.args.abilities.now (known c.args.table.now.scope) (tree_of (context_of c.args.context.now) c.args.located.now)) (
    let first = c.in_err-whole.ensures.fault c.args.abilities.now in search (rules, stops_first, own_refuses)
    )

pub validate_statement-returns-clause-fault : goal.validate_statement-returns-clause-fault
validate_statement-returns-clause-fault t c =
    let context = context_of c.args.context.now in
    let k = kept c.args.table.now.filled c.args.state.now in
    let s = known c.args.table.now.scope in
    let x = tree_of context c.args.located.now in
    let next = sym c.in_ok-whole.ensures.state in
    let put = c.in_ok-whole.ensures.scope.inside in
    let later = kept c.validate_frequent.new.table.filled c.validate_frequent.new.state in
    rw (stmt_more context k c.args.abilities.now s x) (
    answers_next _ _ _ _ _ (own_passes context k c.args.abilities.now s x (c.in_ok-whole.ensures.fault c.args.abilities.now)) (rw (next, ← parts_later context later c.args.abilities.now s x, ← put) c.validate_nested-2.ensures.fault)
    )

pub validate_statement-returns-then-whole-clause-fault :
    goal.validate_statement-returns-then-whole-clause-fault
validate_statement-returns-then-whole-clause-fault t c =
    let context = context_of c.args.context.now in
    let k = kept c.args.table.now.filled c.args.state.now in
    let s = known c.args.table.now.scope in
    let x = tree_of context c.args.located.now in
    let next = sym c.in_ok-whole.ensures.state in
    let put = c.in_ok-whole.ensures.scope.inside in
    let later = kept c.validate_frequent.new.table.filled c.validate_frequent.new.state in
    let whole = sym c.in_ok-whole.ensures.all ∙ c.if-whole.true in
    let none = whole_parts context later c.args.abilities.now (known c.validate_frequent.new.table.scope) c.args.located.now.statement c.args.located.now.span whole in
    rw (stmt_more context k c.args.abilities.now s x) (
    passes _ _ (with_statement context k x) later (own_passes context k c.args.abilities.now s x (c.in_ok-whole.ensures.fault c.args.abilities.now)) (rw (next, ← parts_later context later c.args.abilities.now s x, ← put) none)
    )

pub validate_statement-returns-then-whole-clause-held :
    goal.validate_statement-returns-then-whole-clause-held
validate_statement-returns-then-whole-clause-held t c =
    whole_holds (context_of c.args.context.now) c.args.located.now.statement c.args.located.now.span (sym c.in_ok-whole.ensures.all ∙ c.if-whole.true)

pub validate_statements-validate_statement-requires :
    goal.validate_statements-validate_statement-requires
validate_statements-validate_statement-requires t c =
    let ready = in_list (context_of c.args.context.now) c.as_slice-located-items.result.now c.loop-located.located-index c.located-item.result c.loop-located-test.true c.located-item.is c.loop-located.invariant.ready in
    (search (rules, the_lemmas), (c.requires.context, (ready.0, c.loop-located.invariant.table)))

pub validate_statements-returns-clause-fault : goal.validate_statements-returns-clause-fault
validate_statements-returns-clause-fault t c =
    sym c.loop-located.invariant.faults ∙ body_end (context_of c.args.context.now) c.as_slice-located-items.result.now c.loop-located.located-index (kept c.loop-located.table.filled c.loop-located.state) c.args.abilities.now (known c.loop-located.table.scope) c.loop-located-test.false

pub validate_statements-returns-clause-scope : goal.validate_statements-returns-clause-scope
validate_statements-returns-clause-scope t c =
    let puts = c.loop-located.invariant.puts in
    let all = sym (append-nil puts.earlier) ∙ ap (λ l. puts.earlier ++ l) (sym (puts_end (context_of c.args.context.now) c.as_slice-located-items.result.now c.loop-located.located-index c.loop-located-test.false)) ∙ puts.joined in
    subst (HasPut c.args.table.now.scope c.loop-located.table.scope) all puts.put

pub validate_block-validate_statements-requires : goal.validate_block-validate_statements-requires
validate_block-validate_statements-requires t c =
    (search (rules, the_lemmas), (c.requires.context, (c.requires.ready, entered_table c.in_ok-outer.outer c.requires.table c.in_ok-outer.ensures.count c.in_ok-outer.ensures.outside c.in_ok-outer.ensures.entered)))

pub validate_cases-validate_block-requires : goal.validate_cases-validate_block-requires
validate_cases-validate_block-requires t c =
    (search (rules, the_lemmas), (c.requires.context, ((in_cases (context_of c.args.context.now) c.args.cases.now c.loop-case.case-index c.case-item.result c.loop-case-test.true c.case-item.is c.loop-case.invariant.ready).0, c.loop-case.invariant.table)))

pub validate_cases-returns-clause-fault : goal.validate_cases-returns-clause-fault
validate_cases-returns-clause-fault t c =
    sym c.loop-case.invariant.faults ∙ cases_end (context_of c.args.context.now) c.args.cases.now c.loop-case.case-index (kept c.loop-case.table.filled c.loop-case.state) c.args.abilities.now (known c.loop-case.table.scope) c.loop-case-test.false

pub validate_nested-validate_block-requires-in-If-2 :
    goal.validate_nested-validate_block-requires-in-If-2
validate_nested-validate_block-requires-in-If-2 t c =
    (search (rules, the_lemmas), (c.requires.context, ((in_branch (context_of c.args.context.now) _ _ _ (rw c.in-If.is at c.requires.ready)).1, c.in_ok-accepts-in-If.ensures.table)))

pub validate_nested-validate_loop_body-requires : goal.validate_nested-validate_loop_body-requires
validate_nested-validate_loop_body-requires t c =
    (search (rules, the_lemmas), (c.requires.context, ((in_lists (context_of c.args.context.now) _ _ _ (rw c.in-Loop.is at c.requires.ready)).0, entered_table c.in_ok-outer-in-Loop.outer c.requires.table c.in_ok-outer-in-Loop.ensures.count c.in_ok-outer-in-Loop.ensures.outside c.in_ok-outer-in-Loop.ensures.entered)))

pub validate_nested-validate_statements-requires : goal.validate_nested-validate_statements-requires
validate_nested-validate_statements-requires t c =
    (search (rules, the_lemmas), (c.requires.context, ((in_lists (context_of c.args.context.now) _ _ _ (rw c.in-Loop.is at c.requires.ready)).1, c.in_ok-skipped-in-Loop.ensures.table)))

pub validate_nested-leave-requires : goal.validate_nested-leave-requires
validate_nested-leave-requires t c =
    may_leave_loop _ _ _ _ c.in_ok-outer-in-Loop.outer c.in_ok-skipped-in-Loop.skipped c.in_ok-outer-in-Loop.ensures.outside c.in_ok-skipped-in-Loop.ensures.scope c.in_ok-validate_statements-in-Loop.ensures.scope c.in_ok-outer-in-Loop.ensures.open

pub validate_nested-returns-in_ok-check_break_if-in-Loop-clause-scope : goal.validate_nested-returns-in_ok-check_break_if-in-Loop-clause-scope
validate_nested-returns-in_ok-check_break_if-in-Loop-clause-scope t c =
    c.leave.ensures.shown ∙ loop_left _ _ _ _ c.in_ok-outer-in-Loop.outer c.in_ok-skipped-in-Loop.skipped c.in_ok-outer-in-Loop.ensures.outside c.in_ok-skipped-in-Loop.ensures.scope c.in_ok-validate_statements-in-Loop.ensures.scope

pub validate_statement-returns-clause-scope : goal.validate_statement-returns-clause-scope
validate_statement-returns-clause-scope t c =
    stays_put (context_of c.args.context.now) _ _ _ _ c.validate_nested-2.result c.in_ok-whole.ensures.scope c.requires.table.scope c.validate_nested-2.ensures.table c.validate_nested-2.ensures.scope c.validate_nested-2.ensures.taken

pub validate_statement-returns-in_err-check_rarer-clause-fault :
    goal.validate_statement-returns-in_err-check_rarer-clause-fault
validate_statement-returns-in_err-check_rarer-clause-fault t c =
    rw (stmt_more (context_of c.args.context.now) (kept c.args.table.now.filled c.args.state.now) c.args.abilities.now (known c.args.table.now.scope) (tree_of (context_of c.args.context.now) c.args.located.now)) (search (rules, stops_first, own_refuses))

pub validate_statement-advance-requires : goal.validate_statement-advance-requires
validate_statement-advance-requires t c =
    let x = tree_of (context_of c.args.context.now) c.args.located.now in
    let marks = ap marked c.in_ok-check_rarer.ensures.filled ∙ c.requires.table.filled in
    subst (λ n. IfSome (result_of (StatementNode x)) (λ r. r < n)) (sym marks) (in_result (context_of c.args.context.now) x c.requires.ready)

pub validate_statement-validate_nested-requires :
    goal.validate_statement-validate_nested-requires
validate_statement-validate_nested-requires t c =
    let context = context_of c.args.context.now in
    let same = c.in_ok-check_rarer.ensures in
    let scope = c.check_rarer.new.table.scope in (
      search (rules, the_lemmas),
      (
        c.requires.context,
        (
          c.requires.ready,
          record {
            scope = same.scope.as_many ∙ c.requires.table.scope;
            filled = c.advance.ensures.count ∙ ap marked same.filled ∙ c.requires.table.filled;
            results = c.advance.ensures.results (subst (KnowsResults context) (sym same.filled) c.requires.table.results);
            operands = subst (λ o. KnowsOperands (emitted_operands context.fun) o scope) (sym same.operands) (put_operands same.scope c.requires.table.operands);
            roots = subst (KnowsRoots context) (sym same.roots) c.requires.table.roots;
          },
        ),
      ),
    )

pub validate_statement-returns-then-not-is_frequent-clause-fault :
    goal.validate_statement-returns-then-not-is_frequent-clause-fault
validate_statement-returns-then-not-is_frequent-clause-fault t c =
    let context = context_of c.args.context.now in
    let k = kept c.args.table.now.filled c.args.state.now in
    let s = known c.args.table.now.scope in
    let x = tree_of context c.args.located.now in
    let same = c.in_ok-check_rarer.ensures in
    let later = kept c.advance.new.filled c.advance.new.state in
    let next = sym (c.advance.ensures.state ∙ ap (λ f. with_statement context (kept f c.args.state.now) x) same.filled) in
    rw (stmt_more context k c.args.abilities.now s x) (
    answers_next _ _ _ _ _ (own_passes context k c.args.abilities.now s x same.fault) (rw (next, ← parts_later context later c.args.abilities.now s x, ← same.scope.inside) c.validate_nested.ensures.fault)
    )

pub validate_statement-returns-then-not-is_frequent-clause-scope :
    goal.validate_statement-returns-then-not-is_frequent-clause-scope
validate_statement-returns-then-not-is_frequent-clause-scope t c =
    stays_put (context_of c.args.context.now) _ _ _ _ c.validate_nested.result c.in_ok-check_rarer.ensures.scope c.requires.table.scope c.validate_nested.ensures.table c.validate_nested.ensures.scope c.validate_nested.ensures.taken

pub validate_statements-loop-located-init : goal.validate_statements-loop-located-init
validate_statements-loop-located-init t c =
    let same = body_of-list (emitted_operands (context_of c.args.context.now).fun) c.args.block.now ∙ ap (list_of (context_of c.args.context.now)) (sym c.as_slice-located-items.ensures) in
    record {
      ready = subst (IsBodyReady (context_of c.args.context.now)) same c.requires.ready;
      faults = ap (body_answer (context_of c.args.context.now) (kept c.args.table.now.filled c.args.state.now) c.args.abilities.now (known c.args.table.now.scope)) (sym same);
      table = c.requires.table;
      held = ap body_holds_continue (sym same);
      puts = record { earlier = []; put = put_nothing c.args.table.now.scope; joined = ap body_puts (sym same) };
    }

pub validate_loop_body-loop-located-init : goal.validate_loop_body-loop-located-init
validate_loop_body-loop-located-init t c =
    let same = body_of-list (emitted_operands (context_of c.args.context.now).fun) c.args.block.now ∙ ap (list_of (context_of c.args.context.now)) (sym c.as_slice-located-items.ensures) in
    record {
      ready = subst (IsBodyReady (context_of c.args.context.now)) same c.requires.ready;
      faults = ap (body_answer (context_of c.args.context.now) (kept c.args.table.now.filled c.args.state.now) c.args.abilities.now (known c.args.table.now.scope)) (sym same);
      table = c.requires.table;
      puts = subst (λ b. PutsOfLoop c.args.table.now.scope c.args.table.now.scope None b (block_of (context_of c.args.context.now) c.args.block.now)) same (at_first c.args.table.now.scope _);
    }

pub validate_loop_body-validate_statement-requires :
    goal.validate_loop_body-validate_statement-requires
validate_loop_body-validate_statement-requires t c =
    let ready = in_list (context_of c.args.context.now) c.as_slice-located-items.result.now c.loop-located.located-index c.located-item.result c.loop-located-test.true c.located-item.is c.loop-located.invariant.ready in
    (search (rules, the_lemmas), (c.requires.context, (ready.0, c.loop-located.invariant.table)))

pub validate_loop_body-returns-in_err-held-clause-fault :
    goal.validate_loop_body-returns-in_err-held-clause-fault
validate_loop_body-returns-in_err-held-clause-fault t c =
    rw (← c.loop-located.invariant.faults) (rw (body_turn (context_of c.args.context.now) c.as_slice-located-items.result.now c.loop-located.located-index (kept c.loop-located.table.filled c.loop-located.state) c.args.abilities.now (known c.loop-located.table.scope) c.located-item.result c.loop-located-test.true c.located-item.is) (search (rules, stops_first)))

pub validate_loop_body-loop-located-preserved : goal.validate_loop_body-loop-located-preserved
validate_loop_body-loop-located-preserved t c =
    let xs = c.as_slice-located-items.result.now in
    let i = c.loop-located.located-index in
    let x = c.located-item.result in
    let lt = c.loop-located-test.true in
    let is = c.located-item.is in
    let old = c.loop-located.invariant in
    let context = context_of c.args.context.now in
    let whole = block_of context c.args.block.now in
    let put = c.in_ok-held.ensures.scope in
    let puts = subst (λ b. PutsOfLoop c.args.table.now.scope c.loop-located.table.scope c.loop-located.home b whole) (rest_turn context xs i x lt is) old.puts in
    record {
      ready = (in_list context xs i x lt is old.ready).1;
      faults = rw (c.in_ok-home.ensures.known, put.inside) (next_is _ _ _ _ (body_turn context xs i (kept c.loop-located.table.filled c.loop-located.state) c.args.abilities.now (known c.loop-located.table.scope) x lt is) c.in_ok-held.ensures.fault ∙ old.faults);
      table = divided_table c.loop-located.home c.in_ok-held.held _ c.in_ok-held.ensures.table c.in_ok-home.ensures.count c.in_ok-home.ensures.home;
      puts = one_more c.args.table.now.scope c.loop-located.table.scope _ _ (tree_of context x) (list_of context (drop (i + 1) xs)) whole put c.in_ok-home.ensures.known c.in_ok-home.ensures.count c.in_ok-held.ensures.table.operands.last c.loop-located.home _ c.in_ok-held.held puts c.in_ok-held.ensures.held c.in_ok-home.ensures.home;
    }

pub validate_loop_body-skip-requires : goal.validate_loop_body-skip-requires
validate_loop_body-skip-requires t c =
    let context = context_of c.args.context.now in
    let whole = block_of context c.args.block.now in
    let xs = c.as_slice-located-items.result.now in
    let i = c.loop-located.located-index in
    let at = subst (λ o. PutsOfLoop c.args.table.now.scope c.loop-located.table.scope o (list_of context (drop i xs)) whole) c.in-Some.is c.loop-located.invariant.puts in
    let all = subst (λ b. PutsOfLoop c.args.table.now.scope c.loop-located.table.scope (Some c.in-Some.number) b whole) (rest_end context xs i c.loop-located-test.false) at in
    may_part c.args.table.now.scope c.loop-located.table.scope c.in-Some.number whole all

pub validate_loop_body-returns-in-Some-clause-fault : goal.validate_loop_body-returns-in-Some-clause-fault
validate_loop_body-returns-in-Some-clause-fault t c =
    sym c.loop-located.invariant.faults ∙ body_end (context_of c.args.context.now) c.as_slice-located-items.result.now c.loop-located.located-index (kept c.loop-located.table.filled c.loop-located.state) c.args.abilities.now (known c.loop-located.table.scope) c.loop-located-test.false

pub validate_loop_body-returns-in-Some-clause-scope : goal.validate_loop_body-returns-in-Some-clause-scope
validate_loop_body-returns-in-Some-clause-scope t c =
    let context = context_of c.args.context.now in
    let whole = block_of context c.args.block.now in
    let xs = c.as_slice-located-items.result.now in
    let i = c.loop-located.located-index in
    let at = subst (λ o. PutsOfLoop c.args.table.now.scope c.loop-located.table.scope o (list_of context (drop i xs)) whole) c.in-Some.is c.loop-located.invariant.puts in
    let all = subst (λ b. PutsOfLoop c.args.table.now.scope c.loop-located.table.scope (Some c.in-Some.number) b whole) (rest_end context xs i c.loop-located-test.false) at in
    divided c.args.table.now.scope c.loop-located.table.scope c.in-Some.number whole all _ c.skip.result c.skip.ensures.shown c.skip.ensures.number c.skip.ensures.count (let same = c.skip.ensures.taken in omega (arith, same))

pub validate_loop_body-returns-in-None-clause-fault : goal.validate_loop_body-returns-in-None-clause-fault
validate_loop_body-returns-in-None-clause-fault t c =
    sym c.loop-located.invariant.faults ∙ body_end (context_of c.args.context.now) c.as_slice-located-items.result.now c.loop-located.located-index (kept c.loop-located.table.filled c.loop-located.state) c.args.abilities.now (known c.loop-located.table.scope) c.loop-located-test.false

pub validate_loop_body-returns-in-None-clause-scope : goal.validate_loop_body-returns-in-None-clause-scope
validate_loop_body-returns-in-None-clause-scope t c =
    let context = context_of c.args.context.now in
    let whole = block_of context c.args.block.now in
    let xs = c.as_slice-located-items.result.now in
    let i = c.loop-located.located-index in
    let at = subst (λ o. PutsOfLoop c.args.table.now.scope c.loop-located.table.scope o (list_of context (drop i xs)) whole) c.in-None.is c.loop-located.invariant.puts in
    undivided c.args.table.now.scope c.loop-located.table.scope whole (subst (λ b. PutsOfLoop c.args.table.now.scope c.loop-located.table.scope None b whole) (rest_end context xs i c.loop-located-test.false) at)

pub validate_nested-returns-in_err-rejects-in-If-clause-fault : goal.validate_nested-returns-in_err-rejects-in-If-clause-fault
validate_nested-returns-in_err-rejects-in-If-clause-fault t c =
    let context = context_of c.args.context.now in
    let tree = ap (λ st. view.tree_of (emitted_operands context.fun) st c.args.located.now.span) c.in-If.is in
    let turn = parts_branch context (kept c.args.table.now.filled c.args.state.now) c.args.abilities.now (known c.args.table.now.scope) c.in-If.condition (block_of context c.in-If.accept) (block_of context c.in-If.reject) in
    let refused = subst (λ s. Answers (Exactly (body_answer context (kept c.validate_block-in-If.new.table.filled c.validate_block-in-If.new.state) c.args.abilities.now s (block_of context c.in-If.reject))) (Err c.in_err-rejects-in-If.field-0.0)) (same_known _ _ c.in_ok-accepts-in-If.ensures.scope) c.in_err-rejects-in-If.ensures.fault in
    let all = stops_next _ _ (λ l. body_answer context l c.args.abilities.now (known c.args.table.now.scope) (block_of context c.in-If.reject)) _ c.in_ok-accepts-in-If.ensures.fault refused in
    let is : c.from_residual-in_err-rejects-in-If.result ≡ Err c.in_err-rejects-in-If.field-0.0 = search rules in
    rw (tree, turn) (leaving_err _ _ _ _ is all)

pub validate_nested-returns-in_ok-rejects-in-If-clause-fault : goal.validate_nested-returns-in_ok-rejects-in-If-clause-fault
validate_nested-returns-in_ok-rejects-in-If-clause-fault t c =
    let context = context_of c.args.context.now in
    let tree = ap (λ st. view.tree_of (emitted_operands context.fun) st c.args.located.now.span) c.in-If.is in
    let turn = parts_branch context (kept c.args.table.now.filled c.args.state.now) c.args.abilities.now (known c.args.table.now.scope) c.in-If.condition (block_of context c.in-If.accept) (block_of context c.in-If.reject) in
    rw (tree, turn) (
    passes _ _ _ _ c.in_ok-accepts-in-If.ensures.fault (rw (← same_known _ _ c.in_ok-accepts-in-If.ensures.scope) c.in_ok-rejects-in-If.ensures.fault)
    )

pub validate_nested-returns-in-Switch-clause-held : goal.validate_nested-returns-in-Switch-clause-held
validate_nested-returns-in-Switch-clause-held t c =
    let span = c.args.located.now.span in
    let tree = ap (λ st. view.tree_of (emitted_operands (context_of c.args.context.now).fun) st span) c.in-Switch.is ∙ tree_of-switch (emitted_operands (context_of c.args.context.now).fun) c.in-Switch.selector c.in-Switch.cases span in
    rw (tree, ← c.as_slice.ensures) c.validate_cases.ensures.held

pub validate_statements-returns-in_err-holds-clause-fault :
    goal.validate_statements-returns-in_err-holds-clause-fault
validate_statements-returns-in_err-holds-clause-fault t c =
    rw (← c.loop-located.invariant.faults) (rw (body_turn (context_of c.args.context.now) c.as_slice-located-items.result.now c.loop-located.located-index (kept c.loop-located.table.filled c.loop-located.state) c.args.abilities.now (known c.loop-located.table.scope) c.located-item.result c.loop-located-test.true c.located-item.is) (search (rules, stops_first)))

pub validate_statements-loop-located-preserved : goal.validate_statements-loop-located-preserved
validate_statements-loop-located-preserved t c =
    let xs = c.as_slice-located-items.result.now in
    let i = c.loop-located.located-index in
    let x = c.located-item.result in
    let lt = c.loop-located-test.true in
    let is = c.located-item.is in
    let old = c.loop-located.invariant in
    let context = context_of c.args.context.now in
    let next = list_of context (drop (i + 1) xs) in
    let put = c.in_ok-holds.ensures.scope in
    record {
      ready = (in_list context xs i x lt is old.ready).1;
      faults = rw put.inside (next_is _ _ _ _ (body_turn context xs i (kept c.loop-located.table.filled c.loop-located.state) c.args.abilities.now (known c.loop-located.table.scope) x lt is) c.in_ok-holds.ensures.fault ∙ old.faults);
      table = c.in_ok-holds.ensures.table;
      held = or_assoc c.loop-located.held c.in_ok-holds.holds (body_holds_continue next) ∙ ap (λ z. c.loop-located.held || (z || body_holds_continue next)) c.in_ok-holds.ensures.held ∙ ap (λ z. c.loop-located.held || z) (sym (holds_turn context xs i x lt is)) ∙ old.held;
      puts = record {
        earlier = old.puts.earlier ++ puts (tree_of context x);
        put = both_put old.puts.put put;
        joined = append_assoc old.puts.earlier (puts (tree_of context x)) (body_puts next) ∙ ap (λ l. old.puts.earlier ++ l) (sym (puts_turn context xs i x lt is)) ∙ old.puts.joined;
      };
    }

pub validate_block-leave-requires : goal.validate_block-leave-requires
validate_block-leave-requires t c =
    may_leave _ _ _ c.in_ok-outer.outer c.in_ok-outer.ensures.outside c.in_ok-held.ensures.scope c.in_ok-outer.ensures.open

pub validate_block-returns-clause-scope : goal.validate_block-returns-clause-scope
validate_block-returns-clause-scope t c =
    c.leave.ensures.shown ∙ shows_before _ _ _ c.in_ok-outer.outer c.in_ok-outer.ensures.outside c.in_ok-held.ensures.scope

pub validate_cases-returns-in_err-holds-clause-fault :
    goal.validate_cases-returns-in_err-holds-clause-fault
validate_cases-returns-in_err-holds-clause-fault t c =
    rw (← c.loop-case.invariant.faults) (rw (cases_turn (context_of c.args.context.now) c.args.cases.now c.loop-case.case-index (kept c.loop-case.table.filled c.loop-case.state) c.args.abilities.now (known c.loop-case.table.scope) c.case-item.result c.loop-case-test.true c.case-item.is) (search (rules, stops_first)))

pub validate_cases-loop-case-preserved : goal.validate_cases-loop-case-preserved
validate_cases-loop-case-preserved t c =
    let cs = c.args.cases.now in
    let i = c.loop-case.case-index in
    let x = c.case-item.result in
    let lt = c.loop-case-test.true in
    let is = c.case-item.is in
    let old = c.loop-case.invariant in
    let context = context_of c.args.context.now in
    let rest = cases_hold_continue (cases_of context (drop (i + 1) cs)) in
    record {
      ready = (in_cases context cs i x lt is old.ready).1;
      faults = rw (same_known _ _ c.in_ok-holds.ensures.scope) (next_is _ _ _ _ (cases_turn context cs i (kept c.loop-case.table.filled c.loop-case.state) c.args.abilities.now (known c.loop-case.table.scope) x lt is) c.in_ok-holds.ensures.fault ∙ old.faults);
      table = c.in_ok-holds.ensures.table;
      scope = c.in_ok-holds.ensures.scope ∙ old.scope;
      taken = let before = old.taken in let more = c.in_ok-holds.ensures.taken in omega (arith, before, more);
      held = or_assoc c.loop-case.held c.in_ok-holds.holds rest ∙ ap (λ z. c.loop-case.held || (z || rest)) c.in_ok-holds.ensures.held ∙ ap (λ z. c.loop-case.held || z) (sym (cases_hold_turn context cs i x lt is)) ∙ old.held;
    }

pub validate_block-returns-clause-table : goal.validate_block-returns-clause-table
validate_block-returns-clause-table t c =
    left_table c.in_ok-outer.outer None c.requires.table c.in_ok-held.ensures.table c.leave.ensures.count c.leave.ensures.taken c.leave.ensures.shown (c.leave.ensures.shown ∙ shows_before _ _ _ c.in_ok-outer.outer c.in_ok-outer.ensures.outside c.in_ok-held.ensures.scope) tt

pub validate_block-returns-clause-taken : goal.validate_block-returns-clause-taken
validate_block-returns-clause-taken t c =
    let entered = c.in_ok-outer.ensures.entered.taken in
    let put = c.in_ok-held.ensures.scope.taken in
    let same = c.leave.ensures.taken in
    omega (arith, entered, put, same)

pub validate_nested-returns-in_ok-check_break_if-in-Loop-clause-table : goal.validate_nested-returns-in_ok-check_break_if-in-Loop-clause-table
validate_nested-returns-in_ok-check_break_if-in-Loop-clause-table t c =
    left_table c.in_ok-outer-in-Loop.outer c.in_ok-skipped-in-Loop.skipped c.requires.table c.in_ok-validate_statements-in-Loop.ensures.table c.leave.ensures.count c.leave.ensures.taken c.leave.ensures.shown (c.leave.ensures.shown ∙ loop_left _ _ _ _ c.in_ok-outer-in-Loop.outer c.in_ok-skipped-in-Loop.skipped c.in_ok-outer-in-Loop.ensures.outside c.in_ok-skipped-in-Loop.ensures.scope c.in_ok-validate_statements-in-Loop.ensures.scope) (apart_still _ _ _ _ c.in_ok-outer-in-Loop.outer c.in_ok-skipped-in-Loop.skipped c.in_ok-outer-in-Loop.ensures.outside c.in_ok-skipped-in-Loop.ensures.scope c.in_ok-validate_statements-in-Loop.ensures.scope)

pub validate_nested-returns-in_ok-check_break_if-in-Loop-clause-taken : goal.validate_nested-returns-in_ok-check_break_if-in-Loop-clause-taken
validate_nested-returns-in_ok-check_break_if-in-Loop-clause-taken t c =
    let entered = c.in_ok-outer-in-Loop.ensures.entered.taken in
    let body = c.in_ok-skipped-in-Loop.ensures.scope.taken in
    let behind = c.in_ok-validate_statements-in-Loop.ensures.scope.taken in
    let same = c.leave.ensures.taken in
    omega (arith, entered, body, behind, same)

pub validate_loop_body-returns-in-Some-clause-table : goal.validate_loop_body-returns-in-Some-clause-table
validate_loop_body-returns-in-Some-clause-table t c =
    let context = context_of c.args.context.now in
    let whole = block_of context c.args.block.now in
    let xs = c.as_slice-located-items.result.now in
    let i = c.loop-located.located-index in
    let at = subst (λ o. PutsOfLoop c.args.table.now.scope c.loop-located.table.scope o (list_of context (drop i xs)) whole) c.in-Some.is c.loop-located.invariant.puts in
    let all = subst (λ b. PutsOfLoop c.args.table.now.scope c.loop-located.table.scope (Some c.in-Some.number) b whole) (rest_end context xs i c.loop-located-test.false) at in
    skipped_table c.in-Some.number c.loop-located.invariant.table c.skip.ensures.count c.skip.ensures.taken c.skip.ensures.shown (last_parted c.args.table.now.scope c.loop-located.table.scope c.in-Some.number whole all _ c.skip.ensures.shown)
