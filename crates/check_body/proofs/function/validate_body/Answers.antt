use Rattle.std.proofs.Common.{rules, arith, ◌≡◌, Ok, sym, subst}
use Rattle.ir_facts.specs.Answers.{Answers, Exactly}
use Rattle.check_statement.specs.FunctionJudgement.{body_judgement}
use Rattle.check_scope.specs.Results.{filled_points}
use Rattle.check_scope.specs.BodyTrees.{emitted_operands}
use Rattle.check_scope.specs.walk.Table.{filled_in}
use Rattle.check_scope.proofs.Operands.{begun_operands}
use Rattle.check_scope.specs.walk.SeenContext.{context_of}
use Rattle.check_statement.specs.walk.State.{kept, state_left}
use Rattle.naga_runs.specs.Judgement.{viewed}
use Rattle.check_statement.proofs.Judged.{judged, outcome_refuses, unfilled_refuses, all_filled}
use Rattle.check_body.proofs.function.validate_body.Goals as goal
use Rattle.std.specs.Prelude.{Err}

pub validate_statements-requires-clause-table : goal.validate_statements-requires-clause-table
validate_statements-requires-clause-table c =
    let context = context_of c.args.context.now in
    let none = begun_operands c.begin-3.ensures c.in_ok-begin.ensures.taken c.in_ok-begin.ensures.last in
    record {
      scope = omega (arith, c.begin_columns.ensures.count, c.in_ok-begin.ensures.count, c.len-count.ensures.len);
      filled = omega (arith, c.begin_columns.ensures.marked, c.in_ok-begin-2.ensures.count, c.len-count.ensures.len);
      results = c.begin_columns.ensures.results;
      operands = c.begin_columns.ensures.operands (emitted_operands context.fun) c.begin-3.new.self none;
      roots = c.begin-4.ensures context;
    }

pub returns-in_err-validate_statements : goal.returns-in_err-validate_statements
returns-in_err-validate_statements c =
    let context = context_of c.args.context.now in
    let e = c.in_err-validate_statements.field-0.0 in
    let refused = subst (λ j. Answers (Exactly j) (Err e)) (sym (judged context)) (search rules) in
    let left = outcome_refuses context (body_judgement context) e refused in
    search (rules, left)

pub returns-in_err-answer_of_function : goal.returns-in_err-answer_of_function
returns-in_err-answer_of_function c =
    let context = context_of c.args.context.now in
    let filled = c.validate_statements.new.table.filled in
    let state = kept filled c.validate_statements.new.state in
    let is : viewed (state_left context) (body_judgement context) ≡ Ok state = rw (judged context) (search rules) in
    let unfilled = c.in_err-answer_of_function.ensures.fault (filled_points context (filled_in filled)) c.check_filled.ensures in
    unfilled_refuses context (body_judgement context) state c.from_residual-in_err-answer_of_function.result is (search rules) (search (rules, unfilled))

pub returns : goal.returns
returns c =
    let context = context_of c.args.context.now in
    let filled = c.validate_statements.new.table.filled in
    let state = kept filled c.validate_statements.new.state in
    let is : viewed (state_left context) (body_judgement context) ≡ Ok state = rw (judged context) (search rules) in
    let none = c.in_ok-answer_of_function.ensures.fault (filled_points context (filled_in filled)) c.check_filled.ensures in
    all_filled context (body_judgement context) state is none
