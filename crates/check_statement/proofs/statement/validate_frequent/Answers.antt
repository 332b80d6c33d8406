use Rattle.std.proofs.Common.{arith, rules, ◌≡◌, ◌<◌, ◌-◌, IfSome, Result, Ok, Err, subst, sym, ◌∙◌}
use Rattle.std.specs.Prelude.{IsErr, IsErrAnd}
use Rattle.ir_arena.specs.declared.span.Refusal.{Refusal}
use Rattle.ir_facts.specs.Answers.{IsFirstFault, Answers, FirstOf}
use Rattle.ir_errors.specs.declared.function.FunctionError.{FunctionError}
use Rattle.ir_statements.specs.View.{put_if}
use Rattle.check_scope.specs.BodyTrees.{emitted_operands}
use Rattle.check_scope.specs.ScopePoints.{Points}
use Rattle.check_scope.specs.walk.Place.{place_at}
use Rattle.check_scope.specs.walk.SeenContext.{context_of}
use Rattle.check_scope.proofs.Operands.{put_operands}
use Rattle.check_scope.specs.walk.Table.{filled_in, known}
use Rattle.check_flow.specs.Call.{call_points}
use Rattle.check_flow.proofs.Calls.{call_puts}
use Rattle.check_flow.proofs.Emits.{emit_puts}
use Rattle.check_statement.proofs.Parts.{in_leaf}
use Rattle.check_statement.proofs.statement.validate_frequent.Goals as goal

pub validate_emit-requires-clause-there : goal.validate_emit-requires-clause-there
validate_emit-requires-clause-there c =
    let fits = in_leaf (context_of c.args.context.now) _ _ _ (rw c.in-Emit.is at c.requires.statement) in
    omega (arith, c.requires.table.scope, fits.1)

pub returns-in_ok-validate_emit-in-Emit-clause-scope :
    goal.returns-in_ok-validate_emit-in-Emit-clause-scope
returns-in_ok-validate_emit-in-Emit-clause-scope c =
    rw (c.in-Emit.is, emit_puts (emitted_operands (context_of c.args.context.now).fun) c.in-Emit.range.start (c.in-Emit.range.end - c.in-Emit.range.start)) c.in_ok-validate_emit-in-Emit.ensures.scope

pub validate_call-requires-clause-callee : goal.validate_call-requires-clause-callee
validate_call-requires-clause-callee c =
    (in_leaf (context_of c.args.context.now) _ _ _ (rw c.in-Call.is at c.requires.statement)).1

pub validate_call-requires-clause-result : goal.validate_call-requires-clause-result
validate_call-requires-clause-result c =
    let fits = in_leaf (context_of c.args.context.now) _ _ _ (rw c.in-Call.is at c.requires.statement) in
    subst (λ n. IfSome c.in-Call.result (λ r. r < n)) (sym c.requires.table.scope) fits.3

pub fill_named-requires : goal.fill_named-requires
fill_named-requires c =
    let fits = in_leaf (context_of c.args.context.now) _ _ _ (rw c.in-Call.is at c.requires.statement) in
    subst (λ n. IfSome c.in-Call.result (λ r. r < n)) (sym c.requires.table.filled) fits.3

-- a refusal that is passed on
passed_on : {T : Type 0} (r : Result T (Refusal FunctionError)) (given : Refusal FunctionError) (points : Points) → IsErr r → IsErrAnd r (λ e. e ≡ given) → IsFirstFault points given → Answers (FirstOf points) r
passed_on (Ok t) given points err is first = cc
passed_on (Err e) given points err is first = subst (IsFirstFault points) (sym is) first

pub returns-in_err-validate_call-in-Call-clause-fault :
    goal.returns-in_err-validate_call-in-Call-clause-fault
returns-in_err-validate_call-in-Call-clause-fault c = λ abilities.
    let refused = c.from_residual-in_err-validate_call-in-Call in
    let points = call_points (context_of c.args.context.now) (filled_in c.args.table.now.filled) (place_at (known c.args.table.now.scope)) c.in-Call.function c.as_slice-arguments.result.now c.in-Call.result in
    rw (c.in-Call.is, ← c.as_slice-arguments.ensures) (passed_on refused.result c.in_err-validate_call-in-Call.field-0.0 points refused.ensures.0 refused.ensures.1 c.in_err-validate_call-in-Call.ensures.fault)

pub returns-in_ok-validate_call-in-Call-clause-scope :
    goal.returns-in_ok-validate_call-in-Call-clause-scope
returns-in_ok-validate_call-in-Call-clause-scope c =
    rw (c.in-Call.is, call_puts c.in-Call.arguments (put_if c.in-Call.result)) c.in_ok-validate_call-in-Call.ensures.scope

pub returns-in_ok-validate_call-in-Call-clause-table :
    goal.returns-in_ok-validate_call-in-Call-clause-table
returns-in_ok-validate_call-in-Call-clause-table c = record {
  scope = c.in_ok-validate_call-in-Call.ensures.scope.as_many ∙ c.requires.table.scope;
  filled = c.fill_named.ensures.count ∙ c.requires.table.filled;
  results = c.fill_named.ensures.results (context_of c.args.context.now) c.requires.table.results;
  operands = put_operands c.in_ok-validate_call-in-Call.ensures.scope c.requires.table.operands;
  roots = c.requires.table.roots;
}

-- what edits of the gate leave open

pub returns-in_ok-validate_emit-in-Emit-clause-table :
    goal.returns-in_ok-validate_emit-in-Emit-clause-table
returns-in_ok-validate_emit-in-Emit-clause-table c = search rules

pub returns-in_ok-validate_call-in-Call-clause-state :
    goal.returns-in_ok-validate_call-in-Call-clause-state
returns-in_ok-validate_call-in-Call-clause-state c = search rules
