use Rattle.std.proofs.Common.{◌≡◌, rules, sym, ap, subst, ◌∙◌}
use Rattle.std.specs.Prelude.{IfOk}
use Rattle.std.specs.Result.{result_err}
use Rattle.ir_arena.specs.Points.{first_fault}
use Rattle.ir_statements.specs.Tree.{Stmt}
use Rattle.ir_statements.specs.View.{no_operands, tree_of, list_body, list_cases}
use Rattle.ir_statements.proofs.Rows.{body_of-list, tree_of-switch}
use Rattle.ir_misfits.specs.declared.misfit.HandleOf.TheVariants.{Expressions}
use Rattle.ir_misfits.specs.declared.misfit.Place.TheVariants.{InStatement}
use Rattle.ir_misfits.specs.declared.misfit.StatementField.TheVariants.{Selector}
use Rattle.ir_misfits.specs.MisfitPoints.{named}
use Rattle.ir_misfits.specs.OfBodies.{next, after_statement, after_body, after_cases, statement_points, body_points, cases_points}
use Rattle.ir_misfits.proofs.Walks.{goes_on, list_stops, list_passes, list_after, cases_stop, cases_pass, cases_after}
use Rattle.ir_misfits.proofs.body.+check.Goals as goal

pub check_block-returns : goal.check_block-returns
check_block-returns t c = rw (body_of-list no_operands c.args.block.now, ← c.as_slice.ensures) c.check_list.ensures

pub check_list-returns-in_err-after-clause-first : goal.check_list-returns-in_err-after-clause-first
check_list-returns-in_err-after-clause-first t c =
    let ranges = c.args.ranges.now in
    let whole = first_fault (body_points ranges.module.now ranges.expressions ranges.earlier c.args.owner c.args.number (list_body no_operands c.args.list.now)) in
    let told = list_stops ranges.module.now ranges.expressions ranges.earlier c.args.owner c.args.list.now c.loop-located.located-index c.located-item.result c.loop-located-test.true c.located-item.is c.loop-located.after whole c.in_err-after.field-0.0 c.loop-located.invariant.0 c.in_err-after.ensures.first in
    search (rules, told)

pub check_list-loop-located-preserved : goal.check_list-loop-located-preserved
check_list-loop-located-preserved t c =
    let ranges = c.args.ranges.now in
    let whole = first_fault (body_points ranges.module.now ranges.expressions ranges.earlier c.args.owner c.args.number (list_body no_operands c.args.list.now)) in
    let count = after_body c.args.number (list_body no_operands c.args.list.now) in (
      list_passes ranges.module.now ranges.expressions ranges.earlier c.args.owner c.args.list.now c.loop-located.located-index c.located-item.result c.loop-located-test.true c.located-item.is c.loop-located.after c.in_ok-after.after whole c.loop-located.invariant.0 c.in_ok-after.ensures.first c.in_ok-after.ensures.after,
      list_after ranges.module.now ranges.expressions ranges.earlier c.args.owner c.args.list.now c.loop-located.located-index c.located-item.result c.loop-located-test.true c.located-item.is c.loop-located.after c.in_ok-after.after count c.loop-located.invariant.1 c.in_ok-after.ensures.after,
    )

pub check_cases-returns-in_err-after-clause-first : goal.check_cases-returns-in_err-after-clause-first
check_cases-returns-in_err-after-clause-first t c =
    let ranges = c.args.ranges.now in
    let whole = first_fault (cases_points ranges.module.now ranges.expressions ranges.earlier c.args.owner c.args.number (list_cases no_operands c.args.cases.now)) in
    let told = cases_stop ranges.module.now ranges.expressions ranges.earlier c.args.owner c.args.cases.now c.loop-case.case-index c.case-item.result c.loop-case-test.true c.case-item.is c.loop-case.after whole c.in_err-after.field-0.0 c.loop-case.invariant.0 c.in_err-after.ensures.first in
    search (rules, told)

pub check_cases-loop-case-preserved : goal.check_cases-loop-case-preserved
check_cases-loop-case-preserved t c =
    let ranges = c.args.ranges.now in
    let whole = first_fault (cases_points ranges.module.now ranges.expressions ranges.earlier c.args.owner c.args.number (list_cases no_operands c.args.cases.now)) in
    let count = after_cases c.args.number (list_cases no_operands c.args.cases.now) in (
      cases_pass ranges.module.now ranges.expressions ranges.earlier c.args.owner c.args.cases.now c.loop-case.case-index c.case-item.result c.loop-case-test.true c.case-item.is c.loop-case.after c.in_ok-after.after whole c.loop-case.invariant.0 c.in_ok-after.ensures.first c.in_ok-after.ensures.after,
      cases_after ranges.module.now ranges.expressions ranges.earlier c.args.owner c.args.cases.now c.loop-case.case-index c.case-item.result c.loop-case-test.true c.case-item.is c.loop-case.after c.in_ok-after.after count c.loop-case.invariant.1 c.in_ok-after.ensures.after,
    )

pub check_statement-returns-in_ok-names-in-Switch-clause-first : goal.check_statement-returns-in_ok-names-in-Switch-clause-first
check_statement-returns-in_ok-names-in-Switch-clause-first t c =
    let ranges = c.args.ranges.now in
    let k = c.args.number in
    let span = c.args.located.now.span in
    let e = ap (λ x. tree_of no_operands x span) c.in-Switch.is ∙ tree_of-switch no_operands c.in-Switch.selector c.in-Switch.cases span in
    let P : Stmt → Type 0 = λ tree. result_err c.check_cases.result ≡ first_fault (statement_points ranges.module.now ranges.expressions ranges.earlier c.args.owner k tree) in
    let first = named (InStatement c.args.owner k Selector) Expressions ranges.expressions c.in-Switch.selector in
    let cases = rw (c.next-inside.ensures, c.as_slice.ensures) at c.check_cases.ensures.first in
    let told = goes_on first.0 first.1 (cases_points ranges.module.now ranges.expressions ranges.earlier c.args.owner (next k) (list_cases no_operands c.in-Switch.cases)) (result_err c.check_cases.result) c.in_ok-names-in-Switch.ensures cases in
    subst P (sym e) told

pub check_statement-returns-in_ok-names-in-Switch-clause-after : goal.check_statement-returns-in_ok-names-in-Switch-clause-after
check_statement-returns-in_ok-names-in-Switch-clause-after t c =
    let span = c.args.located.now.span in
    let e = ap (λ x. tree_of no_operands x span) c.in-Switch.is ∙ tree_of-switch no_operands c.in-Switch.selector c.in-Switch.cases span in
    let P : Stmt → Type 0 = λ tree. IfOk c.check_cases.result (λ after. after ≡ after_statement c.args.number tree) in
    let told = rw (c.next-inside.ensures, c.as_slice.ensures) at c.check_cases.ensures.after in
    subst P (sym e) told
