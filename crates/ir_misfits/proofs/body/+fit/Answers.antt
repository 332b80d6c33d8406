use Rattle.std.proofs.Common.{◌↔◌, IsTrue, List, sym, ap, subst, ◌∙◌}
use Rattle.ir_statements.specs.declared.statements.Located.{Located}
use Rattle.ir_statements.specs.declared.statements.SwitchCase.{SwitchCase, out-SwitchCase}
use Rattle.ir_statements.specs.Tree.{Stmt}
use Rattle.ir_statements.specs.View.{no_operands, tree_of, body_of, list_body, list_cases}
use Rattle.ir_statements.proofs.Rows.{body_of-list, tree_of-switch}
use Rattle.ir_facts.specs.FitsBody.{StatementFits, BodyFits, CasesFit}
use Rattle.ir_misfits.specs.declared.leaf.BodyRanges.{BodyRanges}
use Rattle.ir_misfits.proofs.Fitting.{goes_on, only_where, ends, of_block}
use Rattle.ir_misfits.proofs.body.+fit.Goals as goal

pub block_fits-returns : goal.block_fits-returns
block_fits-returns t c = rw (body_of-list no_operands c.args.block.now, ← c.as_slice.ensures) c.list_fits.ensures

-- of the statements of a list, and of the bodies of cases
module _ (ranges : BodyRanges) where
  abbrev List_fits : List Located → Type 0
  List_fits xs = BodyFits ranges.module.now ranges.expressions ranges.earlier (list_body no_operands xs)

  abbrev Located_fits : Located → Type 0
  Located_fits x = StatementFits ranges.module.now ranges.expressions ranges.earlier (tree_of no_operands x.statement x.span)

  abbrev Cases_fit : List SwitchCase → Type 0
  Cases_fit xs = CasesFit ranges.module.now ranges.expressions ranges.earlier (list_cases no_operands xs)

  abbrev Case_fits : SwitchCase → Type 0
  Case_fits x = BodyFits ranges.module.now ranges.expressions ranges.earlier (body_of no_operands (out-SwitchCase x).body)

pub list_fits-loop-located-preserved : goal.list_fits-loop-located-preserved
list_fits-loop-located-preserved t c =
    goes_on (List_fits c.args.ranges.now) (Located_fits c.args.ranges.now) (λ x xs. (λ h. h, λ h. h))
    c.args.list.now c.loop-located.located-index c.located-item.result c.loop-located-test.true c.located-item.is c.loop-located.invariant
    (c.statement_fits.ensures.0 c.if-not-statement_fits.false)

pub cases_fit-loop-located-preserved : goal.cases_fit-loop-located-preserved
cases_fit-loop-located-preserved t c =
    goes_on (List_fits c.args.ranges.now) (Located_fits c.args.ranges.now) (λ x xs. (λ h. h, λ h. h))
    c.as_slice-located-items.result.now c.loop-located.located-index c.located-item.result c.loop-located-test.true c.located-item.is c.loop-located.invariant
    (c.statement_fits.ensures.0 c.if-not-statement_fits.false)

pub cases_fit-returns-then-not-statement_fits : goal.cases_fit-returns-then-not-statement_fits
cases_fit-returns-then-not-statement_fits t c =
    let ranges = c.args.ranges.now in
    let items = c.as_slice-located-items.result.now in
    let case = c.case-item.result in
    let here = rw c.if-not-statement_fits.true at c.statement_fits.ensures in
    let list =
    only_where (List_fits ranges) (Located_fits ranges) (λ x xs. (λ h. h, λ h. h))
    items c.loop-located.located-index c.located-item.result c.loop-located-test.true c.located-item.is c.loop-located.invariant here.1 in
    let body = of_block ranges.module.now ranges.expressions ranges.earlier (out-SwitchCase case).body items c.as_slice-located-items.ensures in (
      λ h. cc,
      only_where (Cases_fit ranges) (Case_fits ranges) (λ x xs. (λ h. h, λ h. h))
          c.args.cases.now c.loop-case.case-index case c.loop-case-test.true c.case-item.is c.loop-case.invariant (λ h. list (body.0 h)),
    )

pub cases_fit-loop-case-preserved : goal.cases_fit-loop-case-preserved
cases_fit-loop-case-preserved t c =
    let ranges = c.args.ranges.now in
    let items = c.as_slice-located-items.result.now in
    let case = c.case-item.result in
    let list = ends (List_fits ranges) (Located_fits ranges) (λ x xs. (λ h. h, λ h. h)) items c.loop-located.located-index c.loop-located-test.false c.loop-located.invariant tt in
    let body = of_block ranges.module.now ranges.expressions ranges.earlier (out-SwitchCase case).body items c.as_slice-located-items.ensures in
    goes_on (Cases_fit ranges) (Case_fits ranges) (λ x xs. (λ h. h, λ h. h))
    c.args.cases.now c.loop-case.case-index case c.loop-case-test.true c.case-item.is c.loop-case.invariant (body.1 list)

pub statement_fits-returns-then-has-3 : goal.statement_fits-returns-then-has-3
statement_fits-returns-then-has-3 t c =
    let ranges = c.args.ranges.now in
    let span = c.args.located.now.span in
    let e = ap (λ x. tree_of no_operands x span) c.in-Switch.is ∙ tree_of-switch no_operands c.in-Switch.selector c.in-Switch.cases span in
    let P : Stmt → Type 0 = λ tree. IsTrue c.cases_fit.result ↔ StatementFits ranges.module.now ranges.expressions ranges.earlier tree in
    let selector = c.has-in-Switch.ensures.0 c.if-has-3.true in
    let cases = rw c.as_slice-then-has-3.ensures at c.cases_fit.ensures in
    subst P (sym e) (λ h. (selector, cases.0 h), λ f. cases.1 f.1)
