use Rattle.std.proofs.Common.{rules, [], ◌++◌}
use Rattle.check_scope.specs.BodyTrees.{case_list}
use Rattle.check_scope.specs.walk.SeenContext.{context_of}
use Rattle.check_scope.specs.ExpressionTypes.{scalar_kind_at}
use Rattle.check_flow.specs.walk.SwitchParts.{selector_points, cases_points}
use Rattle.check_flow.specs.Switch.{value_points, values_of}
use Rattle.check_scope.specs.walk.Place.{place_at}
use Rattle.check_scope.specs.walk.Table.{known}
use Rattle.ir_facts.proofs.Refusals.{refuses_first, refuses_second}
use Rattle.check_flow.proofs.switch.check_switch.Goals as goal

pub returns-in_err-answer : goal.returns-in_err-answer
returns-in_err-answer c =
    let r = c.from_residual.result in
    let selector = selector_points (context_of c.args.context.now) (place_at (known c.args.scope.now)) c.args.selector in
    let values = value_points (scalar_kind_at (context_of c.args.context.now) c.args.selector) [] (values_of (case_list c.args.cases.now)) in
    let first = c.in_err-answer.ensures.fault selector c.check_selector.ensures in
    refuses_first r selector (values ++ cases_points (case_list c.args.cases.now)) (search rules) (search (rules, first))

pub returns-in_err-check_values : goal.returns-in_err-check_values
returns-in_err-check_values c =
    let r = c.from_residual-in_err-check_values.result in
    let selector = selector_points (context_of c.args.context.now) (place_at (known c.args.scope.now)) c.args.selector in
    let values = value_points (scalar_kind_at (context_of c.args.context.now) c.args.selector) [] (values_of (case_list c.args.cases.now)) in
    let whole = cases_points (case_list c.args.cases.now) in
    refuses_second r selector (values ++ whole) (c.in_ok-answer.ensures.fault selector c.check_selector.ensures) (refuses_first r values whole (search rules) (search rules))

pub returns : goal.returns
returns c =
    let r = c.answer-2.result in
    let selector = selector_points (context_of c.args.context.now) (place_at (known c.args.scope.now)) c.args.selector in
    let values = value_points (scalar_kind_at (context_of c.args.context.now) c.args.selector) [] (values_of (case_list c.args.cases.now)) in
    let whole = cases_points (case_list c.args.cases.now) in
    refuses_second r selector (values ++ whole) (c.in_ok-answer.ensures.fault selector c.check_selector.ensures) (refuses_second r values whole (search rules) (c.answer-2.ensures.fault whole c.check_cases.ensures))
