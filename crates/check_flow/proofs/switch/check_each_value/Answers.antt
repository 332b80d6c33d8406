use Rattle.std.proofs.Common.{◌≡◌, true, false, take, sym, ◌∙◌, subst}
use Rattle.std.specs.List.{list_any}
use Rattle.ir_statements.specs.declared.statements.SwitchCase.{out-SwitchCase}
use Rattle.check_scope.specs.BodyTrees.{case_list}
use Rattle.check_flow.specs.Switch.{has_signedness_of, same_value, values_of}
use Rattle.check_flow.specs.walk.ValueSet.{HasValues}
use Rattle.check_flow.proofs.Values.{earlier, value_passes, not_held}
use Rattle.check_flow.proofs.switch.check_each_value.Goals as goal

pub loop-case-preserved : goal.loop-case-preserved
loop-case-preserved c =
    let i = c.loop-case.case-index in
    let cs = c.args.cases.now in
    let x = c.case-item.result in
    let lt = c.loop-case-test.true in
    let is = c.case-item.is in
    let v = (out-SwitchCase x).value in
    let before = values_of (case_list (take i cs)) in
    let seen = c.loop-case.invariant.seen in
    let signed : has_signedness_of c.args.selector v ≡ true = cc in
    let fresh = c.if-not-is_new.false in
    let new : list_any (same_value v) before ≡ false = not_held _ _ fresh (c.in_ok-is_new.ensures.new before seen) in
    record {
      faults = sym (value_passes cs i x lt is c.args.selector signed new) ∙ c.loop-case.invariant.faults;
      seen = subst (HasValues c.insert.new.self) (sym (earlier cs i x lt is)) (c.in_ok-is_new.ensures.kept before seen fresh);
    }
