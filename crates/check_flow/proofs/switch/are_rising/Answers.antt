use Rattle.std.proofs.Common.{◌≡◌, Some, true, false, take, refl, sym, ◌∙◌}
use Rattle.std.specs.List.{list_any}
use Rattle.ir_statements.specs.declared.statements.SwitchCase.{out-SwitchCase}
use Rattle.check_scope.specs.BodyTrees.{case_list}
use Rattle.check_flow.specs.Switch.{has_signedness_of, same_value, values_of}
use Rattle.check_flow.specs.walk.SwitchParts.{risen}
use Rattle.check_flow.proofs.Rising.{new_behind, below_more}
use Rattle.check_flow.proofs.Values.{value_passes}
use Rattle.check_flow.proofs.switch.are_rising.Goals as goal

pub loop-case-init : goal.loop-case-init
loop-case-init c = record {
  faults = refl;
  below = tt;
}

pub loop-case-preserved : goal.loop-case-preserved
loop-case-preserved c =
    let i = c.loop-case.case-index in
    let cs = c.args.cases.now in
    let x = c.case-item.result in
    let lt = c.loop-case-test.true in
    let is = c.case-item.is in
    let s = c.loop-case.so_far in
    let t = c.in-Some.next in
    let up : risen s (out-SwitchCase x).value ≡ Some t = sym c.risen.ensures ∙ c.in-Some.is in
    let signed : has_signedness_of c.args.selector (out-SwitchCase x).value ≡ true = cc in
    let new : list_any (same_value (out-SwitchCase x).value) (values_of (case_list (take i cs))) ≡ false = new_behind s t (out-SwitchCase x).value _ up c.loop-case.invariant.below in
    record {
      faults = sym (value_passes cs i x lt is c.args.selector signed new) ∙ c.loop-case.invariant.faults;
      below = below_more s t cs i x lt is up c.loop-case.invariant.below;
    }
