use Rattle.std.proofs.Common.{◌≡◌, [], take, drop}
use Rattle.ir_arena.specs.Points.{first_fault}
use Rattle.check_scope.specs.BodyTrees.{case_list}
use Rattle.check_flow.specs.Switch.{value_points, values_of}
use Rattle.check_flow.specs.walk.ValueSet.{HasValues}
use Rattle.check_flow.proofs.switch.check_each_value.Given as goal

abbrev pub invariant-loop-case : goal.invariant-loop-case
invariant-loop-case l = record {
  faults : first_fault (value_points l.selector (values_of (case_list (take l.case-index l.cases))) (values_of (case_list (drop l.case-index l.cases)))) ≡ first_fault (value_points l.selector [] (values_of (case_list l.cases)));
  seen : HasValues l.earlier (values_of (case_list (take l.case-index l.cases)));
}
