use Rattle.std.proofs.Common.{◌≡◌, drop}
use Rattle.ir_arena.specs.Points.{first_fault}
use Rattle.ir_statements.specs.View.{no_operands, list_body, list_cases}
use Rattle.ir_misfits.specs.OfBodies.{after_body, after_cases, body_points, cases_points}
use Rattle.ir_misfits.proofs.body.+check.Given as goal

-- what is left decides
abbrev pub invariant-check_list-loop-located : goal.invariant-check_list-loop-located
invariant-check_list-loop-located l =
    (first_fault (body_points l.ranges.module.now l.ranges.expressions l.ranges.earlier l.owner l.after (list_body no_operands (drop l.located-index l.list)))
    ≡ first_fault (body_points l.ranges.module.now l.ranges.expressions l.ranges.earlier l.owner l.number (list_body no_operands l.list)))
    × (after_body l.after (list_body no_operands (drop l.located-index l.list)) ≡ after_body l.number (list_body no_operands l.list))

abbrev pub invariant-check_cases-loop-case : goal.invariant-check_cases-loop-case
invariant-check_cases-loop-case l =
    (first_fault (cases_points l.ranges.module.now l.ranges.expressions l.ranges.earlier l.owner l.after (list_cases no_operands (drop l.case-index l.cases)))
    ≡ first_fault (cases_points l.ranges.module.now l.ranges.expressions l.ranges.earlier l.owner l.number (list_cases no_operands l.cases)))
    × (after_cases l.after (list_cases no_operands (drop l.case-index l.cases)) ≡ after_cases l.number (list_cases no_operands l.cases))
