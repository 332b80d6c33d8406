use Rattle.std.proofs.Common.{◌↔◌, drop}
use Rattle.ir_statements.specs.View.{no_operands, list_body, list_cases}
use Rattle.ir_facts.specs.FitsBody.{BodyFits, CasesFit}
use Rattle.ir_misfits.proofs.body.+fit.Given as goal

-- what is left decides
abbrev pub invariant-list_fits-loop-located : goal.invariant-list_fits-loop-located
invariant-list_fits-loop-located l =
    BodyFits l.ranges.module.now l.ranges.expressions l.ranges.earlier (list_body no_operands l.list)
    ↔ BodyFits l.ranges.module.now l.ranges.expressions l.ranges.earlier (list_body no_operands (drop l.located-index l.list))

abbrev pub invariant-cases_fit-loop-located : goal.invariant-cases_fit-loop-located
invariant-cases_fit-loop-located l =
    BodyFits l.ranges.module.now l.ranges.expressions l.ranges.earlier (list_body no_operands l.located-items)
    ↔ BodyFits l.ranges.module.now l.ranges.expressions l.ranges.earlier (list_body no_operands (drop l.located-index l.located-items))

abbrev pub invariant-cases_fit-loop-case : goal.invariant-cases_fit-loop-case
invariant-cases_fit-loop-case l =
    CasesFit l.ranges.module.now l.ranges.expressions l.ranges.earlier (list_cases no_operands l.cases)
    ↔ CasesFit l.ranges.module.now l.ranges.expressions l.ranges.earlier (list_cases no_operands (drop l.case-index l.cases))
