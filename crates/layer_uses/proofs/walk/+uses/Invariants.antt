use Rattle.std.proofs.Common.{◌≡◌, drop}
use Rattle.ir_statements.specs.View.{no_operands, list_body, list_cases}
use Rattle.layer_uses.specs.Walk.{body_uses, cases_uses}
use Rattle.layer_uses.proofs.walk.+uses.Given as goal

abbrev pub invariant-use_list-loop-located : goal.invariant-use_list-loop-located
invariant-use_list-loop-located l =
    body_uses l.globals l.infos l.roots l.uses.items (list_body no_operands (drop l.located-index l.list))
    ≡ body_uses l.globals l.infos l.roots l.fn.uses.items (list_body no_operands l.list)

abbrev pub invariant-use_cases-loop-case : goal.invariant-use_cases-loop-case
invariant-use_cases-loop-case l =
    cases_uses l.globals l.infos l.roots l.uses.items (list_cases no_operands (drop l.case-index l.cases))
    ≡ cases_uses l.globals l.infos l.roots l.fn.uses.items (list_cases no_operands l.cases)
