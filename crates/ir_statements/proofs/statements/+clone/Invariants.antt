use Rattle.std.proofs.Common.{◌≡◌, take}
use Rattle.ir_statements.proofs.statements.+clone.Given as goal

abbrev pub invariant-clone_list-loop-located : goal.invariant-clone_list-loop-located
invariant-clone_list-loop-located l = l.made ≡ take l.located-index l.list

abbrev pub invariant-clone_cases-loop-case : goal.invariant-clone_cases-loop-case
invariant-clone_cases-loop-case l = l.made ≡ take l.case-index l.cases
