use Rattle.ir_types.proofs.TypeTests.{same_iff, equivalent_iff, exchange_iff, member_iff, scalar_iff}
use Rattle.ir_types.proofs.type_methods.type_tests_law.Goals as goal

pub returns-clause-same : goal.returns-clause-same
returns-clause-same c = same_iff

pub returns-clause-equivalent : goal.returns-clause-equivalent
returns-clause-equivalent c = equivalent_iff

pub returns-clause-exchange_struct : goal.returns-clause-exchange_struct
returns-clause-exchange_struct c = exchange_iff

pub returns-clause-scalar : goal.returns-clause-scalar
returns-clause-scalar c = scalar_iff

pub returns-clause-scalar_member : goal.returns-clause-scalar_member
returns-clause-scalar_member c = member_iff
