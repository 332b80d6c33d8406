use Rattle.std.proofs.Common.{rules}
use Rattle.ir_types.specs.TypeTests.{is_same_type}
use Rattle.ir_types.proofs.type_methods.compare_types.Goals as goal

-- what edits of the gate leave open

pub returns : goal.returns
unfolding is_same_type
returns c = search rules
