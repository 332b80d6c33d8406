use Rattle.std.proofs.Common.{rules}
use Rattle.ir_facts.proofs.valid.info.FunctionInfo.insert_global_use.Goals as goal

-- what edits of the gate leave open

pub returns : goal.returns
returns c = search rules
