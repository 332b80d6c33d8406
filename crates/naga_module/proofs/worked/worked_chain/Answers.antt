use Rattle.naga_module.proofs.WorkedChain.{chain_rows}
use Rattle.naga_module.proofs.worked.worked_chain.Goals as goal

pub returns : goal.returns
returns c = chain_rows
