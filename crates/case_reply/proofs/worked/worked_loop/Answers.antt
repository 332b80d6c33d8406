use Rattle.case_reply.proofs.WorkedLoop.{loop_rows}
use Rattle.case_reply.proofs.worked.worked_loop.Goals as goal

pub returns : goal.returns
returns c = loop_rows
