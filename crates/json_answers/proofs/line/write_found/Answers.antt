use Rattle.std.proofs.Common.{[], None}
use Rattle.json_answers.proofs.line.write_found.Goals as goal

pub returns-in-Err : goal.returns-in-Err
returns-in-Err c = ([], None, tt)
