use Rattle.std.proofs.Common.{Some, None}
use Rattle.json_faults.specs.JsonForm.{optional}
use Rattle.json_answers.proofs.line.write_fault.Goals as goal

pub returns-in-Some : goal.returns-in-Some
unfolding optional
returns-in-Some g c = (Some c.as_str.result.now, c.write_placed.ensures)

pub returns-in-None : goal.returns-in-None
unfolding optional
returns-in-None g c = (None, c.write_placed-in-None.ensures)
