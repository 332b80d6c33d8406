use Rattle.case_notation.proofs.Reading.Whole.{one_input}
use Rattle.case_notation.proofs.case.one_reading.Goals as goal

pub returns : goal.returns
returns c = one_input
