use Rattle.std.proofs.Common.{[], None}
use Rattle.json_answers.specs.VerdictJson.{verdict_form}
use Rattle.json_answers.proofs.line.write_verdict.Goals as goal

pub returns-in-Accepted : goal.returns-in-Accepted
unfolding verdict_form
returns-in-Accepted c = ([], None, rw c.in-Accepted.is c.write_infos.ensures)

pub returns-in-Refused : goal.returns-in-Refused
unfolding verdict_form
returns-in-Refused c = rw c.in-Refused.is c.write_found.ensures

pub returns-in-Unreadable : goal.returns-in-Unreadable
unfolding verdict_form
returns-in-Unreadable c = ([], None, rw c.in-Unreadable.is c.write_unreadable.ensures)
