use Rattle.std.proofs.Common.{rules}
use Rattle.json_answers.proofs.Objects.{written}
use Rattle.json_answers.specs.VerdictJson.{placed_form}
use Rattle.json_answers.proofs.line.write_placed.Goals as goal

pub returns : goal.returns
unfolding placed_form
returns g c = search (rules, written)
