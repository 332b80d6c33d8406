use Rattle.std.proofs.Common.{rules}
use Rattle.json_answers.proofs.Objects.{written}
use Rattle.json_answers.specs.VerdictJson.{infos_form}
use Rattle.json_answers.proofs.line.write_infos.Goals as goal

pub returns : goal.returns
unfolding infos_form
returns c = search (rules, written)
