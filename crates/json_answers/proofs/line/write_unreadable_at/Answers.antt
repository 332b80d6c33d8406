use Rattle.std.proofs.Common.{rules}
use Rattle.json_answers.proofs.Objects.{written}
use Rattle.json_answers.specs.VerdictJson.{unreadable_at}
use Rattle.json_answers.proofs.line.write_unreadable_at.Goals as goal

pub returns : goal.returns
unfolding unreadable_at
returns c = search (rules, written)
