use Rattle.std.proofs.Common.{refl}
use Rattle.std.specs.Prelude.{codes}
use Rattle.json_answers.proofs.Memory.{memory_json}
use Rattle.json_answers.specs.Texts.{IsTextOf}
use Rattle.json_verdict.specs.Runs.{IsLineOf}
use Rattle.json_verdict.proofs.reply.memory_line.Goals as goal

pub returns-in-Lines : goal.returns-in-Lines
unfolding IsLineOf IsTextOf
returns-in-Lines c = rw c.in-Lines.is (codes "memory", tt, refl)

pub returns-in-Json : goal.returns-in-Json
unfolding IsLineOf IsTextOf
returns-in-Json c = rw c.in-Json.is (codes "\"memory\"", memory_json, refl)
