use Rattle.json_answers.proofs.Memory.{memory_json}
use Rattle.json_answers.specs.Texts.{IsTextOf}
use Rattle.json_answers.proofs.form.memory_text.Goals as goal

pub returns-in-Lines : goal.returns-in-Lines
unfolding IsTextOf
returns-in-Lines c = rw c.in-Lines.is tt

pub returns-in-Json : goal.returns-in-Json
unfolding IsTextOf
returns-in-Json c = rw c.in-Json.is memory_json
