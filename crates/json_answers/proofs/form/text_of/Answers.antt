use Rattle.std.proofs.Common.{Result, Ok, Err}
use Rattle.std.specs.Prelude.{IfOk, ⊤}
use Rattle.json_answers.specs.Texts.{IsTextOf}
use Rattle.json_answers.proofs.form.text_of.Goals as goal

any : {A E : Type 0} (r : Result A E) → IfOk r (λ x. ⊤)
any (Ok x) = tt
any (Err e) = tt

pub returns-in-Lines : goal.returns-in-Lines
unfolding IsTextOf
returns-in-Lines c = rw c.in-Lines.is (any c.lines_text.result)

pub returns-in-Json : goal.returns-in-Json
unfolding IsTextOf
returns-in-Json c = rw c.in-Json.is c.json_line.ensures
