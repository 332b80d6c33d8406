-- The text of a verdict in a form.
use Rattle.std.specs.Prelude.{ℕ, List, Option, ⊤}
use Rattle.ir_misfits.specs.declared.misfit.Misfit.{Misfit}
use Rattle.json_document.specs.declared.id.Id.{Id}
use Rattle.json_answers.specs.VerdictJson.{IsJsonOf}
use Rattle.json_answers.specs.declared.form.Form.{Form}
use Rattle.json_answers.specs.declared.form.Form.TheVariants as forms
use Rattle.json_answers.specs.declared.verdict.Verdict as judge

-- the text of a verdict with its id and its misfit: its JSON; of the text for people no more is said than that there is one
unfoldable pub IsTextOf : Form → Option Id → judge.Verdict → Option Misfit → List ℕ → Type 0
IsTextOf forms.Json id v misfit text = IsJsonOf id v misfit text
IsTextOf forms.Lines id v misfit text = ⊤
