-- What the exports answer, and what stands in the caller's memory after a call.
use Rattle.std.specs.Prelude.{◌≡◌, ◌⊎◌, ◌++◌, ℕ, List, [], ◌∷◌, Option, None, length, take, drop}
use Rattle.ir_misfits.specs.declared.misfit.Misfit.{Misfit}
use Rattle.json_document.specs.declared.id.Id.{Id}
use Rattle.json_verdict.specs.Judges.{HasMisfit, Judges}
use Rattle.json_answers.specs.Status.{status_of}
use Rattle.json_answers.specs.VerdictIds.{HasItsId}
use Rattle.json_answers.specs.declared.verdict.Verdict as judge
use Rattle.json_answers.specs.declared.verdict.Verdict.TheVariants as verdict
use Rattle.check_faults.specs.declared.module.ModuleFault.TheVariants as fault
use Rattle.leafnurd.specs.declared.reply.Answer.{Answer}
use Rattle.json_answers.specs.Texts.{IsTextOf}
use Rattle.json_answers.specs.declared.form.Form.{Form}

-- These bytes with a text at their front, as much of it as there is room for. Those after the text are as they were,
-- and there are as many bytes as before.
abbrev pub laid : List ℕ → List ℕ → List ℕ
laid text out = take (length out) text ++ drop (length text) out

-- The status is that of this verdict, the length is that of its text, and this text was laid into the caller's bytes.
abbrev pub Reports : Form → Option Id → judge.Verdict → Option Misfit → Answer → List ℕ → List ℕ → Type 0
Reports form id v misfit answer old new =
    (text : List ℕ) × IsTextOf form id v misfit text × (answer.status ≡ status_of v) × (answer.length ≡ length text)
    × (new ≡ laid text old)

-- This verdict is reported, or out of memory.
abbrev pub IsReported : Form → Option Id → judge.Verdict → Option Misfit → Answer → List ℕ → List ℕ → Type 0
IsReported form id v misfit answer old new =
    Reports form id v misfit answer old new ⊎ Reports form None (verdict.Refused fault.Memory) None answer old new

-- A verdict of the document is reported. That there was no memory is a verdict of each document (`Judges`), and needs no id.
abbrev pub IsAnswered : Form → List ℕ → Answer → List ℕ → List ℕ → Type 0
IsAnswered form document answer old new =
    (id : Option Id) × (v : judge.Verdict) × (misfit : Option Misfit) × Judges document v × HasMisfit document v misfit
    × HasItsId document v id × Reports form id v misfit answer old new

-- the version 0.1.0, in ASCII
abbrev pub version_text : List ℕ
version_text = 48 ∷ 46 ∷ 49 ∷ 46 ∷ 48 ∷ []
