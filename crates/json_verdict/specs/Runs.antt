-- What a run writes, and the status that it ends with.
use Rattle.std.specs.Prelude.{◌≡◌, ℕ, ◌==◌, List, [], ◌∷◌, ◌++◌, Option, codes, max, if◌then◌else◌}
use Rattle.std.specs.Io.KnownBytes.{Appends}
use Rattle.ir_misfits.specs.declared.misfit.Misfit.{Misfit}
use Rattle.json_document.specs.declared.id.Id.{Id}
use Rattle.json_verdict.specs.Judges.{HasMisfit, Judges}
use Rattle.json_answers.specs.Status.{status_of}
use Rattle.json_answers.specs.Texts.{IsTextOf}
use Rattle.json_answers.specs.VerdictIds.{HasItsId}
use Rattle.json_answers.specs.declared.verdict.Verdict as judge
use Rattle.json_answers.specs.declared.form.Form.{Form}
use Rattle.json_answers.specs.declared.form.Form.TheVariants as forms

-- the line of a verdict with its id and its misfit: its text in this form, and a newline
unfoldable pub IsLineOf : Form → Option Id → judge.Verdict → Option Misfit → List ℕ → Type 0
IsLineOf form id v misfit line = (text : List ℕ) × IsTextOf form id v misfit text × (line ≡ text ++ codes "\n")

-- The line and the status of a verdict of this text. That there was no memory is a verdict of each text (`Judges`), and needs
-- no id.
unfoldable pub IsReply : Form → List ℕ → List ℕ → ℕ → Type 0
IsReply form text line status =
    (id : Option Id) × (v : judge.Verdict) × (misfit : Option Misfit) × Judges text v × HasMisfit text v misfit
    × HasItsId text v id × IsLineOf form id v misfit line × (status ≡ status_of v)

-- the reply to the text was written, and nothing else
abbrev pub Replies : Form → List ℕ → Option (List ℕ) → Option (List ℕ) → ℕ → Type 0
Replies form text old new status = (line : List ℕ) × IsReply form text line status × Appends old new line

-- a byte before the first of these lines, or in a line of its own where there is none
abbrev pub with_byte : ℕ → List (List ℕ) → List (List ℕ)
with_byte b [] = (b ∷ []) ∷ []
with_byte b (line ∷ lines) = (b ∷ line) ∷ lines

-- the lines of an input, without their newlines; the last needs none
abbrev pub lines_of : List ℕ → List (List ℕ)
lines_of [] = []
lines_of (b ∷ bs) = if b == 10 then [] ∷ lines_of bs else with_byte b (lines_of bs)

-- the replies to these texts in their order, as JSON, and the largest of their statuses; 0 where there is no text
unfoldable pub AreReplies : List (List ℕ) → List ℕ → ℕ → Type 0
AreReplies [] out status = (out ≡ []) × (status ≡ 0)
AreReplies (text ∷ texts) out status =
    (line rest : List ℕ) × (this others : ℕ) × IsReply forms.Json text line this × AreReplies texts rest others
    × (out ≡ line ++ rest) × (status ≡ max this others)

-- the replies to the lines of the input were written, and nothing else
abbrev pub RepliesToLines : List ℕ → Option (List ℕ) → Option (List ℕ) → ℕ → Type 0
RepliesToLines input old new status = (out : List ℕ) × AreReplies (lines_of input) out status × Appends old new out
