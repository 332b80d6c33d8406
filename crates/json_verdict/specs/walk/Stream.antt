-- What is kept of a text while it is read, and what is written of its verdict.
use Rattle.std.specs.Prelude.{◌≡◌, ◌⊎◌, ℕ, false, List, Option, None, take}
use Rattle.std.specs.Io.KnownBytes.{Appends}
use Rattle.ir_misfits.specs.declared.misfit.Misfit.{Misfit}
use Rattle.check_faults.specs.declared.module.ModuleFault.TheVariants as faults
use Rattle.json_document.specs.declared.id.Id.{Id}
use Rattle.json_answers.specs.Status.{status_of}
use Rattle.json_verdict.specs.Runs.{IsLineOf}
use Rattle.json_verdict.specs.declared.text.Bytes.{Bytes}
use Rattle.json_answers.specs.declared.verdict.Verdict as judge
use Rattle.json_answers.specs.declared.verdict.Verdict.TheVariants as verdicts
use Rattle.json_answers.specs.declared.form.Form.{Form}

-- how much of a text is kept: one byte more than a document may have
abbrev pub most : ℕ
most = 16777217

-- the bytes are those of the text, as many as are kept; or some are lost
unfoldable pub Holds : Bytes → List ℕ → Type 0
Holds bytes text = bytes.is_lost ≡ false → bytes.kept.items ≡ take most text

-- the line of this verdict was written
abbrev pub WritesLine : Form → Option Id → judge.Verdict → Option Misfit → Option (List ℕ) → Option (List ℕ) → ℕ → Type 0
WritesLine form id v misfit old new status =
    (line : List ℕ) × IsLineOf form id v misfit line × Appends old new line × (status ≡ status_of v)

-- the line of the verdict was written, or that there was no memory
abbrev pub WritesLineOrMemory : Form → Option Id → judge.Verdict → Option Misfit → Option (List ℕ) → Option (List ℕ) → ℕ → Type 0
WritesLineOrMemory form id v misfit old new status =
    WritesLine form id v misfit old new status ⊎ WritesLine form None (verdicts.Refused faults.Memory) None old new status
