-- What the reading of a text answers.
use Rattle.std.specs.Prelude.{◌≡◌, ◌≤◌, ℕ, IsUtf8, List, length, Some, Result, Ok, Err}
use Rattle.serde_json.specs.Read as json
use Rattle.json_document.specs.declared.document.Document.{Document}
use Rattle.json_values.specs.declared.error.ReadError.{ReadError}
use Rattle.json_values.specs.Failures.{IsUnreadable}
use Rattle.json_values.specs.Form.{given}
use Rattle.json_document.specs.Whole.{document_of}

-- A text is a document: UTF-8, not too long, JSON whose brackets nest at most 127 deep, and a value of the form.
abbrev pub IsDocument : List ℕ → Document → Type 0
IsDocument text d = IsUtf8 text × (length text ≤ 16777216) × (given (json.read text) document_of ≡ Some d)

-- It is the document that the text is, or the text is none; or there was no memory.
abbrev pub ReadsDocument : List ℕ → Result Document ReadError → Type 0
ReadsDocument text (Ok d) = IsDocument text d
ReadsDocument text (Err e) = IsUnreadable e → (d : Document) → IsDocument text d → ⊥
