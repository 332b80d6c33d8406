-- Ids of documents: what their senders call them.
use Rattle.std.specs.Prelude.{◌≡◌, ◌≤◌, ℕ, IsUtf8, List, length, codes, Option, None, Some, option_map, Result, Ok, Err, ⊤}
use Rattle.serde_json.specs.Data.{Data}
use Rattle.serde_json.specs.Find.{as_str}
use Rattle.serde_json.specs.Read as json
use Rattle.json_document.specs.declared.document.Document.{Document}
use Rattle.json_document.specs.declared.id.Id.{Id}
use Rattle.json_document.specs.declared.id.Id.TheVariants as ids
use Rattle.json_values.specs.declared.error.ReadError.{ReadError}
use Rattle.json_values.specs.Failures.{IsUnreadable}
use Rattle.json_values.specs.Form.{field_of, given}
use Rattle.json_values.specs.ReadNumbers.{i64_of}

abbrev pub id_from : Option (List ℕ) → Data → Option Id
id_from (Some text) d = Some (ids.Text text)
id_from None d = option_map ids.Integer (i64_of d)

-- a text, or an integer of 64 bits with a sign
abbrev pub id_of : Data → Option Id
id_of d = id_from (as_str d) d

-- the id that a value has in its field of this name, whether or not it is a document
abbrev pub id_in : Data → Option Id
id_in d = field_of id_of (codes "id") d

-- A text has this id: UTF-8, not too long, JSON, and a value with the id.
abbrev pub HasId : List ℕ → Id → Type 0
HasId text id = IsUtf8 text × (length text ≤ 16777216) × (given (json.read text) id_in ≡ Some id)

-- the id of a text, or that it has none
abbrev pub IsIdOf : List ℕ → Option Id → Type 0
IsIdOf text (Some id) = HasId text id
IsIdOf text None = (id : Id) → HasId text id → ⊥

-- there was memory for a reading
abbrev pub IsComplete : Result Document ReadError → Type 0
IsComplete (Ok d) = ⊤
IsComplete (Err e) = IsUnreadable e
