-- What a text is, by the value that it is read as.
use Rattle.std.proofs.Common.{◌≡◌, ◌≤◌, ℕ, List, length, Option, Some, None, Result, Ok, Err, ap, sym, ◌∙◌}
use Rattle.std.specs.Prelude.{IsUtf8}
use Rattle.serde_json.specs.Data.{Data}
use Rattle.serde_json.specs.Read as json
use Rattle.json_document.specs.Ids.{IsIdOf, id_in}
use Rattle.json_document.specs.ReadsDocument.{ReadsDocument}
use Rattle.json_document.specs.Whole.{document_of}
use Rattle.json_document.specs.declared.document.Document.{Document}
use Rattle.json_document.specs.declared.id.Id.{Id}
use Rattle.json_values.specs.declared.error.ReadError.{ReadError}
use Rattle.json_values.specs.Form.{given}
use Rattle.json_values.specs.Reads.{ReadsMeaning}

some_none : {A : Type 0} (x : A) (o : Option A) → o ≡ Some x → o ≡ None → ⊥
some_none x o is none = cc

-- the document that it is
pub reads_value : (text : List ℕ) (d : Data) (r : Result Document ReadError) → IsUtf8 text → length text ≤ 16777216 → json.read text ≡ Some d
    → ReadsMeaning (document_of d) r → ReadsDocument text r
reads_value text d (Ok x) utf8 le is means = (utf8, le, ap (λ o. given o document_of) is ∙ means)
reads_value text d (Err e) utf8 le is none = λ u x a.
    some_none x (document_of d) (sym (ap (λ o. given o document_of) is) ∙ a.2) (none u)

-- its id
pub has_id : (text : List ℕ) (d : Data) (id : Option Id) → IsUtf8 text → length text ≤ 16777216 → json.read text ≡ Some d
    → id ≡ id_in d → IsIdOf text id
has_id text d (Some id) utf8 le is named = (utf8, le, ap (λ o. given o id_in) is ∙ sym named)
has_id text d None utf8 le is named = λ id has.
    some_none id (id_in d) (sym (ap (λ o. given o id_in) is) ∙ has.2) (sym named)
