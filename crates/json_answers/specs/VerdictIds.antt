-- Ids of documents in their verdicts.
use Rattle.std.specs.Prelude.{◌≡◌, ◌⊎◌, ℕ, List, [], ◌∷◌, ◌++◌, Option, None, Some, codes}
use Rattle.json.specs.Json.{Json, null, boolean, number, string, array, object, member}
use Rattle.json.specs.Token as token
use Rattle.json.specs.Token.{Token}
use Rattle.json.specs.Tree.{json_tokens}
use Rattle.json_document.specs.Ids.{IsIdOf}
use Rattle.json_document.specs.declared.id.Id.{Id}
use Rattle.json_document.specs.declared.id.Id.TheVariants as ids
use Rattle.json_faults.specs.JsonForm.{signed_form}
use Rattle.json_answers.specs.Status.{status_of}
use Rattle.json_answers.specs.declared.verdict.Verdict as judge

-- an id as JSON
abbrev pub id_form : Id → Json
id_form (ids.Text text) = string text
id_form (ids.Integer n) = signed_form n

-- an object with one field more in front, the id; what is no object, as the text of out of memory, stays as it is
abbrev pub with_id : Id → Json → Json
with_id id null = null
with_id id (boolean b) = boolean b
with_id id (number n) = number n
with_id id (string s) = string s
with_id id (array js) = array js
with_id id (object ms) = object (member (codes "id") (id_form id) ms)

abbrev pub maybe_with_id : Option Id → Json → Json
maybe_with_id None j = j
maybe_with_id (Some id) j = with_id id j

-- the id of a text with this verdict; out of memory need not have it
abbrev pub HasItsId : List ℕ → judge.Verdict → Option Id → Type 0
HasItsId text v id = (status_of v ≡ 3) ⊎ IsIdOf text id

-- the tokens of an object up to the value of a field with this name, which has only the id before it, if there is one
abbrev pub opening : Option Id → List ℕ → List Token
opening None name = token.begin_object ∷ token.key name ∷ []
opening (Some id) name = token.begin_object ∷ token.key (codes "id") ∷ (json_tokens (id_form id) ++ token.key name ∷ [])
