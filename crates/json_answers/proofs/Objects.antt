-- The object of a verdict, as it is written token by token.
use Rattle.std.proofs.Common.{◌≡◌, ℕ, List, [], ◌∷◌, ◌++◌, Option, Some, None, Result, Ok, Err, refl, ap, ◌∙◌}
use Rattle.std.proofs.lemmas.List.{append_assoc}
use Rattle.std.specs.Prelude.{OnOk, codes}
use Rattle.json.specs.Json.{Json, string, object, no_members, member}
use Rattle.json.specs.Token as token
use Rattle.json.specs.Token.{Token}
use Rattle.json.specs.Tree.{json_tokens}
use Rattle.json_document.specs.declared.id.Id.{Id}
use Rattle.json_faults.specs.JsonForm.{Writes, holding}
use Rattle.json_answers.specs.VerdictIds.{id_form, maybe_with_id, opening}

-- it is begun, its value is written, and it ends
whole : (id : Option Id) (name : List ℕ) (value : Json) (old : List Token)
    → ((old ++ opening id name) ++ json_tokens value) ++ token.end_object ∷ []
    ≡ old ++ json_tokens (maybe_with_id id (object (member name value no_members)))
whole None name value old =
    append_assoc (old ++ opening None name) (json_tokens value) (token.end_object ∷ [])
    ∙ append_assoc old (opening None name) (json_tokens value ++ token.end_object ∷ [])
whole (Some id) name value old =
    append_assoc (old ++ opening (Some id) name) (json_tokens value) (token.end_object ∷ [])
    ∙ append_assoc old (opening (Some id) name) (json_tokens value ++ token.end_object ∷ [])
    ∙ ap (λ l. old ++ token.begin_object ∷ token.key (codes "id") ∷ l)
    (append_assoc (json_tokens (id_form id)) (token.key name ∷ []) (json_tokens value ++ token.end_object ∷ []))

-- what begins it with an id
pub opened_with : {E : Type 0} (r : Result (Unit {0}) E) (id : Id) (o : Option Id) (name : List ℕ)
    (old begun put new : List Token) → o ≡ Some id
    → begun ≡ old ++ token.begin_object ∷ token.key (codes "id") ∷ [] → put ≡ begun ++ json_tokens (id_form id)
    → OnOk r (new ≡ put ++ token.key name ∷ []) → OnOk r (new ≡ old ++ opening o name)
opened_with (Ok unit) id o name old begun put new is begins puts ends =
    let opens = token.begin_object ∷ token.key (codes "id") ∷ [] in
    rw (ends, puts, begins, is) (append_assoc (old ++ opens) (json_tokens (id_form id)) (token.key name ∷ [])
    ∙ append_assoc old opens (json_tokens (id_form id) ++ token.key name ∷ []))
opened_with (Err e) id o name old begun put new is begins puts ends = tt

pub written : {E : Type 0} (r : Result (Unit {0}) E) (id : Option Id) (name : List ℕ) (value : Json)
    (old opened valued new : List Token)
    → opened ≡ old ++ opening id name → valued ≡ opened ++ json_tokens value → OnOk r (new ≡ valued ++ token.end_object ∷ [])
    → Writes r old new (maybe_with_id id (holding name value))
unfolding holding
written (Ok unit) id name value old opened valued new begun between ended = rw (ended, between, begun) (whole id name value old)
written (Err e) id name value old opened valued new begun between ended = tt

-- the text of out of memory has no field
pub text_named : (id : Option Id) (s : List ℕ) → maybe_with_id id (string s) ≡ string s
text_named None s = refl
text_named (Some id) s = refl
