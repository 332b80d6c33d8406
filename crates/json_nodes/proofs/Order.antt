-- What follows where the names of the members of a text are some names, in their order: no other name comes, and each is there.
use Rattle.std.proofs.Common.{◌≡◌, ℕ, List, [], ◌∷◌, Bool, true, false, cond, Option, Some, None, option_and_then, is_some, bytes_eq, refl, ap, ◌∙◌}
use Rattle.std.proofs.lemmas.Bool.{false≢true, and_parts, and_from, or_left, or_right}
use Rattle.std.specs.Option.{option_map_or}
use Rattle.json.specs.Json as json
use Rattle.json.specs.Find as find
use Rattle.serde_json.specs.Data.{Data, Members, no_members, object}
use Rattle.serde_json.specs.Find.{get, get_member}
use Rattle.serde_json.specs.Read.{of_json, of_members}
use Rattle.json_nodes.specs.Fields.{is_among, has_no_other, has_each}
use Rattle.json_nodes.specs.Written.{are_in_order}
use Rattle.json_nodes.proofs.Members.{get_kept, some_kept, json_names_among, names_kept}
use Rattle.json_nodes.proofs.Values.{by_kind}

-- no other name comes; each of these names is one of all
in_order_among : (names all : List (List ℕ)) (ms : json.Members) → are_in_order names ms ≡ true → ((k : List ℕ) → is_among k names ≡ true → is_among k all ≡ true) → json_names_among all ms ≡ true
in_order_among [] all json.no_members h up = refl
in_order_among [] all (json.member k j ms) h up = absurd (false≢true h)
in_order_among (name ∷ names) all json.no_members h up = absurd (false≢true h)
in_order_among (name ∷ names) all (json.member k j ms) h up =
    let parts = and_parts (bytes_eq k name) (are_in_order names ms) h in
    let here = up k (or_left (bytes_eq k name) (is_among k names) parts.0) in
    let rest = in_order_among names all ms parts.1 (λ l e. up l (or_right (bytes_eq l name) (is_among l names) e)) in
    and_from (is_among k all) (json_names_among all ms) here rest

-- a member has the name
comes_here : (o : Option json.Json) (b : Bool) (j : json.Json) → b ≡ true → is_some (find.later_or o (cond b (Some j) None)) ≡ true
comes_here None b j e = ap (λ c. is_some (cond c (Some j) None)) e
comes_here (Some i) b j e = refl

comes_later : (o p : Option json.Json) → is_some o ≡ true → is_some (find.later_or o p) ≡ true
comes_later None p e = absurd (false≢true e)
comes_later (Some i) p e = refl

-- each name is there; what the members have, d has
in_order_each : (names : List (List ℕ)) (ms : json.Members) (d : Data) → are_in_order names ms ≡ true → ((k : List ℕ) → is_some (find.get_member k ms) ≡ true → is_some (get k d) ≡ true) → has_each names d ≡ true
in_order_each [] ms d h up = refl
in_order_each (name ∷ names) json.no_members d h up = absurd (false≢true h)
in_order_each (name ∷ names) (json.member k j ms) d h up =
    let parts = and_parts (bytes_eq k name) (are_in_order names ms) h in
    let here = up name (comes_here (find.get_member name ms) (bytes_eq k name) j parts.0) in
    let rest = in_order_each names ms d parts.1 (λ l e. up l (comes_later (find.get_member l ms) (cond (bytes_eq k l) (Some j) None) e)) in
    and_from (is_some (get name d)) (has_each names d) here rest

-- a name of the text is one of the data
module _ (k : List ℕ) (ms : json.Members) (ds : Members) (e : of_members ms no_members ≡ Some ds) where
  has_data : (o : Option json.Json) → find.get_member k ms ≡ o → is_some o ≡ true → is_some (get_member k ds) ≡ true
  has_data None is h = absurd (false≢true h)
  has_data (Some j) is h = ap is_some (get_kept k ms ds e ∙ ap (option_and_then of_json) is ∙ (some_kept k ms ds j e is).1)

-- whether a value of a text is an object with these fields, in this order
abbrev pub is_in_order : List (List ℕ) → json.Json → Bool
is_in_order names j = option_map_or (are_in_order names) (find.as_object j) false

-- what its data then has
abbrev pub HasThese : List (List ℕ) → Data → Type 0
HasThese names d = (has_no_other names d ≡ true) × (has_each names d ≡ true)

pub in_order_kept : (names : List (List ℕ)) (j : json.Json) (d : Data) → of_json j ≡ Some d → is_in_order names j ≡ true → HasThese names d
in_order_kept names =
    by_kind (λ j d. is_in_order names j ≡ true → HasThese names d)
    (λ h. absurd (false≢true h)) (λ b h. absurd (false≢true h)) (λ s n e h. absurd (false≢true h)) (λ s h. absurd (false≢true h)) (λ js ds e h. absurd (false≢true h))
    (λ ms ds e h. (
      names_kept names ms ds e ∙ in_order_among names names ms h (λ k here. here),
      in_order_each names ms (object ds) h (λ k here. has_data k ms ds e (find.get_member k ms) refl here),
    ))
