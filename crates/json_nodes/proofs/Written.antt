-- The fields of an object as they stand in a text, beside those of its data.
use Rattle.std.proofs.Common.{◌≡◌, ℕ, ◌≤◌, max, Bool, true, false, ◌&&◌, cond, List, Option, Some, None, option_map, option_and_then, bytes_eq, refl, sym, ap, ◌∙◌, arith}
use Rattle.std.proofs.lemmas.Option.{none-some, same_Some}
use Rattle.json.specs.Json.{Json, null, boolean, number, string, array, object, Members, no_members, member}
use Rattle.json.specs.Find as find
use Rattle.json.specs.Tree.{depth, members_depth}
use Rattle.serde_json.specs.Data as serde
use Rattle.serde_json.specs.Read.{of_json, of_members}
use Rattle.json_nodes.specs.Fields.{is_among, only_of}
use Rattle.json_nodes.specs.Written.{last_value, only_field, are_among}
use Rattle.json_nodes.proofs.Members.{member_parts, json_names_among, only_from, json_only, only_kept}

kept_by : {A : Type 0} (b : Bool) (o : Option A) (a : A) → cond b o None ≡ Some a → o ≡ Some a
kept_by true o a e = e
kept_by false o a e = absurd (none-some a e)

-- ---- the only field

-- a field with its data
abbrev pub meant : List ℕ × Json → Option (List ℕ × serde.Data)
meant f = option_map (λ d. (f.0, d)) (of_json f.1)

module _ (k : List ℕ) (i : Json) (ms : Members) where
  last_by : (b : Bool) → only_from k i ms ≡ option_and_then meant (option_map (λ x. (k, x)) (last_value k i ms))
      → cond b (only_from k i ms) None ≡ option_and_then meant (option_map (λ x. (k, x)) (cond b (last_value k i ms) None))
  last_by true e = e
  last_by false e = refl

last_meant : (k : List ℕ) (j : Json) (ms : Members) → only_from k j ms ≡ option_and_then meant (option_map (λ x. (k, x)) (last_value k j ms))
last_meant k j no_members = refl
last_meant k j (member l i ms) = last_by k i ms (bytes_eq l k) (last_meant k i ms)

-- the only field of the data is that of the text
pub only_meant : (ms : Members) → json_only ms ≡ option_and_then meant (only_field ms)
only_meant no_members = refl
only_meant (member k j ms) = last_meant k j ms

last_found : (k : List ℕ) (j i : Json) (ms : Members) (d : serde.Data) (found ds : serde.Members) → of_json j ≡ Some d → of_members ms found ≡ Some ds → last_value k j ms ≡ Some i
    → (e : serde.Data) × (of_json i ≡ Some e)
last_found k j i no_members d found ds is e here = (d, ap of_json (sym (same_Some j i here)) ∙ is)
last_found k j i (member l x ms) d found ds is e here =
    let parts = member_parts l x ms found ds e in
    last_found k x i ms parts.0 (serde.put l parts.0 found) ds parts.1 parts.2 (kept_by (bytes_eq l k) _ i here)

named : (k l : List ℕ) (o : Option Json) (i : Json) → option_map {U = List ℕ × Json} (λ x. (k, x)) o ≡ Some (l, i) → o ≡ Some i
named k l None i e = absurd (none-some (l, i) e)
named k l (Some j) i e = ap (λ f. Some f.1) (same_Some (k, j) (l, i) e)

-- it has data
pub only_found : (ms : Members) (ds : serde.Members) (k : List ℕ) (i : Json) → of_members ms serde.no_members ≡ Some ds → only_field ms ≡ Some (k, i) → (e : serde.Data) × (of_json i ≡ Some e)
only_found no_members ds k i e here = absurd (none-some (k, i) here)
only_found (member l j ms) ds k i e here =
    let parts = member_parts l j ms serde.no_members ds e in
    last_found l j i ms parts.0 (serde.put l parts.0 serde.no_members) ds parts.1 parts.2 (named l k (last_value l j ms) i here)

-- and is the only field of the data
pub only_same : (ms : Members) (ds : serde.Members) (k : List ℕ) (i : Json) (d : serde.Data) → of_members ms serde.no_members ≡ Some ds → only_field ms ≡ Some (k, i) → of_json i ≡ Some d
    → only_of ds ≡ Some (k, d)
only_same ms ds k i d e here is = only_kept ms ds e ∙ only_meant ms ∙ ap (option_and_then meant) here ∙ ap (option_map (λ x. (k, x))) is

last_below : (k : List ℕ) (j i : Json) (ms : Members) → last_value k j ms ≡ Some i → depth i ≤ max (depth j) (members_depth ms)
last_below k j i no_members here = omega (arith, ap depth (same_Some j i here))
last_below k j i (member l x ms) here = omega (arith, last_below k x i ms (kept_by (bytes_eq l k) _ i here))

-- it nests no deeper than the members
pub only_below : (ms : Members) (k : List ℕ) (i : Json) → only_field ms ≡ Some (k, i) → depth i ≤ members_depth ms
only_below no_members k i here = absurd (none-some (k, i) here)
only_below (member l j ms) k i here = last_below l j i ms (named l k (last_value l j ms) i here)

-- ---- names

pub among_written : (names : List (List ℕ)) (ms : Members) → are_among names ms ≡ json_names_among names ms
among_written names no_members = refl
among_written names (member k j ms) = ap (λ b. is_among k names && b) (among_written names ms)

-- ---- a field of a name

last_or : (o : Option Json) (b : Bool) (j i : Json) (ms : Members) → find.later_or o (cond b (Some j) None) ≡ Some i → (o ≡ Some i → depth i ≤ members_depth ms) → depth i ≤ max (depth j) (members_depth ms)
last_or (Some x) b j i ms e h = omega (arith, h e)
last_or None true j i ms e h = omega (arith, ap depth (same_Some j i e))
last_or None false j i ms e h = absurd (none-some i e)

member_below : (name : List ℕ) (ms : Members) (i : Json) → find.get_member name ms ≡ Some i → depth i ≤ members_depth ms
member_below name no_members i e = absurd (none-some i e)
member_below name (member k j ms) i e = last_or (find.get_member name ms) (bytes_eq k name) j i ms e (member_below name ms i)

-- it nests no deeper than the object
pub field_below : (name : List ℕ) (j i : Json) → find.get name j ≡ Some i → depth i ≤ depth j
field_below name null i e = absurd (none-some i e)
field_below name (boolean b) i e = absurd (none-some i e)
field_below name (number s) i e = absurd (none-some i e)
field_below name (string s) i e = absurd (none-some i e)
field_below name (array js) i e = absurd (none-some i e)
field_below name (object ms) i e = omega (arith, member_below name ms i e)
