-- What a value of a text is, beside its data: a look at the one gives what a look at the other gives.
use Rattle.std.proofs.Common.{◌≡◌, ℕ, List, Bool, false, Option, Some, None, option_map, option_and_then, is_some, refl, sym, ap, ◌∙◌, subst}
use Rattle.std.proofs.lemmas.Option.{none-some, same_Some, option_and_then_some}
use Rattle.std.specs.Option.{option_map_or}
use Rattle.json.specs.Json as json
use Rattle.json.specs.Find as find
use Rattle.serde_json.specs.Data.{Num, Data, null, boolean, number, string, array, object, Items, item, Members, no_members}
use Rattle.serde_json.specs.Find.{get, as_null, as_bool, as_number, as_str, as_array, as_object}
use Rattle.serde_json.specs.Read.{number_of, of_json, of_items, of_members}
use Rattle.json_nodes.specs.Fields.{only_of, has_no_other}
use Rattle.json_nodes.proofs.Members.{get_kept, some_kept, json_names_among, names_kept, json_only, only_kept}

mapped : {A B : Type 0} (f : A → B) (o : Option A) (b : B) → option_map f o ≡ Some b → (a : A) × (o ≡ Some a) × (b ≡ f a)
mapped f None b e = absurd (none-some b e)
mapped f (Some a) b e = (a, refl, sym (same_Some (f a) b e))

-- the data of a number, of an array and of an object
pub number_parts : (s : List ℕ) (d : Data) → of_json (json.number s) ≡ Some d → (n : Num) × (number_of s ≡ Some n) × (d ≡ number n)
number_parts s d e = mapped number (number_of s) d e

pub array_parts : (js : json.Items) (d : Data) → of_json (json.array js) ≡ Some d → (ds : Items) × (of_items js ≡ Some ds) × (d ≡ array ds)
array_parts js d e = mapped array (of_items js) d e

pub object_parts : (ms : json.Members) (d : Data) → of_json (json.object ms) ≡ Some d → (ds : Members) × (of_members ms no_members ≡ Some ds) × (d ≡ object ds)
object_parts ms d e = mapped object (of_members ms no_members) d e

-- the data of the first item, and of the items after it
pub item_parts : (j : json.Json) (js : json.Items) (ds : Items) → of_items (json.item j js) ≡ Some ds
    → (d : Data) × (es : Items) × (of_json j ≡ Some d) × (of_items js ≡ Some es) × (ds ≡ item d es)
item_parts j js ds e = option_and_then_some (λ d. option_map (item d) (of_items js)) (of_json j) ds e (λ d is more.
    let rest = mapped (item d) (of_items js) ds more in
    (d, rest.0, is, rest.1, rest.2))

-- what holds of each kind of value and its data holds of all
module _ (P : json.Json → Data → Type 0)
    (of_null : P json.null null)
    (of_boolean : (b : Bool) → P (json.boolean b) (boolean b))
    (of_number : (s : List ℕ) (n : Num) → number_of s ≡ Some n → P (json.number s) (number n))
    (of_string : (s : List ℕ) → P (json.string s) (string s))
    (of_array : (js : json.Items) (ds : Items) → of_items js ≡ Some ds → P (json.array js) (array ds))
    (of_object : (ms : json.Members) (ds : Members) → of_members ms no_members ≡ Some ds → P (json.object ms) (object ds)) where
  pub by_kind : (j : json.Json) (d : Data) → of_json j ≡ Some d → P j d
  by_kind json.null d e = subst (P json.null) (same_Some null d e) of_null
  by_kind (json.boolean b) d e = subst (P (json.boolean b)) (same_Some (boolean b) d e) (of_boolean b)
  by_kind (json.number s) d e = let parts = number_parts s d e in subst (P (json.number s)) (sym parts.2) (of_number s parts.0 parts.1)
  by_kind (json.string s) d e = subst (P (json.string s)) (same_Some (string s) d e) (of_string s)
  by_kind (json.array js) d e = let parts = array_parts js d e in subst (P (json.array js)) (sym parts.2) (of_array js parts.0 parts.1)
  by_kind (json.object ms) d e = let parts = object_parts ms d e in subst (P (json.object ms)) (sym parts.2) (of_object ms parts.0 parts.1)

pub null_kept : (j : json.Json) (d : Data) → of_json j ≡ Some d → find.is_null j ≡ is_some (as_null d)
null_kept = by_kind (λ j d. find.is_null j ≡ is_some (as_null d)) refl (λ b. refl) (λ s n e. refl) (λ s. refl) (λ js ds e. refl) (λ ms ds e. refl)

pub bool_kept : (j : json.Json) (d : Data) → of_json j ≡ Some d → find.as_bool j ≡ as_bool d
bool_kept = by_kind (λ j d. find.as_bool j ≡ as_bool d) refl (λ b. refl) (λ s n e. refl) (λ s. refl) (λ js ds e. refl) (λ ms ds e. refl)

pub str_kept : (j : json.Json) (d : Data) → of_json j ≡ Some d → find.as_str j ≡ as_str d
str_kept = by_kind (λ j d. find.as_str j ≡ as_str d) refl (λ b. refl) (λ s n e. refl) (λ s. refl) (λ js ds e. refl) (λ ms ds e. refl)

-- a number has the value of its text
pub number_kept : (j : json.Json) (d : Data) → of_json j ≡ Some d → option_and_then number_of (find.as_number j) ≡ as_number d
number_kept = by_kind (λ j d. option_and_then number_of (find.as_number j) ≡ as_number d) refl (λ b. refl) (λ s n e. e) (λ s. refl) (λ js ds e. refl) (λ ms ds e. refl)

pub array_kept : (j : json.Json) (d : Data) → of_json j ≡ Some d → option_and_then of_items (find.as_array j) ≡ as_array d
array_kept = by_kind (λ j d. option_and_then of_items (find.as_array j) ≡ as_array d) refl (λ b. refl) (λ s n e. refl) (λ s. refl) (λ js ds e. e) (λ ms ds e. refl)

-- an object is one
pub is_object_kept : (j : json.Json) (d : Data) → of_json j ≡ Some d → is_some (find.as_object j) ≡ is_some (as_object d)
is_object_kept = by_kind (λ j d. is_some (find.as_object j) ≡ is_some (as_object d)) refl (λ b. refl) (λ s n e. refl) (λ s. refl) (λ js ds e. refl) (λ ms ds e. refl)

-- ---- the fields of an object

pub field_kept : (name : List ℕ) (j : json.Json) (d : Data) → of_json j ≡ Some d → option_and_then of_json (find.get name j) ≡ get name d
field_kept name =
    by_kind (λ j d. option_and_then of_json (find.get name j) ≡ get name d)
    refl (λ b. refl) (λ s n e. refl) (λ s. refl) (λ js ds e. refl) (λ ms ds e. sym (get_kept name ms ds e))

-- a field that a text has is one of its data
pub field_found : (name : List ℕ) (i j : json.Json) (d : Data) → of_json j ≡ Some d → find.get name j ≡ Some i → (e : Data) × (of_json i ≡ Some e) × (Some e ≡ get name d)
field_found name i =
    by_kind (λ j d. find.get name j ≡ Some i → (e : Data) × (of_json i ≡ Some e) × (Some e ≡ get name d))
    (λ here. absurd (none-some i here)) (λ b here. absurd (none-some i here)) (λ s n e here. absurd (none-some i here))
    (λ s here. absurd (none-some i here)) (λ js ds e here. absurd (none-some i here))
    (λ ms ds e here.
    let last = some_kept name ms ds i e here in
    (last.0, last.1, sym (get_kept name ms ds e ∙ ap (option_and_then of_json) here ∙ last.1)))

pub only_field_kept : (j : json.Json) (d : Data) → of_json j ≡ Some d → option_and_then json_only (find.as_object j) ≡ option_and_then only_of (as_object d)
only_field_kept =
    by_kind (λ j d. option_and_then json_only (find.as_object j) ≡ option_and_then only_of (as_object d))
    refl (λ b. refl) (λ s n e. refl) (λ s. refl) (λ js ds e. refl) (λ ms ds e. sym (only_kept ms ds e))

pub no_other_kept : (names : List (List ℕ)) (j : json.Json) (d : Data) → of_json j ≡ Some d → option_map_or (json_names_among names) (find.as_object j) false ≡ has_no_other names d
no_other_kept names =
    by_kind (λ j d. option_map_or (json_names_among names) (find.as_object j) false ≡ has_no_other names d)
    refl (λ b. refl) (λ s n e. refl) (λ s. refl) (λ js ds e. refl) (λ ms ds e. sym (names_kept names ms ds e))
