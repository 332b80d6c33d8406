-- Steps of the loops that write lists.
use Rattle.std.proofs.Common.{◌≡◌, ◌+◌, ◌<◌, ℕ, List, ◌∷◌, ◌++◌, length, drop, get_or, map, sym, ap, ◌∙◌}
use Rattle.std.proofs.lemmas.List.{drop_more, append_assoc}
use Rattle.bitflags.specs.Sets.{Row}
use Rattle.bitflags.specs.declared.traits.Flag.{Flag}
use Rattle.json.specs.Json.{Json}
use Rattle.json.specs.Token.{Token}
use Rattle.json.specs.Tree.{json_tokens, items_tokens}
use Rattle.json_faults.specs.JsonForm.{each}

-- what is left to write after one item more
pub list_on : {A : Type 0} (form : A → Json) (old new : List Token) (xs : List A) (x : A) (i : ℕ) (all : List Token) → i < length xs → x ≡ get_or xs i x
    → new ≡ old ++ json_tokens (form x) → old ++ items_tokens (each form (drop i xs)) ≡ all → new ++ items_tokens (each form (drop (i + 1) xs)) ≡ all
list_on form old new xs x i all lt is wrote before =
    let rest = drop (i + 1) xs in
    let here : drop i xs ≡ x ∷ rest = drop_more xs i x lt ∙ ap (λ y. y ∷ rest) (sym is) in
    ap (λ ts. ts ++ items_tokens (each form rest)) wrote ∙ append_assoc old (json_tokens (form x)) _ ∙ ap (λ ys. old ++ items_tokens (each form ys)) (sym here) ∙ before

-- a table as its names and bits
abbrev pub rows_of : {B : Type 0} → (B → ℕ) → List (Flag B) → List Row
rows_of set_of flags = map (λ f. (f.name.now, set_of f.value)) flags
