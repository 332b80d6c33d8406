-- What is known of tokens that begin with a value, or with items of an array.
use Rattle.std.proofs.Common.{◌≡◌, ℕ, suc, ◌≤◌, List, ◌∷◌, ◌++◌, length, Option, Some, None, IsSome, option_and_then, refl, sym, ap, ap₂, ◌∙◌, subst, append_assoc, arith}
use Rattle.std.proofs.lemmas.Option.{none-some, some_pair_parts, option_and_then_some}
use Rattle.std.specs.Prelude.{unwrap_or}
use Rattle.json.specs.Token.{Token}
use Rattle.json.specs.Json.{Json, array, Items, no_items, item, parse_map, after_end_array, items, value}
use Rattle.json.specs.Find.{BeginsWith, InItems}
use Rattle.json.specs.Tree.{json_tokens, items_tokens, depth, items_depth}
use Rattle.json.proofs.Grammar.{closed_array}
use Rattle.json.proofs.Found.{items_close, items_go_on}
use Rattle.json.proofs.Nesting.{value-depth}
use Rattle.json.proofs.Printed.Trees.{value-json_tokens}
use Rattle.json.proofs.Unique.Spelling.{value-json_tokens_back}
use Rattle.serde_json.specs.Data as serde
use Rattle.serde_json.specs.Read.{of_json, of_items, max_depth}
use Rattle.json_nodes.specs.Nodes.{data_at, items_at, data_of, items_of, HoldsData, HoldsItems}

pub some_is : {A : Type 0} (o : Option A) → IsSome o → (a : A) × (o ≡ Some a)
some_is None h = absurd (cc)
some_is (Some a) h = (a, refl)

-- ---- a value

-- the value that tokens begin with, and its data
pub record Reading (ts : List Token) : Type 0 where
  pub written : Json
  pub rest : List Token
  pub found : serde.Data
  pub reads : value max_depth ts ≡ Some (written, rest)
  pub means : of_json written ≡ Some found
  pub same : data_of ts ≡ found

pub reading : (ts : List Token) → HoldsData ts → Reading ts
unfolding data_at data_of
reading ts h =
    let some = some_is (data_at ts) h in
    option_and_then_some (λ (p : Json × List Token). of_json p.0) (value max_depth ts) some.0 some.1
    (λ p reads means. record { written = p.0; rest = p.1; found = some.0; reads = reads; means = means; same = ap (λ o. unwrap_or o serde.null) some.1 })

pub begins : (ts : List Token) (r : Reading ts) → BeginsWith ts r.written
begins ts r = (max_depth, r.rest, r.reads)

pub shallow : (ts : List Token) (r : Reading ts) → depth r.written ≤ max_depth
shallow ts r = value-depth max_depth ts r.rest r.written r.reads

-- and back
pub holds_read : (ts rest : List Token) (j : Json) (d : serde.Data) → value max_depth ts ≡ Some (j, rest) → of_json j ≡ Some d → (HoldsData ts) × (data_of ts ≡ d)
unfolding data_at data_of
holds_read ts rest j d reads means =
    let at : data_at ts ≡ Some d = ap (option_and_then (λ p. of_json p.0)) reads ∙ means in
    (subst IsSome (sym at) refl, ap (λ o. unwrap_or o serde.null) at)

-- a value is read at any depth that it does not pass
pub enough : (d e : ℕ) (ts rest : List Token) (j : Json) → value d ts ≡ Some (j, rest) → depth j ≤ e → value e ts ≡ Some (j, rest)
enough d e ts rest j reads below = ap (value e) (value-json_tokens_back d ts rest j reads) ∙ value-json_tokens j e rest below

pub holds : (ts : List Token) (j : Json) (d : serde.Data) → BeginsWith ts j → depth j ≤ max_depth → of_json j ≡ Some d → (HoldsData ts) × (data_of ts ≡ d)
holds ts j d at below means = holds_read ts at.1 j d (enough at.0 max_depth ts at.1 j at.2 below) means

-- ---- items

-- the items that tokens begin with, and their data
pub record ItemsReading (ts : List Token) : Type 0 where
  pub written : Items
  pub rest : List Token
  pub found : serde.Items
  pub reads : items (value max_depth) (length ts) ts ≡ Some (written, rest)
  pub means : of_items written ≡ Some found
  pub same : items_of ts ≡ found

pub items_reading : (ts : List Token) → HoldsItems ts → ItemsReading ts
unfolding items_at items_of
items_reading ts h =
    let some = some_is (items_at ts) h in
    option_and_then_some (λ (p : Items × List Token). of_items p.0) (items (value max_depth) (length ts) ts) some.0 some.1
    (λ p reads means. record { written = p.0; rest = p.1; found = some.0; reads = reads; means = means; same = ap (λ o. unwrap_or o serde.no_items) some.1 })

pub begins_items : (ts : List Token) (r : ItemsReading ts) → InItems ts r.written
begins_items ts r = (max_depth, length ts, r.rest, r.reads)

items_below : (d : ℕ) (ts rest : List Token) (js : Items) → items (value d) (length ts) ts ≡ Some (js, rest) → items_depth js ≤ d
unfolding value
items_below d ts rest js reads =
    let deep : depth (array js) ≤ suc d = value-depth (suc d) (Token.begin_array ∷ ts) rest (array js) (ap (parse_map array) reads) in
    omega arith

pub shallow_items : (ts : List Token) (r : ItemsReading ts) → items_depth r.written ≤ max_depth
shallow_items ts r = items_below max_depth ts r.rest r.written r.reads

holds_items_read : (ts rest : List Token) (js : Items) (ds : serde.Items) → items (value max_depth) (length ts) ts ≡ Some (js, rest) → of_items js ≡ Some ds → (HoldsItems ts) × (items_of ts ≡ ds)
unfolding items_at items_of
holds_items_read ts rest js ds reads means =
    let at : items_at ts ≡ Some ds = ap (option_and_then (λ p. of_items p.0)) reads ∙ means in
    (subst IsSome (sym at) refl, ap (λ o. unwrap_or o serde.no_items) at)

module _ (js : Items) (rest : List Token) where
  inside : (o : Option (Items × List Token)) → parse_map array o ≡ Some (array js, rest) → o ≡ Some (js, rest)
  inside None e = absurd (none-some (array js, rest) e)
  inside (Some p) e =
      let parts = some_pair_parts (array p.0) (array js) p.1 rest e in
      let first : array p.0 ≡ array js = parts.0 in
      let same : p.0 ≡ js = cc in
      ap₂ (λ x y. Some (x, y)) same parts.1

  -- items are read at any depth that they do not pass
  items_enough : (d : ℕ) → items_depth js ≤ d → items (value d) (length (items_tokens js ++ rest)) (items_tokens js ++ rest) ≡ Some (js, rest)
  unfolding value
  items_enough d below = inside _ (value-json_tokens (array js) (suc d) rest (omega arith))

module _ (ts : List Token) where
  closed : (js : Items) (r : List Token) → after_end_array ts ≡ Some r → InItems ts js → js ≡ no_items
  closed js r e h = items_close r js (subst (λ us. InItems us js) (closed_array ts r e) h)

-- the items that tokens begin with are spelled there
spelled : (js : Items) (ts : List Token) (o : Option (List Token)) → after_end_array ts ≡ o → InItems ts js → (rest : List Token) × (ts ≡ items_tokens js ++ rest)
spelled js ts (Some r) e h = (r, closed_array ts r e ∙ ap (λ is. items_tokens is ++ r) (sym (closed ts js r e h)))
spelled no_items ts None e h =
    let f = items_go_on ts no_items e h in
    let never : no_items ≡ item f.1 f.3 = f.5 in
    absurd (cc)
spelled (item j js) ts None e h =
    let f = items_go_on ts (item j js) e h in
    let split : item j js ≡ item f.1 f.3 = f.5 in
    let first : f.1 ≡ j = cc in
    let others : f.3 ≡ js = cc in
    let more = spelled js f.2 (after_end_array f.2) refl (subst (InItems f.2) others f.6) in
    (more.0, value-json_tokens_back f.0 ts f.2 f.1 f.4 ∙ ap₂ (λ x us. json_tokens x ++ us) first more.1 ∙ sym (append_assoc (json_tokens j) (items_tokens js) more.0))

pub holds_items : (ts : List Token) (js : Items) (ds : serde.Items) → InItems ts js → items_depth js ≤ max_depth → of_items js ≡ Some ds → (HoldsItems ts) × (items_of ts ≡ ds)
holds_items ts js ds at below means =
    let s = spelled js ts (after_end_array ts) refl at in
    holds_items_read ts s.0 js ds (ap (λ us. items (value max_depth) (length us) us) s.1 ∙ items_enough js s.0 max_depth below) means
