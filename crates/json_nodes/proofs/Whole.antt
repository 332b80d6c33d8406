-- A walk over the tokens of a value finds whether its numbers are in range and how deep it nests.
use Rattle.std.proofs.Common.{◌≡◌, ℕ, suc, ◌+◌, ◌-◌, ◌<◌, ◌≤◌, max, Bool, true, false, ◌&&◌, map, length, drop, get_or, List, [], ◌∷◌, ◌++◌, Option, Some, None, IsSome, is_some, MatchBool, option_map, option_and_then, nat_lt, cond, inl, inr, ◌⊎◌, refl, sym, ap, ◌∙◌, subst, append_assoc, append-nil, arith}
use Rattle.std.proofs.lemmas.Bool.{ltb-true, ltb-false}
use Rattle.std.proofs.lemmas.List.{drop_more, drop_all}
use Rattle.std.specs.Option.{option_map_or}
use Rattle.json.specs.Token.{Token}
use Rattle.json.specs.Json.{Json, null, boolean, number, string, array, object, Items, no_items, item, Members, no_members, member}
use Rattle.json.specs.Tape.{node_token}
use Rattle.json.specs.Tree.{json_tokens, items_tokens, members_tokens, depth, items_depth, members_depth}
use Rattle.json.specs.declared.tape.Node.{Node}
use Rattle.serde_json.specs.Data as serde
use Rattle.serde_json.specs.Read.{number_of, of_json, of_items, of_members, max_depth}
use Rattle.json_nodes.specs.Levels.{level_after}

-- whether tokens are passed from a level on
abbrev pub fit : ℕ → List Token → Bool
fit n [] = true
fit n (t ∷ ts) = option_map_or (λ m. fit m ts) (level_after n t) false

-- whether a value is passed from a level on
abbrev mutual
  json_fits : ℕ → Json → Bool
  json_fits n null = true
  json_fits n (boolean b) = true
  json_fits n (number s) = is_some (number_of s)
  json_fits n (string s) = true
  json_fits n (array js) = nat_lt n max_depth && items_fit (n + 1) js
  json_fits n (object ms) = nat_lt n max_depth && members_fit (n + 1) ms

  items_fit : ℕ → Items → Bool
  items_fit n no_items = true
  items_fit n (item j js) = json_fits n j && items_fit n js

  members_fit : ℕ → Members → Bool
  members_fit n no_members = true
  members_fit n (member k j ms) = json_fits n j && members_fit n ms

and_grouped : (a b c : Bool) → (a && (b && c)) ≡ ((a && b) && c)
and_grouped true b c = refl
and_grouped false b c = refl

-- ---- the tokens of a value, and what follows

if_fit : (b : Bool) (n : ℕ) (ts : List Token) → option_map_or (λ m. fit m ts) (cond b (Some n) None) false ≡ (b && fit n ts)
if_fit true n ts = refl
if_fit false n ts = refl

-- a bracket opens, and what is inside is passed up to its end
closes : (n : ℕ) (inner : Bool) (o : Bool) (rest : List Token) → o ≡ (inner && fit ((n + 1) - 1) rest) → (nat_lt n max_depth && o) ≡ ((nat_lt n max_depth && inner) && fit n rest)
closes n inner o rest e =
    let back : (n + 1) - 1 ≡ n = omega arith in
    ap (λ b. nat_lt n max_depth && b) (e ∙ ap (λ k. inner && fit k rest) back) ∙ and_grouped (nat_lt n max_depth) inner (fit n rest)

-- one value is passed, and more behind it
goes_on : (first more after : Bool) (o : Bool) → o ≡ (more && after) → (first && o) ≡ ((first && more) && after)
goes_on first more after o e = ap (λ b. first && b) e ∙ and_grouped first more after

mutual
  over_json : (j : Json) (n : ℕ) (rest : List Token) → fit n (json_tokens j ++ rest) ≡ (json_fits n j && fit n rest)
  over_json null n rest = refl
  over_json (boolean b) n rest = refl
  over_json (number s) n rest = if_fit (is_some (number_of s)) n rest
  over_json (string s) n rest = refl
  over_json (array js) n rest =
      if_fit (nat_lt n max_depth) (n + 1) (items_tokens js ++ rest) ∙ closes n (items_fit (n + 1) js) _ rest (over_items js (n + 1) rest)
  over_json (object ms) n rest =
      if_fit (nat_lt n max_depth) (n + 1) (members_tokens ms ++ rest) ∙ closes n (members_fit (n + 1) ms) _ rest (over_members ms (n + 1) rest)

  over_items : (js : Items) (n : ℕ) (rest : List Token) → fit n (items_tokens js ++ rest) ≡ (items_fit n js && fit (n - 1) rest)
  over_items no_items n rest = refl
  over_items (item j js) n rest =
      ap (fit n) (append_assoc (json_tokens j) (items_tokens js) rest) ∙ over_json j n (items_tokens js ++ rest)
      ∙ goes_on (json_fits n j) (items_fit n js) (fit (n - 1) rest) _ (over_items js n rest)

  over_members : (ms : Members) (n : ℕ) (rest : List Token) → fit n (members_tokens ms ++ rest) ≡ (members_fit n ms && fit (n - 1) rest)
  over_members no_members n rest = refl
  over_members (member k j ms) n rest =
      ap (fit n) (append_assoc (json_tokens j) (members_tokens ms) rest) ∙ over_json j n (members_tokens ms ++ rest)
      ∙ goes_on (json_fits n j) (members_fit n ms) (fit (n - 1) rest) _ (over_members ms n rest)

-- ---- what it says

-- b says whether there is a value, and whether nothing nests past the last level
abbrev pub Says : {A : Type 0} → Bool → Option A → ℕ → Type 0
Says b o n = MatchBool b (IsSome o × (n ≤ max_depth)) ((o ≡ None) ⊎ (max_depth < n))

says_map : {A B : Type 0} (f : A → B) (b : Bool) (o : Option A) (m n : ℕ) → n ≡ m → Says b o m → Says b (option_map f o) n
says_map f true None m n e h = absurd (cc)
says_map f true (Some a) m n e h = (refl, omega (arith, h.1))
says_map f false o m n e (inl none) = inl (ap (option_map f) none)
says_map f false o m n e (inr deep) = inr (omega arith)

says_later : {A : Type 0} (b : Bool) (o : Option A) (m n k : ℕ) → k ≡ max m n → m ≤ max_depth → Says b o n → Says b o k
says_later true o m n k e first h = (h.0, omega (arith, h.1))
says_later false o m n k e first (inl none) = inl none
says_later false o m n k e first (inr deep) = inr (omega arith)

-- a value, and what follows it
says_both : {A B : Type 0} (b c : Bool) (o : Option A) (p : A → Option B) (m n k : ℕ) → k ≡ max m n → Says b o m → ((a : A) → Says c (p a) n) → Says (b && c) (option_and_then p o) k
says_both false c o p m n k e (inl none) later = inl (ap (option_and_then p) none)
says_both false c o p m n k e (inr deep) later = inr (omega arith)
says_both true c None p m n k e h later = absurd (cc)
says_both true c (Some a) p m n k e h later = says_later c (p a) m n k e h.1 (later a)

-- what a bracket holds, a level deeper
says_inside : {A : Type 0} (t b : Bool) (o : Option A) (n m : ℕ) → nat_lt n max_depth ≡ t → n + 1 ≤ m → (n < max_depth → Says b o m) → Says (t && b) o m
says_inside true b o n m e up h = h (ltb-true n max_depth e)
says_inside false b o n m e up h = let full : max_depth ≤ n = ltb-false n max_depth e in inr (omega arith)

flat : {A : Type 0} (o : Option A) (n m : ℕ) → n ≤ max_depth → m ≡ n → Says (is_some o) o m
flat None n m h e = inl refl
flat (Some a) n m h e = (refl, omega arith)

mutual
  says_json : (j : Json) (n : ℕ) → n ≤ max_depth → Says (json_fits n j) (of_json j) (n + depth j)
  says_json null n h = (refl, omega arith)
  says_json (boolean b) n h = (refl, omega arith)
  says_json (number s) n h = says_map serde.number (is_some (number_of s)) (number_of s) n (n + 0) (omega arith) (flat (number_of s) n n h refl)
  says_json (string s) n h = (refl, omega arith)
  says_json (array js) n h =
      says_inside (nat_lt n max_depth) (items_fit (n + 1) js) (option_map serde.array (of_items js)) n (n + suc (items_depth js)) refl (omega arith)
      (λ less. says_map serde.array (items_fit (n + 1) js) (of_items js) ((n + 1) + items_depth js) (n + suc (items_depth js)) (omega arith) (says_items js (n + 1) (omega arith)))
  says_json (object ms) n h =
      says_inside (nat_lt n max_depth) (members_fit (n + 1) ms) (option_map serde.object (of_members ms serde.no_members)) n (n + suc (members_depth ms)) refl (omega arith)
      (λ less. says_map serde.object (members_fit (n + 1) ms) (of_members ms serde.no_members) ((n + 1) + members_depth ms) (n + suc (members_depth ms)) (omega arith) (says_members ms serde.no_members (n + 1) (omega arith)))

  says_items : (js : Items) (n : ℕ) → n ≤ max_depth → Says (items_fit n js) (of_items js) (n + items_depth js)
  says_items no_items n h = (refl, omega arith)
  says_items (item j js) n h =
      says_both (json_fits n j) (items_fit n js) (of_json j) (λ d. option_map (serde.item d) (of_items js)) (n + depth j) (n + items_depth js) (n + max (depth j) (items_depth js)) (omega arith)
      (says_json j n h) (λ d. says_map (serde.item d) (items_fit n js) (of_items js) (n + items_depth js) (n + items_depth js) refl (says_items js n h))

  says_members : (ms : Members) (found : serde.Members) (n : ℕ) → n ≤ max_depth → Says (members_fit n ms) (of_members ms found) (n + members_depth ms)
  says_members no_members found n h = (refl, omega arith)
  says_members (member k j ms) found n h =
      says_both (json_fits n j) (members_fit n ms) (of_json j) (λ d. of_members ms (serde.put k d found)) (n + depth j) (n + members_depth ms) (n + max (depth j) (members_depth ms)) (omega arith)
      (says_json j n h) (λ d. says_members ms (serde.put k d found) n h)

alone : (b : Bool) → (b && true) ≡ b
alone true = refl
alone false = refl

-- the walk over the tokens of a value says whether it is data, and nests few enough deep
pub walked : (ts : List Token) (b : Bool) (j : Json) → b ≡ fit 0 ts → ts ≡ json_tokens j → Says b (of_json j) (depth j)
walked ts b j e is =
    let fits : b ≡ json_fits 0 j = e ∙ ap (fit 0) (is ∙ sym (append-nil (json_tokens j))) ∙ over_json j 0 [] ∙ alone (json_fits 0 j) in
    let none_open : 0 + depth j ≡ depth j = omega arith in
    subst (λ c. Says c (of_json j) (depth j)) (sym fits) (subst (λ n. Says (json_fits 0 j) (of_json j) n) none_open (says_json j 0 (omega arith)))

-- ---- a turn of the walk

module _ (ns : List Node) (i level : ℕ) (all : Bool) (rest : fit level (map node_token (drop i ns)) ≡ all) where
  -- a node that doesn't fit
  pub stops : (d : Node) → i < length ns → level_after level (node_token (get_or ns i d)) ≡ None → false ≡ all
  stops d less none =
      sym (ap (λ o. option_map_or (λ m. fit m (map node_token (drop (i + 1) ns))) o false) none)
      ∙ sym (ap (λ ms. fit level (map node_token ms)) (drop_more ns i d less)) ∙ rest

  -- each node fits
  pub ends : length ns ≤ i → true ≡ all
  ends over = sym (ap (λ ms. fit level (map node_token ms)) (drop_all i ns over)) ∙ rest
