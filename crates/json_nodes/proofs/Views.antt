-- What a node says of its data, by what its element says of the value in the text.
use Rattle.std.proofs.Common.{◌≡◌, ℕ, ◌≤◌, Bool, true, false, List, Option, Some, None, is_some, MatchOption, IfNone, option_and_then, sym, ap, ap₂, ◌∙◌, subst, le_trans, arith}
use Rattle.std.proofs.lemmas.Option.{same_Some}
use Rattle.std.specs.Option.{option_map_or}
use Rattle.json.specs.Token.{Token}
use Rattle.json.specs.Json.{Json, array, object, Items, no_items, item, Members}
use Rattle.json.specs.Find as find
use Rattle.json.specs.Find.{BeginsWith, InItems, InMembers, Finds, NextItem}
use Rattle.json.specs.Tree.{depth, items_depth}
use Rattle.serde_json.specs.Data as serde
use Rattle.serde_json.specs.Find.{get, as_array, as_object}
use Rattle.serde_json.specs.Read.{of_json, of_items, max_depth}
use Rattle.json_nodes.specs.Nodes.{data_of, items_of, HoldsData, HoldsItems}
use Rattle.json_nodes.specs.Fields.{only_of, has_no_other}
use Rattle.json_nodes.specs.Written.{only_field, are_among, are_in_order}
use Rattle.json_nodes.proofs.Members.{json_names_among, json_only}
use Rattle.json_nodes.proofs.Values.{array_parts, object_parts, item_parts, field_found, only_field_kept, no_other_kept}
use Rattle.json_nodes.proofs.Written.{meant, only_meant, only_found, only_same, only_below, among_written, field_below}
use Rattle.json_nodes.proofs.Order.{is_in_order, HasThese, in_order_kept}
use Rattle.json_nodes.proofs.Held.{reading, begins, shallow, holds, items_reading, begins_items, shallow_items, holds_items}

only_at : (name : List ℕ) (c d whole : serde.Data) (ds : serde.Members) → c ≡ d → only_of ds ≡ Some (name, d) → serde.object ds ≡ whole → Some (name, c) ≡ option_and_then only_of (as_object whole)
only_at name c d whole ds same only is = ap (λ x. Some (name, x)) same ∙ sym only ∙ ap (λ x. option_and_then only_of (as_object x)) is

-- ts is what the element of a node has, and node what the node has
module _ (ts node : List Token) (view : ts ≡ node) (h : HoldsData ts) where
  -- f of the text agrees with g of the data
  pub seen : {A : Type 0} (f : Json → A) (g : serde.Data → A) → ((j : Json) (d : serde.Data) → of_json j ≡ Some d → f j ≡ g d) → (x : A) → ((j : Json) → BeginsWith ts j → x ≡ f j) → x ≡ g (data_of node)
  seen f g agree x says =
      let r = reading ts h in
      says r.written (begins ts r) ∙ agree r.written r.found r.means ∙ ap g (sym r.same) ∙ ap (λ us. g (data_of us)) view

  -- a field
  pub got : (name : List ℕ) (us : List Token) → ((j : Json) → BeginsWith ts j → Finds (Some us) (find.get name j)) → (HoldsData us) × (Some (data_of us) ≡ get name (data_of node))
  got name us says =
      let r = reading ts h in
      let f = says r.written (begins ts r) in
      let found = field_found name f.0 r.written r.found r.means f.1 in
      let here = holds us f.0 found.0 f.2 (le_trans (field_below name r.written f.0 f.1) (shallow ts r)) found.1 in
      (here.0, ap Some here.1 ∙ found.2 ∙ ap (get name) (sym r.same) ∙ ap (λ vs. get name (data_of vs)) view)

  -- the items
  pub listed : (us : List Token) → ((j : Json) → BeginsWith ts j → (js : Items) × (j ≡ array js) × InItems us js) → (HoldsItems us) × (Some (items_of us) ≡ as_array (data_of node))
  listed us says =
      let r = reading ts h in
      let f = says r.written (begins ts r) in
      let parts = array_parts f.0 r.found (subst (λ j. of_json j ≡ Some r.found) f.1 r.means) in
      let deep : depth (array f.0) ≤ max_depth = subst (λ j. depth j ≤ max_depth) f.1 (shallow ts r) in
      let here = holds_items us f.0 parts.0 f.2 (omega arith) parts.1 in
      (here.0, ap Some here.1 ∙ ap as_array (sym parts.2 ∙ sym r.same) ∙ ap (λ vs. as_array (data_of vs)) view)

  -- the only field
  pub only : (rest us : List Token) (name : List ℕ) → ((j : Json) → BeginsWith ts j → (ms : Members) × (j ≡ object ms) × InMembers rest ms)
      → ((ms : Members) → InMembers rest ms → (i : Json) × (only_field ms ≡ Some (name, i)) × BeginsWith us i)
      → (HoldsData us) × (Some (name, data_of us) ≡ option_and_then only_of (as_object (data_of node)))
  only rest us name says finds =
      let r = reading ts h in
      let f = says r.written (begins ts r) in
      let g = finds f.0 f.2 in
      let parts = object_parts f.0 r.found (subst (λ j. of_json j ≡ Some r.found) f.1 r.means) in
      let found = only_found f.0 parts.0 name g.0 parts.1 g.1 in
      let deep : depth (object f.0) ≤ max_depth = subst (λ j. depth j ≤ max_depth) f.1 (shallow ts r) in
      let here = holds us g.0 found.0 g.2 (omega (arith, only_below f.0 name g.0 g.1)) found.1 in
      let kept = only_same f.0 parts.0 name g.0 found.0 parts.1 g.1 found.1 in
      let is : serde.object parts.0 ≡ data_of node = sym parts.2 ∙ sym r.same ∙ ap data_of view in
      (here.0, only_at name (data_of us) found.0 (data_of node) parts.0 here.1 kept is)

  -- it has none
  pub not_only : (rest : List Token) → ((j : Json) → BeginsWith ts j → (ms : Members) × (j ≡ object ms) × InMembers rest ms)
      → ((ms : Members) → InMembers rest ms → only_field ms ≡ None) → None ≡ option_and_then only_of (as_object (data_of node))
  not_only rest says none =
      seen (λ j. option_and_then json_only (find.as_object j)) (λ d. option_and_then only_of (as_object d)) only_field_kept None
      (λ j at.
      let f = says j at in
      sym (ap (λ i. option_and_then json_only (find.as_object i)) f.1 ∙ only_meant f.0 ∙ ap (option_and_then meant) (none f.0 f.2)))

  -- whether it has no other names
  pub no_other : (names : List (List ℕ)) (rest : List Token) (b : Bool) → ((j : Json) → BeginsWith ts j → (ms : Members) × (j ≡ object ms) × InMembers rest ms)
      → ((ms : Members) → InMembers rest ms → b ≡ are_among names ms) → b ≡ has_no_other names (data_of node)
  no_other names rest b says among =
      seen (λ j. option_map_or (json_names_among names) (find.as_object j) false) (has_no_other names) (no_other_kept names) b
      (λ j at.
      let f = says j at in
      among f.0 f.2 ∙ among_written names f.0 ∙ ap (λ i. option_map_or (json_names_among names) (find.as_object i) false) (sym f.1))

  -- it has these fields in this order
  pub these : (names : List (List ℕ)) (rest : List Token) (b : Bool) → ((j : Json) → BeginsWith ts j → (ms : Members) × (j ≡ object ms) × InMembers rest ms)
      → ((ms : Members) → InMembers rest ms → b ≡ are_in_order names ms) → b ≡ true → HasThese names (data_of node)
  these names rest b says order is =
      let r = reading ts h in
      let f = says r.written (begins ts r) in
      subst (HasThese names) (sym r.same ∙ ap data_of view)
      (in_order_kept names r.written r.found r.means (ap (is_in_order names) f.1 ∙ sym (order f.0 f.2) ∙ is))

-- an object has members
pub has_members : (o : Option (List Token)) (j : Json) → MatchOption o (find.as_object j ≡ None) (λ rest. (ms : Members) × (j ≡ object ms) × InMembers rest ms) → is_some o ≡ is_some (find.as_object j)
has_members None j h = ap is_some (sym h)
has_members (Some rest) j h = ap (λ i. is_some (find.as_object i)) (sym h.1)

-- ---- items

-- old is what the rest of a list of items has, and node what the list has
module _ (old node new : List Token) (view : old ≡ node) (h : HoldsItems old) where
  next_one : (us : List Token) → NextItem old (Some us) new → (HoldsData us) × (HoldsItems new) × (items_of old ≡ serde.item (data_of us) (items_of new))
  next_one us says =
      let r = items_reading old h in
      let f = says r.written (begins_items old r) in
      let parts = item_parts f.0 f.1 r.found (subst (λ js. of_items js ≡ Some r.found) f.2 r.means) in
      let deep : items_depth (item f.0 f.1) ≤ max_depth = subst (λ js. items_depth js ≤ max_depth) f.2 (shallow_items old r) in
      let one = holds us f.0 parts.0 f.3 (omega arith) parts.2 in
      let more = holds_items new f.1 parts.1 f.4 (omega arith) parts.3 in
      (one.0, more.0, r.same ∙ parts.4 ∙ ap₂ serde.item (sym one.1) (sym more.1))

  next_none : NextItem old None new → items_of old ≡ serde.no_items
  next_none says =
      let r = items_reading old h in
      let end : r.written ≡ no_items = says r.written (begins_items old r) in
      r.same ∙ sym (same_Some serde.no_items r.found (ap of_items (sym end) ∙ r.means))

  -- the next item
  pub next_item : (us : List Token) → NextItem old (Some us) new → HoldsData us
  next_item us says = (next_one us says).0

  -- the items after it, or none
  pub next_rest : (o : Option (List Token)) → NextItem old o new → IfNone o (new ≡ old) → HoldsItems new
  next_rest None says stays = subst HoldsItems (sym stays) h
  next_rest (Some us) says stays = (next_one us says).1

  -- what they are
  pub next_means : (o r : Option (List Token)) → r ≡ o → NextItem old o new → MatchOption r (items_of node ≡ serde.no_items) (λ us. items_of node ≡ serde.item (data_of us) (items_of new))
  next_means o r same says = subst (λ p. MatchOption p (items_of node ≡ serde.no_items) (λ us. items_of node ≡ serde.item (data_of us) (items_of new))) (sym same) (by_case o says)
    where
      by_case : (o : Option (List Token)) → NextItem old o new → MatchOption o (items_of node ≡ serde.no_items) (λ us. items_of node ≡ serde.item (data_of us) (items_of new))
      by_case None says = ap items_of (sym view) ∙ next_none says
      by_case (Some us) says = ap items_of (sym view) ∙ (next_one us says).2
