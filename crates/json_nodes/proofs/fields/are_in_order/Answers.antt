use Rattle.std.proofs.Common.{◌≡◌, ℕ, ◌+◌, ◌<◌, ◌≤◌, ◌&&◌, Bool, true, false, not, List, [], length, get_or, drop, map, Option, Some, None, option_map, is_some, bytes_eq, true≢false, refl, sym, ap, ◌∙◌}
use Rattle.std.proofs.lemmas.List.{at_drop_more, at_drop_all}
use Rattle.std.specs.Borrow.{Bor}
use Rattle.json.specs.Json.{Json, Members, no_members, member}
use Rattle.json.specs.Token.{Token}
use Rattle.json.specs.Find.{InMembers, NextMember}
use Rattle.json_nodes.specs.Written.{are_in_order}
use Rattle.json_nodes.proofs.fields.are_in_order.Goals as goal

not_twice : (b : Bool) → b ≡ not (not b)
not_twice true = refl
not_twice false = refl

-- whether these texts are the names of the members
abbrev name_all : List (Bor (List ℕ)) → Members → Bool
name_all names ms = are_in_order (map (λ n. n.now) names) ms

-- i is the index of the first name that is left
module _ (names : List (Bor (List ℕ))) (i : ℕ) where
  -- a member comes
  at_member : (n : Bor (List ℕ)) (k : List ℕ) (j : Json) (ms : Members) (ne other : Bool) → i < length names → ne ≡ not (bytes_eq k (get_or names i n).now) → ne ≡ other
      → name_all (drop i names) (member k j ms) ≡ (not other && name_all (drop (i + 1) names) ms)
  at_member n k j ms ne other lt e is =
      at_drop_more (λ ns. name_all ns (member k j ms)) names i n lt
      ∙ ap (λ b. b && name_all (drop (i + 1) names) ms) (not_twice (bytes_eq k (get_or names i n).now) ∙ ap not (sym e ∙ is))

  -- none comes
  too_few : i < length names → name_all (drop i names) no_members ≡ false
  too_few lt = at_drop_more (λ ns. name_all ns no_members) names i (record { ref_ptr = (0, 0); now = [] }) lt

  -- no name is left
  at_end : {A : Type 0} (f : A → List ℕ × List Token) (o : Option A) (old new : List Token) (ms : Members) (ends : Bool) → length names ≤ i
      → NextMember old (option_map f o) new → InMembers old ms → is_some o ≡ not ends → name_all (drop i names) ms ≡ ends
  at_end f None old new ms true ge says here e = at_drop_all (λ ns. name_all ns ms) names i ge ∙ ap (name_all []) (says ms here)
  at_end f None old new ms false ge says here e = absurd (true≢false (sym e))
  at_end f (Some m) old new ms true ge says here e = absurd (true≢false e)
  at_end f (Some m) old new ms false ge says here e = at_drop_all (λ ns. name_all ns ms) names i ge ∙ ap (name_all []) (says ms here).2

pub returns-then-ne : goal.returns-then-ne
returns-then-ne c ms here =
    let names = c.args.names.now in
    let i = c.loop-name.name-index in
    let now = c.loop-name.invariant ms here in
    let f = c.in-Some.ensures.value now.0 now.1 in
    let step = at_member names i _ c.in-Some.key.now f.0 f.1 c.ne.result true c.loop-name-test.true c.ne.ensures c.if-ne.true in
    sym (now.2 ∙ ap (name_all (drop i names)) f.2 ∙ step)

pub returns-in-None : goal.returns-in-None
returns-in-None c ms here =
    let names = c.args.names.now in
    let i = c.loop-name.name-index in
    let now = c.loop-name.invariant ms here in
    sym (now.2 ∙ ap (name_all (drop i names)) (c.in-None.ensures.value now.0 now.1) ∙ too_few names i c.loop-name-test.true)

pub loop-name-preserved : goal.loop-name-preserved
loop-name-preserved c ms here =
    let names = c.args.names.now in
    let i = c.loop-name.name-index in
    let now = c.loop-name.invariant ms here in
    let f = c.in-Some.ensures.value now.0 now.1 in
    let step = at_member names i _ c.in-Some.key.now f.0 f.1 c.ne.result false c.loop-name-test.true c.ne.ensures c.if-ne.false in
    (f.1, f.4, now.2 ∙ ap (name_all (drop i names)) f.2 ∙ step)

pub returns : goal.returns
returns c ms here =
    let i = c.loop-name.name-index in
    let now = c.loop-name.invariant ms here in
    let end = at_end c.args.names.now i (λ m. (m.0.now, m.1)) c.next-2.result c.loop-name.rest _ now.0 c.is_none.result c.loop-name-test.false c.next-2.ensures.value now.1 c.is_none.ensures in
    sym (now.2 ∙ end)
