-- What a text is read as, by its tokens.
use Rattle.std.proofs.Common.{◌≡◌, ℕ, ◌<◌, ◌≤◌, Bool, true, false, List, [], ◌∷◌, Option, Some, None, IsSome, ◌⊎◌, inl, inr, option_and_then, refl, sym, ap, ◌∙◌, subst, append-nil, arith}
use Rattle.std.proofs.lemmas.Option.{none-some, same_Some, option_and_then_some}
use Rattle.json.specs.Token.{Token}
use Rattle.json.specs.Lex.{tokens}
use Rattle.json.specs.Json as json
use Rattle.json.specs.Json.{Json, value, if_last, document}
use Rattle.json.specs.Tree.{json_tokens, depth}
use Rattle.json.proofs.Nesting.{value-depth}
use Rattle.json.proofs.Printed.Trees.{value-json_tokens}
use Rattle.json.proofs.Unique.Spelling.{value-json_tokens_back, tokens-document}
use Rattle.serde_json.specs.Read.{of_json, max_depth, read}
use Rattle.json_nodes.specs.Nodes.{data_of, HoldsData}
use Rattle.json_nodes.proofs.Held.{some_is, holds_read}
use Rattle.json_nodes.proofs.Whole.{Says}

-- the tokens of one value that nests few enough deep
whole : (d : ℕ) (ts : List Token) (j : Json) → ts ≡ json_tokens j → depth j ≤ d → value d ts ≡ Some (j, [])
whole d ts j is below = ap (value d) (is ∙ sym (append-nil (json_tokens j))) ∙ value-json_tokens j d [] below

-- ---- what is read

module _ (text : List ℕ) (ts : List Token) (here : ts ≡ tokens text) where
  reads_value : (j : Json) → ts ≡ json_tokens j → IsSome (of_json j) → depth j ≤ max_depth → (HoldsData ts) × (read text ≡ Some (data_of ts))
  reads_value j is some below =
      let at = whole max_depth ts j is below in
      let found = some_is (of_json j) some in
      let held = holds_read ts [] j found.0 at found.1 in (
        held.0,
        ap (λ us. option_and_then of_json (option_and_then (λ p. if_last p.0 p.1) (value max_depth us))) (sym here)
            ∙ ap (λ o. option_and_then of_json (option_and_then (λ p. if_last p.0 p.1) o)) at ∙ found.1 ∙ ap Some (sym held.1),
      )

  -- a text that is a value, whose numbers are in range and which nests few enough deep, is read
  pub reads : (b : Bool) → b ≡ true → IsSome (document text) → ((j : Json) → ts ≡ json_tokens j → Says b (of_json j) (depth j)) → (HoldsData ts) × (read text ≡ Some (data_of ts))
  reads b so some says =
      let j = some_is (document text) some in
      let is = here ∙ tokens-document text j.0 j.1 in
      let w = subst (λ c. Says c (of_json j.0) (depth j.0)) so (says j.0 is) in
      reads_value j.0 is w.0 w.1

-- ---- what is not

last_one : (i j : Json) (ts : List Token) → if_last i ts ≡ Some j → (i ≡ j) × (ts ≡ [])
last_one i j [] e = (same_Some i j e, refl)
last_one i j (t ∷ ts) e = absurd (none-some j e)

-- the value that a text is at some depth
module _ (d : ℕ) (ts : List Token) (j : Json) (is : option_and_then (λ p. if_last p.0 p.1) (value d ts) ≡ Some j) where
  at_end : value d ts ≡ Some (j, [])
  at_end = option_and_then_some (λ (p : Json × List Token). if_last p.0 p.1) (value d ts) j is
      (λ p at ended. let last = last_one p.0 j p.1 ended in at ∙ ap (λ x. Some (x, p.1)) last.0 ∙ ap (λ r. Some (j, r)) last.1)

  spelled : ts ≡ json_tokens j
  spelled = value-json_tokens_back d ts [] j at_end ∙ append-nil (json_tokens j)

  below : depth j ≤ d
  below = value-depth d ts [] j at_end

none_by : {A B : Type 0} (f : A → Option B) (o : Option A) → ((a : A) → o ≡ Some a → f a ≡ None) → option_and_then f o ≡ None
none_by f None h = refl
none_by f (Some a) h = h a refl

not_both : {P : Type 0} (m n : ℕ) → m ≤ n → n < m → P
not_both m n le lt = absurd (omega arith)

no_data : (j : Json) → depth j ≤ max_depth → (of_json j ≡ None) ⊎ (max_depth < depth j) → of_json j ≡ None
no_data j shallow (inl none) = none
no_data j shallow (inr deep) = not_both (depth j) max_depth shallow deep

-- a text is not read where each value that it could be is refused
pub refused : (text : List ℕ) (ts : List Token) → ts ≡ tokens text → (b : Bool) → b ≡ false → ((j : Json) → ts ≡ json_tokens j → Says b (of_json j) (depth j)) → read text ≡ None
refused text ts here b so says =
    none_by of_json (option_and_then (λ p. if_last p.0 p.1) (value max_depth (tokens text)))
    (λ j is.
    let so_is = subst (λ c. Says c (of_json j) (depth j)) so (says j (here ∙ spelled max_depth (tokens text) j is)) in
    no_data j (below max_depth (tokens text) j is) so_is)

-- nor where it is no value
pub no_document : (text : List ℕ) → document text ≡ None → read text ≡ None
no_document text none =
    none_by of_json (option_and_then (λ p. if_last p.0 p.1) (value max_depth (tokens text)))
    (λ j is.
    let shallow = below max_depth (tokens text) j is in
    let at = whole json.max_depth (tokens text) j (spelled max_depth (tokens text) j is) (omega arith) in
    absurd (none-some j (sym none ∙ ap (λ o. option_and_then (λ p. if_last p.0 p.1) o) at)))
