-- Where a number stands last, in a list that grows.
use Rattle.std.proofs.Common.{◌≡◌, ◌<◌, ◌≤◌, ◌+◌, ℕ, zero, suc, Bool, true, false, cond, List, [], ◌∷◌, ◌++◌, Option, Some, length, nat_eq, slice_get, refl, sym, ap, ◌∙◌, subst, arith, true≢false}
use Rattle.std.proofs.lemmas.Bool.{eqb-true, eqb-false, eq-eqb}
use Rattle.std.proofs.lemmas.List.{length_push}
use Rattle.std.proofs.lemmas.Option.{slice_get_within, same_Some}
use Rattle.ir_arena.specs.LastPlaces.{past, IsLastBefore, AreLinked}

-- what stands at a place stands there still when the list is longer
pub slice_get_left : {A : Type 0} (xs ys : List A) (j : ℕ) → j < length xs → slice_get (xs ++ ys) j ≡ slice_get xs j
slice_get_left [] ys j l = absurd (omega arith)
slice_get_left (x ∷ xs) ys zero l = refl
slice_get_left (x ∷ xs) ys (suc j) l = slice_get_left xs ys j (omega arith)

-- what is put last stands last
pub slice_get_last : {A : Type 0} (xs : List A) (y : A) → slice_get (xs ++ y ∷ []) (length xs) ≡ Some y
slice_get_last [] y = refl
slice_get_last (x ∷ xs) y = slice_get_last xs y

of_longer : (xs ys : List ℕ) (end x : ℕ) (p : Option ℕ) → end ≤ length xs → IsLastBefore xs end x p → IsLastBefore (xs ++ ys) end x p
of_longer xs ys end x p l is = (there, no_later)
  where
    there : (k : ℕ) → p ≡ Some k → (k < end) × (slice_get (xs ++ ys) k ≡ Some x)
    there k e =
        let held = is.0 k e in
        let below : k < length xs = let b = held.0 in omega arith in
        (held.0, slice_get_left xs ys k below ∙ held.1)

    no_later : (j : ℕ) → j < end → slice_get (xs ++ ys) j ≡ Some x → j < past p
    no_later j below at =
        let within : j < length xs = omega arith in
        is.1 j below (sym (slice_get_left xs ys j within) ∙ at)

module _ (xs : List ℕ) (y : ℕ) where
  abbrev pub ys : List ℕ
  ys = xs ++ y ∷ []

  long : length ys ≡ length xs + 1
  long = length_push xs y

  -- of another number the last place stays
  of_others : (x : ℕ) (p : Option ℕ) → nat_eq y x ≡ false → IsLastBefore xs (length xs) x p → IsLastBefore ys (length ys) x p
  of_others x p other is = (there, no_later)
    where
      kept : IsLastBefore ys (length xs) x p
      kept = let r : length xs ≤ length xs = omega arith in of_longer xs (y ∷ []) (length xs) x p r is

      there : (k : ℕ) → p ≡ Some k → (k < length ys) × (slice_get ys k ≡ Some x)
      there k e =
          let held = kept.0 k e in
          let below : k < length ys = let b = held.0 in let l = long in omega arith in
          (below, held.1)

      no_later : (j : ℕ) → j < length ys → slice_get ys j ≡ Some x → j < past p
      no_later j below at = by (nat_eq j (length xs)) refl
        where
          by : (b : Bool) → nat_eq j (length xs) ≡ b → j < past p
          by true e =
              let last : slice_get ys j ≡ Some y = ap (slice_get ys) (eqb-true j (length xs) e) ∙ slice_get_last xs y in
              let same : y ≡ x = same_Some _ _ (sym last ∙ at) in
              absurd (true≢false (sym (eq-eqb y x same) ∙ other))
          by false e =
              let earlier : j < length xs = let apart = eqb-false j (length xs) e in let l = long in omega arith in
              kept.1 j earlier at

  -- the number that is put last stands there last
  of_itself : IsLastBefore ys (length ys) y (Some (length xs))
  of_itself = (there, no_later)
    where
      there : (k : ℕ) → Some (length xs) ≡ Some k → (k < length ys) × (slice_get ys k ≡ Some y)
      there k e =
          let same : length xs ≡ k = same_Some _ _ e in
          let below : k < length ys = let l = long in omega arith in
          (below, ap (slice_get ys) (sym same) ∙ slice_get_last xs y)

      no_later : (j : ℕ) → j < length ys → slice_get ys j ≡ Some y → j < past (Some (length xs))
      no_later j below at = let l = long in omega arith

  -- what is kept stays right where a further number is put last, with the last place that it had
  pub linked_push : (before : List (Option ℕ)) (last later : ℕ → Option ℕ) (b : Option ℕ) → AreLinked xs before last → IsLastBefore xs (length xs) y b
      → ((x : ℕ) → later x ≡ cond (nat_eq y x) (Some (length xs)) (last x)) → AreLinked ys (before ++ b ∷ []) later
  linked_push before last later b are at_last gives = record { lengths = counts; of_numbers = numbers; of_places = places }
    where
      counts : length (before ++ b ∷ []) ≡ length ys
      counts = length_push before b ∙ ap (λ n. n + 1) are.lengths ∙ sym long

      numbers : (x : ℕ) → IsLastBefore ys (length ys) x (later x)
      numbers x = subst (IsLastBefore ys (length ys) x) (sym (gives x)) (by (nat_eq y x) refl)
        where
          by : (t : Bool) → nat_eq y x ≡ t → IsLastBefore ys (length ys) x (cond t (Some (length xs)) (last x))
          by true e = subst (λ z. IsLastBefore ys (length ys) z (Some (length xs))) (eqb-true y x e) of_itself
          by false e = of_others x (last x) e (are.of_numbers x)

      places : (k x : ℕ) (p : Option ℕ) → slice_get ys k ≡ Some x → slice_get (before ++ b ∷ []) k ≡ Some p → IsLastBefore ys k x p
      places k x p there kept = by (nat_eq k (length xs)) refl
        where
          within : k < length xs + 1
          within = let l = slice_get_within ys k x there in let e = long in omega arith

          by : (t : Bool) → nat_eq k (length xs) ≡ t → IsLastBefore ys k x p
          by true e =
              let here : k ≡ length xs = eqb-true k (length xs) e in
              let x_is : y ≡ x = same_Some _ _ (sym (slice_get_last xs y) ∙ ap (slice_get ys) (sym here) ∙ there) in
              let count : length before ≡ k = are.lengths ∙ sym here in
              let p_is : b ≡ p = same_Some _ _ (sym (slice_get_last before b) ∙ ap (slice_get (before ++ b ∷ [])) count ∙ kept) in
              let r : length xs ≤ length xs = omega arith in
              let at_the_end = of_longer xs (y ∷ []) (length xs) y b r at_last in
              let Q : ℕ → ℕ → Option ℕ → Type 0 = λ n z o. IsLastBefore ys n z o in
              subst (λ o. Q k x o) p_is (subst (λ z. Q k z b) x_is (subst (λ n. Q n y b) (sym here) at_the_end))
          by false e =
              let earlier : k < length xs = let apart = eqb-false k (length xs) e in let w = within in omega arith in
              let l : k < length before = let e2 = are.lengths in omega arith in
              let r : k ≤ length xs = omega arith in
              of_longer xs (y ∷ []) k x p r
              (are.of_places k x p (sym (slice_get_left xs (y ∷ []) k earlier) ∙ there) (sym (slice_get_left before (b ∷ []) k l) ∙ kept))
