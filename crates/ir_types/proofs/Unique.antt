-- Lists without repeats.
use Rattle.std.proofs.Common.{◌≡◌, ◌<◌, ◌≤◌, ◌+◌, ℕ, Bool, true, false, List, [], ◌∷◌, ◌++◌, length, map, Option, None, Some, slice_get, Contains, nat_eq, refl, sym, ap, ◌∙◌, subst, take, arith}
use Rattle.std.proofs.lemmas.Bool.{eqb-true, eqb-false}
use Rattle.std.proofs.lemmas.List.{get_or-take, length-map, length-take-le, length_push, map_push}
use Rattle.std.proofs.lemmas.Option.{same_Some, slice_get_read, slice_get_within, slice_get-map, get_or_from_slice_get}
use Rattle.std.specs.Hash.{HashWrites}
use Rattle.std.specs.Option.{ForSome, option_map}
use Rattle.ir_arena.proofs.Links.{slice_get_left, slice_get_last}
use Rattle.ir_arena.specs.Limits.{max_len}
use Rattle.ir_arena.specs.LastPlaces.{past, IsLastBefore}
use Rattle.ir_types.specs.Unique.{AreDistinct, AreKept, hash_of}

-- a value that stands at a place is in the list
pub contains_at : {T : Type 0} (xs : List T) (k : ℕ) (x : T) → slice_get xs k ≡ Some x → Contains xs x
contains_at xs k x e = (k, slice_get_within xs k x e, get_or_from_slice_get xs k x x e)

-- and a value that is in the list stands at a place
pub place_of : {T : Type 0} (xs : List T) (x : T) (c : Contains xs x) → slice_get xs c.0 ≡ Some x
place_of xs x c = slice_get_read xs (length xs) c.0 x refl c.1 (sym c.2)

-- a value of a list without repeats stands at no place before its own
pub none_before : {T : Type 0} (xs : List T) (k : ℕ) (x : T) → AreDistinct xs → slice_get xs k ≡ Some x → Contains (take k xs) x → ⊥
none_before xs k x d e c =
    let within : k < length xs = slice_get_within xs k x e in
    let long : length (take k xs) ≡ k = length-take-le k xs (omega arith) in
    let before : c.0 < k = omega arith in
    let there : slice_get xs c.0 ≡ Some x = slice_get_read xs (length xs) c.0 x refl (omega arith) (sym c.2 ∙ get_or-take k xs c.0 x before) in
    let same : c.0 ≡ k = d c.0 k x there e in
    omega arith

-- where a value stands, its hash stands in the list of hashes
pub hash_at : {T : Type 0} (hash : T → ℕ) (xs : List T) (k : ℕ) (x : T) → slice_get xs k ≡ Some x → slice_get (map hash xs) k ≡ Some (hash x)
hash_at hash xs k x e = slice_get-map hash xs k ∙ ap (option_map hash) e

-- a further value, that is not there, makes no repeat
distinct_push : {T : Type 0} (xs : List T) (x : T) → AreDistinct xs → (Contains xs x → ⊥) → AreDistinct (xs ++ x ∷ [])
distinct_push {T} xs x d absent j k y at_j at_k = by (nat_eq j (length xs)) (nat_eq k (length xs)) refl refl
  where
    long : length (xs ++ x ∷ []) ≡ length xs + 1
    long = length_push xs x

    -- before the last place stands what stood there
    before : (i : ℕ) → slice_get (xs ++ x ∷ []) i ≡ Some y → nat_eq i (length xs) ≡ false → slice_get xs i ≡ Some y
    before i at e =
        let l = slice_get_within (xs ++ x ∷ []) i y at in
        let n = long in
        let apart = eqb-false i (length xs) e in
        let earlier : i < length xs = omega arith in
        sym (slice_get_left xs (x ∷ []) i earlier) ∙ at

    last : (i : ℕ) → slice_get (xs ++ x ∷ []) i ≡ Some y → nat_eq i (length xs) ≡ true → x ≡ y
    last i at e = same_Some _ _ (sym (slice_get_last xs x) ∙ ap (slice_get (xs ++ x ∷ [])) (sym (eqb-true i (length xs) e)) ∙ at)

    once : (i : ℕ) → slice_get xs i ≡ Some y → x ≡ y → ⊥
    once i at same = absent (contains_at xs i x (at ∙ ap Some (sym same)))

    by : (a b : Bool) → nat_eq j (length xs) ≡ a → nat_eq k (length xs) ≡ b → j ≡ k
    by true true e f = eqb-true j (length xs) e ∙ sym (eqb-true k (length xs) f)
    by true false e f = absurd (once k (before k at_k f) (last j at_j e))
    by false true e f = absurd (once j (before j at_j e) (last k at_k f))
    by false false e f = d j k y (before j at_j e) (before k at_k f)

-- what is kept of the values, with a further value
pub kept_push : {T : Type 0} (given : T → HashWrites) (xs : List T) (spans : ℕ) (hashes : List ℕ) (x : T) → AreKept given xs spans hashes → length xs < max_len
    → (Contains xs x → ⊥) → AreKept given (xs ++ x ∷ []) (spans + 1) (hashes ++ hash_of given x ∷ [])
kept_push given xs spans hashes x are room absent = record {
  spanned = ap (λ n. n + 1) are.spanned ∙ sym (length_push xs x);
  hashed = ap (λ hs. hs ++ hash_of given x ∷ []) are.hashed ∙ sym (map_push (hash_of given) xs x);
  small = let n = length_push xs x in omega arith;
  distinct = distinct_push xs x are.distinct absent;
}

-- A value is looked for from the last place of its hash to the first.
module _ {T : Type 0} (hash : T → ℕ) (xs : List T) (v : T) where
  -- at the next place, if there is one, the hash is that of the value, which stands at no later place
  abbrev pub IsAhead : Option ℕ → Type 0
  IsAhead next = ForSome next (λ p. (p < length xs) × (slice_get (map hash xs) p ≡ Some (hash v))) × ((j : ℕ) → slice_get xs j ≡ Some v → j < past next)

  -- the value stands only where its hash does
  ahead_of : (end : ℕ) (next : Option ℕ) → end ≤ length xs → ((j : ℕ) → slice_get xs j ≡ Some v → j < end) → IsLastBefore (map hash xs) end (hash v) next → IsAhead next
  ahead_of end next within before is = (there, no_later)
    where
      there : (p : ℕ) → next ≡ Some p → (p < length xs) × (slice_get (map hash xs) p ≡ Some (hash v))
      there p e = let b = (is.0 p e).0 in let l : p < length xs = omega arith in (l, (is.0 p e).1)

      no_later : (j : ℕ) → slice_get xs j ≡ Some v → j < past next
      no_later j at = is.1 j (before j at) (hash_at hash xs j v at)

  pub begins : (next : Option ℕ) → IsLastBefore (map hash xs) (length (map hash xs)) (hash v) next → IsAhead next
  begins next is =
      let same : length (map hash xs) ≡ length xs = length-map xs hash in
      let r : length xs ≤ length xs = omega arith in
      ahead_of (length xs) next r (λ j at. slice_get_within xs j v at) (subst (λ n. IsLastBefore (map hash xs) n (hash v) next) same is)

  pub goes_on : (place : ℕ) (next later : Option ℕ) → next ≡ Some place → IsAhead next → (slice_get xs place ≡ Some v → ⊥) → IsLastBefore (map hash xs) place (hash v) later → IsAhead later
  goes_on place next later is ahead other last =
      let below : place < length xs = (ahead.0 place is).0 in
      let r : place ≤ length xs = omega arith in
      ahead_of place later r (λ j at. before j at) last
    where
      before : (j : ℕ) → slice_get xs j ≡ Some v → j < place
      before j at =
          let up_to : j < place + 1 = subst (λ o. j < past o) is (ahead.1 j at) in
          let apart : j ≡ place → ⊥ = λ e. other (ap (slice_get xs) (sym e) ∙ at) in
          omega arith

-- each place that is looked at is before the last one
pub comes_down : (hs : List ℕ) (place h : ℕ) (next later : Option ℕ) → next ≡ Some place → IsLastBefore hs place h later → past later < past next
comes_down hs place h next None is last = subst (λ o. 0 < past o) (sym is) (omega arith)
comes_down hs place h next (Some p) is last = let b : p < place = (last.0 p refl).0 in subst (λ o. p + 1 < past o) (sym is) (omega arith)
