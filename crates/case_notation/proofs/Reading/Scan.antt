-- The first word of a text, and what stands behind it.
use Rattle.std.proofs.Common.{◌≡◌, ◌≤◌, ◌<◌, ◌+◌, ℕ, zero, suc, List, [], ◌∷◌, ◌++◌, Bool, true, false, refl, ap, sym, subst, ◌∙◌, arith, length, get_or, take, drop, cond, length-drop}
use Rattle.std.specs.Prelude.{not, filter, ◌||◌, ◌==◌}
use Rattle.std.specs.List.{AllPass, prefix_len, slice_split, onto_first}
use Rattle.std.proofs.Math.Seq.{drop-cons}
use Rattle.std.proofs.lemmas.List.{take-append-drop}
use Rattle.std.proofs.lemmas.List.Elements.{All-append, All-cons}
use Rattle.std.proofs.lemmas.List.Sums.{prefix_len-le-length}
use Rattle.std.proofs.lemmas.Bool.{ne_eqb}
use Rattle.std.proofs.lemmas.Bool.Decides.{nat_tests}
use Rattle.case_notation.specs.Scanning.{CutAtSpace, FirstWord, NoWord, is_other}
use Rattle.case_notation.specs.Words.{is_space, is_visible, is_word, IsPrintable, words_of}

one_more : (n : ℕ) → 1 + n ≡ suc n
one_more n = omega arith

module _ (p : ℕ → Bool) where
  -- what stands between the elements that pass
  parts : List ℕ → List (List ℕ)
  parts xs = filter is_word (slice_split p xs)

  other : ℕ → Bool
  other x = not (p x)

  -- those in front make no part
  skip : (xs : List ℕ) → parts (drop (prefix_len p xs) xs) ≡ parts xs
  unfolding parts
  skip [] = refl
  skip (x ∷ xs) = go (p x) refl (skip xs)
    where
      go : (b : Bool) → p x ≡ b → parts (drop (prefix_len p xs) xs) ≡ parts xs → parts (drop (cond b (1 + prefix_len p xs) 0) (x ∷ xs)) ≡ parts (x ∷ xs)
      go true is rest = rw (one_more (prefix_len p xs), is) rest
      go false is rest = refl

  -- the elements before the first that passes are the first part
  cut : (xs : List ℕ) → (rest : List (List ℕ)) × (slice_split p xs ≡ take (prefix_len other xs) xs ∷ rest) × (filter is_word rest ≡ parts (drop (prefix_len other xs) xs))
  unfolding parts other
  cut [] = ([], refl, refl)
  cut (x ∷ xs) = go (p x) refl (cut xs)
    where
      go : (b : Bool) → p x ≡ b → ((rest : List (List ℕ)) × (slice_split p xs ≡ take (prefix_len other xs) xs ∷ rest) × (filter is_word rest ≡ parts (drop (prefix_len other xs) xs))) → (rest : List (List ℕ)) × (cond (p x) ([] ∷ slice_split p xs) (onto_first x (slice_split p xs)) ≡ take (cond (not b) (1 + prefix_len other xs) 0) (x ∷ xs) ∷ rest) × (filter is_word rest ≡ parts (drop (cond (not b) (1 + prefix_len other xs) 0) (x ∷ xs)))
      go true is rest = (slice_split p xs, rw is refl, rw is refl)
      go false is rest =
          (rest.0, rw (is, one_more (prefix_len other xs), rest.1) refl, rw (one_more (prefix_len other xs)) rest.2)

  is_part : (n : ℕ) (ys : List ℕ) → 0 < n → n ≤ length ys → is_word (take n ys) ≡ true
  is_part zero ys some le = absurd (omega arith)
  is_part (suc n) [] some le = absurd (omega arith)
  is_part (suc n) (y ∷ ys) some le = ap not (ne_eqb (length (y ∷ take n ys)) 0 (λ z. omega arith))

  first_part : (ys : List ℕ) (n : ℕ) → n ≡ prefix_len other ys → 0 < n → parts ys ≡ take n ys ∷ parts (drop n ys)
  unfolding parts
  first_part ys n e some =
      let rest = cut ys in
      let within : n ≤ length ys = rw e (prefix_len-le-length other ys) in
      let word : is_word (take n ys) ≡ true = is_part n ys some within in
      ap (filter is_word) rest.1 ∙ ap (λ m. filter is_word (take m ys ∷ rest.0)) (sym e) ∙ (rw word refl) ∙ ap (λ l. take n ys ∷ l) rest.2 ∙ ap (λ m. take n ys ∷ parts (drop m ys)) (sym e)

  -- what stands behind those in front begins with another
  stops : (xs : List ℕ) (y : ℕ) (zs : List ℕ) → drop (prefix_len p xs) xs ≡ y ∷ zs → p y ≡ false
  stops [] y zs e = cc
  stops (x ∷ xs) y zs e = go (p x) refl e (stops xs y zs)
    where
      go : (b : Bool) → p x ≡ b → drop (cond b (1 + prefix_len p xs) 0) (x ∷ xs) ≡ y ∷ zs → (drop (prefix_len p xs) xs ≡ y ∷ zs → p y ≡ false) → p y ≡ false
      go true is h rest = rest (rw (one_more (prefix_len p xs)) at h)
      go false is h rest = let same : x ≡ y = cc in rw same at is

  ends : (ys : List ℕ) → ((y : ℕ) (zs : List ℕ) → ys ≡ y ∷ zs → p y ≡ false) → prefix_len other ys ≡ 0 → ys ≡ []
  unfolding other
  ends [] begins e = refl
  ends (y ∷ ys) begins e =
      let is : p y ≡ false = begins y ys refl in
      let h : 1 + prefix_len other ys ≡ 0 = rw is at e in absurd (omega (arith, h))

space_shown : (x : ℕ) → is_space x ≡ true → (is_space x || is_visible x) ≡ true
space_shown x is = go (is_space x) is
  where
    go : (b : Bool) → b ≡ true → (b || is_visible x) ≡ true
    go true e = refl
    go false e = cc

visible_shown : (x : ℕ) → is_visible x ≡ true → (is_space x || is_visible x) ≡ true
visible_shown x is = go (is_space x) (is_visible x) is
  where
    go : (a b : Bool) → b ≡ true → (a || b) ≡ true
    go true b e = refl
    go false b e = e

spaces : (xs : List ℕ) → IsPrintable (take (prefix_len is_space xs) xs)
spaces [] = λ k d lt. absurd (omega arith)
spaces (x ∷ xs) = go (is_space x) refl (spaces xs)
  where
    go : (b : Bool) → is_space x ≡ b → IsPrintable (take (prefix_len is_space xs) xs) → IsPrintable (take (cond b (1 + prefix_len is_space xs) 0) (x ∷ xs))
    go true is rest =
        rw (one_more (prefix_len is_space xs)) (All-cons (λ b. (is_space b || is_visible b) ≡ true) x (take (prefix_len is_space xs) xs) (space_shown x is) rest)
    go false is rest = λ k d lt. absurd (omega arith)

all_shown : (word : List ℕ) → AllPass is_visible word → IsPrintable word
all_shown word h = λ k d lt. visible_shown (get_or word k d) (h k d lt)

shown_append : (xs ys : List ℕ) → IsPrintable xs → IsPrintable ys → IsPrintable (xs ++ ys)
shown_append xs ys h k = All-append (λ b. (is_space b || is_visible b) ≡ true) xs ys h k

shown_behind : (xs : List ℕ) (front : ℕ) → front ≡ prefix_len is_space xs → IsPrintable (drop front xs) → IsPrintable xs
shown_behind xs front e h =
    subst IsPrintable (take-append-drop front xs) (shown_append (take front xs) (drop front xs) (rw e (spaces xs)) h)

pub no_word : (xs ys : List ℕ) (front end : ℕ) → front ≡ prefix_len is_space xs → ys ≡ drop front xs → end ≡ prefix_len is_other ys → end ≡ 0 → NoWord xs
unfolding parts other
no_word xs ys front end e cut_off f none =
    let empty : ys ≡ [] = ends is_space ys (λ y zs at. stops is_space xs y zs (ap (λ n. drop n xs) (sym e) ∙ sym cut_off ∙ at)) (sym f ∙ none) in
    let behind : drop front xs ≡ [] = sym cut_off ∙ empty in
    record {
      none = sym (skip is_space xs) ∙ ap (λ n. words_of (drop n xs)) (sym e) ∙ ap words_of behind;
      printable = shown_behind xs front e (rw behind (λ k d lt. absurd (omega arith)));
    }

pub some_word : (xs ys : List ℕ) (front end : ℕ) → front ≡ prefix_len is_space xs → ys ≡ drop front xs → end ≡ prefix_len is_other ys → 0 < end → FirstWord xs (take end ys) (drop end ys)
unfolding parts other
some_word xs ys front end e cut_off f some =
    let within : end ≤ length ys = rw f (prefix_len-le-length is_other ys) in
    record {
      first = sym (skip is_space xs) ∙ ap (λ n. words_of (drop n xs)) (sym e) ∙ ap words_of (sym cut_off) ∙ first_part is_space ys end f some;
      printable = λ visible after.
          shown_behind xs front e (subst IsPrintable (take-append-drop end ys ∙ cut_off) (shown_append (take end ys) (drop end ys) (all_shown (take end ys) visible) after));
      shorter = omega (arith, length-drop end ys, length-drop front xs, ap length cut_off);
    }

one_space : (b : ℕ) (after : List ℕ) → is_space b ≡ true → words_of (b ∷ after) ≡ words_of after
one_space b after is = rw is refl

one_on : (n : ℕ) → n + 1 ≡ suc n
one_on n = omega arith

pub is_zero : (n : ℕ) (b : Bool) → b ≡ (n == 0) → b ≡ true → n ≡ 0
is_zero n b e is = grind (arith, nat_tests)

pub is_some : (n : ℕ) (b : Bool) → b ≡ (n == 0) → b ≡ false → 0 < n
is_some n b e is = grind (arith, nat_tests)

-- the cut at a white space
pub cut_there : (xs word after : List ℕ) (i : ℕ) → prefix_len is_other xs ≡ i → i < length xs → is_space (get_or xs i 0) ≡ true → word ≡ take i xs → length word ≡ i → after ≡ drop (i + 1) xs → CutAtSpace xs word after
cut_there xs word after i n lt is front long back =
    let behind : drop i xs ≡ get_or xs i 0 ∷ after = drop-cons xs i 0 lt ∙ ap (λ l. get_or xs i 0 ∷ l) (sym (back ∙ ap (λ k. drop k xs) (one_on i))) in
    record {
      long = long ∙ sym n;
      front = front ∙ ap (λ k. take k xs) (sym n);
      same = ap (λ k. words_of (drop k xs)) n ∙ ap words_of behind ∙ one_space (get_or xs i 0) after is;
      printable = λ shown.
          rw (n, behind) (All-cons (λ x. (is_space x || is_visible x) ≡ true) (get_or xs i 0) after (space_shown (get_or xs i 0) is) shown);
      shorter = rw n (omega (arith, ap length behind));
    }

-- the cut of a text without white space
pub cut_nowhere : (xs word after : List ℕ) → prefix_len is_other xs ≡ length xs → word ≡ take (length xs) xs → length word ≡ length xs → after ≡ drop (length xs) xs → CutAtSpace xs word after
cut_nowhere xs word after n front long back = record {
  long = long ∙ sym n;
  front = front ∙ ap (λ k. take k xs) (sym n);
  same = ap (λ k. words_of (drop k xs)) n ∙ ap words_of (sym back);
  printable = λ shown. rw (n, ← back) shown;
  shorter = rw n (omega (arith, ap length back));
}

pub cut_word : (xs ys word after : List ℕ) (front : ℕ) → front ≡ prefix_len is_space xs → ys ≡ drop front xs → CutAtSpace ys word after → 0 < length word → FirstWord xs word after
cut_word xs ys word after front e cut_off cut some =
    let first = some_word xs ys front (prefix_len is_other ys) e cut_off refl (omega (arith, cut.long)) in
    record {
      first = first.first ∙ (λ i. sym cut.front i ∷ cut.same i);
      printable = λ visible shown. first.printable (subst (AllPass is_visible) cut.front visible) (cut.printable shown);
      shorter = omega (arith, first.shorter, cut.shorter);
    }
