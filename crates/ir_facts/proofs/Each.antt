-- A fact about each item and its place, from the head of the list on.
use Rattle.std.proofs.Common.{◌≡◌, ◌↔◌, ℕ, zero, suc, ◌+◌, List, [], ◌∷◌, All, Some, None, Option, drop, slice_get, refl, sym, subst, ap, ◌∙◌, arith}
use Rattle.std.specs.Prelude.{⊤, IsSomeAnd}
use Rattle.ir_facts.specs.Each.{EachAt}

-- of each item, where the first one's place is k
abbrev pub EachFrom : {A : Type 0} → (ℕ → A → Type 0) → ℕ → List A → Type 0
EachFrom P k [] = ⊤
EachFrom P k (x ∷ xs) = P k x × EachFrom P (k + 1) xs

module _ {A : Type 0} (P : ℕ → A → Type 0) where
  moved : (j k : ℕ) (x y : A) → j ≡ k → x ≡ y → P j x → P k y
  moved j k x y e f p =
      let Q : A → Type 0 = λ z. P j z in
      let R : ℕ → Type 0 = λ n. P n y in
      subst R e (subst Q f p)

  shifted : (n : ℕ) (xs : List A) → EachFrom P n xs → (k : ℕ) (x : A) → slice_get xs k ≡ Some x → P (k + n) x
  shifted n [] h k x e = cc
  shifted n (y ∷ ys) h zero x e =
      let there : n ≡ zero + n = omega arith in
      let same : y ≡ x = cc in
      moved n (zero + n) y x there same h.0
  shifted n (y ∷ ys) h (suc k) x e =
      let there : k + (n + 1) ≡ suc k + n = omega arith in
      moved (k + (n + 1)) (suc k + n) x x there (λ i. x) (shifted (n + 1) ys h.1 k x e)

  back : (n : ℕ) (xs : List A) → ((k : ℕ) (x : A) → slice_get xs k ≡ Some x → P (k + n) x) → EachFrom P n xs
  back n [] h = tt
  back n (x ∷ xs) h =
      let here : zero + n ≡ n = omega arith in (
        moved (zero + n) n x x here (λ i. x) (h zero x (λ i. Some x)),
        back (n + 1) xs (λ k y e. let there : suc k + n ≡ k + (n + 1) = omega arith in moved (suc k + n) (k + (n + 1)) y y there (λ i. y) (h (suc k) y e)),
      )

  -- a fact about each item and its place is one from the head on, with places from 0
  pub each_from : (xs : List A) → EachAt P xs ↔ EachFrom P 0 xs
  each_from xs = (
    λ h. back 0 xs (λ k x e. let there : k ≡ k + 0 = omega arith in moved k (k + 0) x x there (λ i. x) (h k x e)),
    λ h k x e. let there : k + 0 ≡ k = omega arith in moved (k + 0) k x x there (λ i. x) (shifted 0 xs h k x e),
  )

module _ {A : Type 0} where
  -- an item, and those behind it
  pub from_here : (xs : List A) (k : ℕ) (x : A) → slice_get xs k ≡ Some x → drop k xs ≡ x ∷ drop (k + 1) xs
  from_here [] k x e = cc
  from_here (y ∷ xs) zero x e =
      let same : y ≡ x = cc in ap (λ z. z ∷ xs) same
  from_here (y ∷ xs) (suc k) x e =
      let next : suc (k + 1) ≡ suc k + 1 = omega arith in
      from_here xs k x e ∙ ap (λ n. x ∷ drop n (y ∷ xs)) next

module _ {A : Type 0} (P : A → Type 0) where
  of_rest : (x : A) (xs : List A) → All P (x ∷ xs) → All P xs
  of_rest x xs h j d lt = h (suc j) d (omega arith)

  of_both : (x : A) (xs : List A) → P x → All P xs → All P (x ∷ xs)
  of_both x xs p h zero d lt = p
  of_both x xs p h (suc j) d lt = h j d (omega arith)

  behind : (o : Option A) (xs : List A) (k : ℕ) → slice_get xs k ≡ o → IsSomeAnd o P → All P (drop k xs) ↔ All P (drop (k + 1) xs)
  behind None xs k e p = absurd p
  behind (Some x) xs k e p =
      let rest = drop (k + 1) xs in
      subst (λ l. All P l ↔ All P rest) (sym (from_here xs k x e)) (of_rest x rest, of_both x rest p)

  -- where a fact holds of an item, what is left behind it decides
  pub left_behind : (xs : List A) (k : ℕ) → IsSomeAnd (slice_get xs k) P → All P (drop k xs) ↔ All P (drop (k + 1) xs)
  left_behind xs k p = behind (slice_get xs k) xs k refl p
