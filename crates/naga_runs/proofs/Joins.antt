-- A set with more in it: what acts, lists and earlier statements add.
use Rattle.std.proofs.lemmas.Bool.{eqb-true, eq-eqb}
use Rattle.std.proofs.lemmas.List.Elements.{Contains-append_left, Contains-append_right, Contains-append_cases}
use Rattle.std.specs.Prelude.{get_or, ℕ, zero, suc, Bool, true, false, List, Contains, length, ◌≡◌, ◌⊎◌, ◌∷◌, ◌++◌, ◌==◌, if◌then◌else◌, [], ◌<◌}
use Rattle.std.proofs.Common.{refl, ap, arith, inl, inr}
use Rattle.ir_statements.specs.Tree.{Act, Body, Use, Put, Done, Then}
use Rattle.naga_runs.specs.Handles.{Handles, with_handle}
use Rattle.naga_runs.specs.Must.{holds_continue, with_sure}
use Rattle.naga_runs.specs.Positions.{statement_at, statement_node}
use Rattle.naga_runs.specs.PutsAndUses.{acts_of, node_acts, puts_of, body_puts, with_acts, with_body}
use Rattle.naga_runs.specs.Scope.{with_earlier}
use Rattle.naga_runs.specs.Unions.{sure_puts}

-- t has what s has and what `More` says, and nothing else
pub record Joins (s t : Handles) (More : ℕ → Type 0) : Type 0 where
  pub into : (h : ℕ) → (s h ≡ true) ⊎ More h → t h ≡ true
  pub out : (h : ℕ) → t h ≡ true → (s h ≡ true) ⊎ More h

pub joins_none : (s : Handles) (More : ℕ → Type 0) → ((h : ℕ) → More h → ⊥) → Joins s s More
joins_none s More none = record { into = λ h e. go h e; out = λ h e. inl e }
  where
    go : (h : ℕ) → (s h ≡ true) ⊎ More h → s h ≡ true
    go h (inl e) = e
    go h (inr m) = absurd (none h m)

pub joins_both : (s t u : Handles) (A B C : ℕ → Type 0) → Joins s t A → Joins t u B → ((h : ℕ) → A h ⊎ B h → C h) →
    ((h : ℕ) → C h → A h ⊎ B h) → Joins s u C
joins_both s t u A B C a b to from = record { into = λ h e. put h e; out = λ h e. first h (b.out h e) }
  where
    more : (h : ℕ) → A h ⊎ B h → u h ≡ true
    more h (inl m) = b.into h (inl (a.into h (inr m)))
    more h (inr m) = b.into h (inr m)

    put : (h : ℕ) → (s h ≡ true) ⊎ C h → u h ≡ true
    put h (inl e) = b.into h (inl (a.into h (inl e)))
    put h (inr c) = more h (from h c)

    second : (h : ℕ) → (s h ≡ true) ⊎ A h → (s h ≡ true) ⊎ C h
    second h (inl e) = inl e
    second h (inr m) = inr (to h (inl m))

    first : (h : ℕ) → (t h ≡ true) ⊎ B h → (s h ≡ true) ⊎ C h
    first h (inl e) = second h (a.out h e)
    first h (inr m) = inr (to h (inr m))

pub none_in : {X : Type 0} (x : X) → Contains [] x → ⊥
none_in x c = let lt = c.1 in omega (arith)

first_or_more : (x h : ℕ) (xs : List ℕ) → Contains (x ∷ xs) h → (x ≡ h) ⊎ Contains xs h
first_or_more x h xs c = go c.0 c.1 c.2
  where
    go : (k : ℕ) → k < length (x ∷ xs) → get_or (x ∷ xs) k h ≡ h → (x ≡ h) ⊎ Contains xs h
    go zero lt e = inl e
    go (suc k) lt e = inr (k, omega (arith), e)

handle_in : (x h : ℕ) (s : Handles) → (x ≡ h) ⊎ (s h ≡ true) → with_handle s x h ≡ true
handle_in x h s (inl same) = ap (λ c. if c then true else s h) (eq-eqb x h same)
handle_in x h s (inr e) = go (x == h)
  where
    go : (c : Bool) → (if c then true else s h) ≡ true
    go true = refl
    go false = e

handle_out : (x h : ℕ) (s : Handles) → with_handle s x h ≡ true → (x ≡ h) ⊎ (s h ≡ true)
handle_out x h s e = go (x == h) refl e
  where
    go : (c : Bool) → (x == h) ≡ c → (if c then true else s h) ≡ true → (x ≡ h) ⊎ (s h ≡ true)
    go true same f = inl (eqb-true x h same)
    go false other f = inr f

-- one more put before others
put_joins : (x : ℕ) (xs : List ℕ) (s t : Handles) → Joins (with_handle s x) t (Contains xs) →
    Joins s t (Contains (x ∷ xs))
put_joins x xs s t j = record { into = λ h e. put h e; out = λ h e. take h (j.out h e) }
  where
    put : (h : ℕ) → (s h ≡ true) ⊎ Contains (x ∷ xs) h → t h ≡ true
    put h (inl e) = j.into h (inl (handle_in x h s (inr e)))
    put h (inr c) = more h (first_or_more x h xs c)
      where
        more : (h : ℕ) → (x ≡ h) ⊎ Contains xs h → t h ≡ true
        more h (inl same) = j.into h (inl (handle_in x h s (inl same)))
        more h (inr c) = j.into h (inr c)

    put_first : (h : ℕ) → (x ≡ h) ⊎ (s h ≡ true) → (s h ≡ true) ⊎ Contains (x ∷ xs) h
    put_first h (inl same) = inr (0, omega (arith), same)
    put_first h (inr e) = inl e

    take : (h : ℕ) → (with_handle s x h ≡ true) ⊎ Contains xs h → (s h ≡ true) ⊎ Contains (x ∷ xs) h
    take h (inl e) = put_first h (handle_out x h s e)
    take h (inr c) = inr (Contains-append_right (x ∷ []) xs h c)

pub acts_join : (acts : List Act) (s : Handles) → Joins s (with_acts s acts) (Contains (puts_of acts))
acts_join [] s = joins_none s (Contains []) (λ h c. none_in h c)
acts_join (Use h ∷ acts) s = acts_join acts s
acts_join (Put h ∷ acts) s = put_joins h (puts_of acts) s (with_acts (with_handle s h) acts)
    (acts_join acts (with_handle s h))

pub append_joins : (s t u : Handles) (xs ys : List ℕ) → Joins s t (Contains xs) → Joins t u (Contains ys) →
    Joins s u (Contains (xs ++ ys))
append_joins s t u xs ys a b =
    joins_both s t u (Contains xs) (Contains ys) (Contains (xs ++ ys)) a b (λ h e. to h e)
    (λ h c. Contains-append_cases xs ys h c)
  where
    to : (h : ℕ) → Contains xs h ⊎ Contains ys h → Contains (xs ++ ys) h
    to h (inl c) = Contains-append_left xs ys h c
    to h (inr c) = Contains-append_right xs ys h c

pub body_join : (b : Body) (s : Handles) → Joins s (with_body s b) (Contains (body_puts b))
body_join Done s = joins_none s (Contains []) (λ h c. none_in h c)
body_join (Then x b) s =
    append_joins s (with_acts s (acts_of x)) (with_body (with_acts s (acts_of x)) b) (puts_of (acts_of x))
    (body_puts b) (acts_join (acts_of x) s) (body_join b _)

pub sure_join : (b : Body) (s : Handles) → Joins s (with_sure s b) (Contains (sure_puts b))
sure_join Done s = joins_none s (Contains []) (λ h c. none_in h c)
sure_join (Then x b) s =
    go (holds_continue x) (append_joins s (with_acts s (acts_of x)) (with_sure (with_acts s (acts_of x)) b)
    (puts_of (acts_of x)) (sure_puts b) (acts_join (acts_of x) s) (sure_join b _))
  where
    go : (c : Bool) →
        Joins s (with_sure (with_acts s (acts_of x)) b) (Contains (puts_of (acts_of x) ++ sure_puts b)) → Joins s
        (if c then s else with_sure (with_acts s (acts_of x)) b)
        (Contains (if c then [] else puts_of (acts_of x) ++ sure_puts b))
    go true j = joins_none s (Contains []) (λ h c. none_in h c)
    go false j = j

-- a statement before an index of a list puts it
abbrev pub Earlier : Body → ℕ → ℕ → Type 0
Earlier b i h = (j : ℕ) × (j < i) × Contains (puts_of (node_acts (statement_node (statement_at b j)))) h

pub earlier_join : (b : Body) (i : ℕ) (s : Handles) → Joins s (with_earlier s b i) (Earlier b i)
earlier_join Done i s = joins_none s (Earlier Done i) (λ h m. none_in h m.2)
earlier_join (Then x b) zero s = joins_none s (Earlier (Then x b) zero) (λ h m. let lt = m.1 in omega (arith))
earlier_join (Then x b) (suc i) s =
    joins_both s (with_acts s (acts_of x)) (with_earlier (with_acts s (acts_of x)) b i)
    (Contains (puts_of (acts_of x))) (Earlier b i) (Earlier (Then x b) (suc i)) (acts_join (acts_of x) s)
    (earlier_join b i _) (λ h e. to h e) (λ h m. from h m.0 m.1 m.2)
  where
    to : (h : ℕ) → Contains (puts_of (acts_of x)) h ⊎ Earlier b i h → Earlier (Then x b) (suc i) h
    to h (inl c) = (0, omega (arith), c)
    to h (inr m) = let lt = m.1 in (suc m.0, omega (arith), m.2)

    from : (h j : ℕ) → j < suc i → Contains (puts_of (node_acts (statement_node (statement_at (Then x b) j)))) h →
        Contains (puts_of (acts_of x)) h ⊎ Earlier b i h
    from h zero lt c = inl c
    from h (suc j) lt c = inr (j, omega (arith), c)

-- one addition and then another
pub joins_or : (s t u : Handles) (A B : ℕ → Type 0) → Joins s t A → Joins t u B → Joins s u (λ h. A h ⊎ B h)
joins_or s t u A B a b = joins_both s t u A B (λ h. A h ⊎ B h) a b (λ h e. e) (λ h e. e)
