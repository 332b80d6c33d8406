-- Where no point of something fails, what it asks for holds, and the other way round.
use Rattle.std.proofs.Common.{◌≡◌, ◌<◌, ◌≤◌, ◌+◌, ℕ, zero, suc, Bool, true, false, List, [], ◌∷◌, ◌++◌, All, Option, Some, None, refl, subst, arith}
use Rattle.std.proofs.lemmas.Bool.{ltb-true, lt-ltb, leb-true, le-leb}
use Rattle.std.specs.Prelude.{⊤, IfSome, nat_lt, nat_le}
use Rattle.ir_facts.proofs.Each.{EachFrom, each_from}
use Rattle.ir_arena.proofs.Points.{first_holds, both_hold}
use Rattle.ir_facts.specs.Each.{EachAt}
use Rattle.ir_arena.specs.Points.{first_fault, points_from, points_of_each}
use Rattle.ir_misfits.specs.declared.misfit.HandleOf.{HandleOf}
use Rattle.ir_misfits.specs.declared.misfit.Misfit.{Misfit}
use Rattle.ir_misfits.specs.declared.misfit.Place.{Place}
use Rattle.ir_misfits.specs.MisfitPoints.{MisfitPoints, named, named_if, counted}

-- these points ask for this
pub record Exact (ps : MisfitPoints) (P : Type 0) : Type 0 where
  pub holds : first_fault ps ≡ None → P
  pub passes : P → first_fault ps ≡ None

pub nothing : Exact [] ⊤
nothing = record { holds = λ e. tt; passes = λ h. refl }

-- the same in other words
pub said : {ps : MisfitPoints} {P Q : Type 0} → (P → Q) → (Q → P) → Exact ps P → Exact ps Q
said to from exact = record { holds = λ e. to (exact.holds e); passes = λ h. exact.passes (from h) }

one_passes : (c : Bool) (f : Misfit) (ps : MisfitPoints) → c ≡ true → first_fault ps ≡ None → first_fault ((c, f) ∷ ps) ≡ None
one_passes true f ps e h = h
one_passes false f ps e h = cc

-- a point, and others
pub point_then : (c : Bool) (f : Misfit) (ps : MisfitPoints) (P Q : Type 0) → (c ≡ true → P) → (P → c ≡ true) → Exact ps Q → Exact ((c, f) ∷ ps) (P × Q)
point_then c f ps P Q to from rest =
    record {
      holds = λ e. let both = first_holds c f ps e in (to both.0, rest.holds both.1);
      passes = λ h. one_passes c f ps (from h.0) (rest.passes h.1);
    }

-- a point alone
pub point_alone : (c : Bool) (f : Misfit) (P : Type 0) → (c ≡ true → P) → (P → c ≡ true) → Exact ((c, f) ∷ []) P
point_alone c f P to from =
    record {
      holds = λ e. to (first_holds c f [] e).0;
      passes = λ h. one_passes c f [] (from h) refl;
    }

pub named_then : (place : Place) (of : HandleOf) (n h : ℕ) (ps : MisfitPoints) (Q : Type 0) → Exact ps Q → Exact (named place of n h ∷ ps) ((h < n) × Q)
named_then place of n h ps Q rest =
    let this = named place of n h in
    point_then (nat_lt h n) this.1 ps (h < n) Q (ltb-true h n) (lt-ltb h n) rest

pub named_alone : (place : Place) (of : HandleOf) (n h : ℕ) → Exact (named place of n h ∷ []) (h < n)
named_alone place of n h =
    let this = named place of n h in
    point_alone (nat_lt h n) this.1 (h < n) (ltb-true h n) (lt-ltb h n)

pub named_if_alone : (place : Place) (of : HandleOf) (n : ℕ) (o : Option ℕ) → Exact (named_if place of n o) (IfSome o (λ h. h < n))
named_if_alone place of n None = nothing
named_if_alone place of n (Some h) = named_alone place of n h

pub counted_then : (place : Place) (n : ℕ) (ps : MisfitPoints) (Q : Type 0) → Exact ps Q → Exact (counted place n ∷ ps) ((n ≤ 4294967295) × Q)
counted_then place n ps Q rest =
    let this = counted place n in
    point_then (nat_le n 4294967295) this.1 ps (n ≤ 4294967295) Q (leb-true n 4294967295) (le-leb n 4294967295) rest

both_pass : (ps qs : MisfitPoints) → first_fault ps ≡ None → first_fault qs ≡ None → first_fault (ps ++ qs) ≡ None
both_pass [] qs h k = k
both_pass ((true, f) ∷ ps) qs h k = both_pass ps qs h k
both_pass ((false, f) ∷ ps) qs h k = cc

-- some points, and others
pub both : (ps qs : MisfitPoints) (P Q : Type 0) → Exact ps P → Exact qs Q → Exact (ps ++ qs) (P × Q)
both ps qs P Q one other =
    record {
      holds = λ e. let parts = both_hold ps qs e in (one.holds parts.0, other.holds parts.1);
      passes = λ h. both_pass ps qs (one.passes h.0) (other.passes h.1);
    }

module _ {A : Type 0} (points : ℕ → A → MisfitPoints) where
  -- of each item and its place
  each_from_exact : (P : ℕ → A → Type 0) → ((k : ℕ) (x : A) → Exact (points k x) (P k x)) → (k : ℕ) (xs : List A) → Exact (points_from points k xs) (EachFrom P k xs)
  each_from_exact P exact k [] = nothing
  each_from_exact P exact k (x ∷ xs) =
      let next : suc k ≡ k + 1 = omega arith in
      let rest = each_from_exact P exact (suc k) xs in
      both (points k x) (points_from points (suc k) xs) (P k x) (EachFrom P (k + 1) xs) (exact k x)
      (subst (λ j. Exact (points_from points (suc k) xs) (EachFrom P j xs)) next rest)

  pub each_exact : (P : ℕ → A → Type 0) → ((k : ℕ) (x : A) → Exact (points k x) (P k x)) → (xs : List A) → Exact (points_of_each points xs) (EachAt P xs)
  each_exact P exact xs = said (each_from P xs).1 (each_from P xs).0 (each_from_exact P exact 0 xs)

module _ {A : Type 0} (P : A → Type 0) where
  no_item : All P []
  no_item k d lt = absurd (omega (arith, lt))

  more : (x : A) (xs : List A) → P x → All P xs → All P (x ∷ xs)
  more x xs p h zero d lt = p
  more x xs p h (suc k) d lt = h k d (omega (arith, lt))

  head_of : (x : A) (xs : List A) → All P (x ∷ xs) → P x
  head_of x xs h = h zero x (omega arith)

  rest_of : (x : A) (xs : List A) → All P (x ∷ xs) → All P xs
  rest_of x xs h k d lt = h (suc k) d (omega (arith, lt))

  -- of each item
  all_from_exact : (points : ℕ → A → MisfitPoints) → ((k : ℕ) (x : A) → Exact (points k x) (P x)) → (k : ℕ) (xs : List A) → Exact (points_from points k xs) (All P xs)
  all_from_exact points exact k [] = record { holds = λ e. no_item; passes = λ h. refl }
  all_from_exact points exact k (x ∷ xs) =
      said (λ h. more x xs h.0 h.1) (λ h. (head_of x xs h, rest_of x xs h))
      (both (points k x) (points_from points (suc k) xs) (P x) (All P xs) (exact k x) (all_from_exact points exact (suc k) xs))

  pub all_exact : (points : ℕ → A → MisfitPoints) → ((k : ℕ) (x : A) → Exact (points k x) (P x)) → (xs : List A) → Exact (points_of_each points xs) (All P xs)
  all_exact points exact xs = all_from_exact points exact 0 xs
