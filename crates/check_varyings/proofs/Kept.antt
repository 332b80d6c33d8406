-- What a state has seen, as the code changes it.
use Rattle.std.proofs.Common.{◌≡◌, ℕ, ◌+◌, ◌<◌, ◌≤◌, Bool, true, false, not, ◌&&◌, ◌||◌, ◌==◌, List, [], ◌∷◌, ◌++◌, None, Some, Result, Ok, Err, length, take, get_or, refl, sym, ap, ◌∙◌, arith, inl, inr}
use Rattle.std.proofs.Math.Bool.{or_assoc}
use Rattle.std.proofs.lemmas.Bool.{cases_lt, cond_both, cond-true, cond-false, lt-ltb, le-ltb, ne_eqb, eqb-true}
use Rattle.std.proofs.lemmas.List.{take_more}
use Rattle.std.proofs.lemmas.List.Folds.{list_any-append}
use Rattle.std.specs.List.{list_any}
use Rattle.std.specs.Prelude.{OnOk, OnErr, nat_lt, if◌then◌else◌}
use Rattle.ir_leaves.specs.declared.built_in.BuiltIn.{BuiltIn}
use Rattle.ir_leaves.specs.declared.bindings.Binding.{Binding}
use Rattle.ir_leaves.specs.declared.bindings.Binding.TheVariants as binding
use Rattle.check_varyings.specs.BuiltIns.{canonical}
use Rattle.check_varyings.specs.BuiltInNumbers.{number_of}
use Rattle.check_varyings.specs.CodeVaryings.{far_less, far_location, location_of, seen_more, with_location}
use Rattle.check_varyings.specs.Seen.{Seen}
use Rattle.check_varyings.specs.SmallSets.{has_number}
use Rattle.check_varyings.specs.Varyings.{VaryingPart, Bound, is_at, is_built_in, nothing_seen, seen_by, seen_with, without_built_ins}
use Rattle.check_varyings.specs.declared.small_set.SmallSet.{SmallSet}
use Rattle.check_varyings.specs.declared.varying.Near.{Near}
use Rattle.check_varyings.proofs.BuiltInNumbers.{same_number}
use Rattle.check_varyings.proofs.Seeing.{seen_same}

pub on_ok : {A E : Type 0} {P Q : Type 0} (r : Result A E) → (P → Q) → OnOk r P → OnOk r Q
on_ok (Ok x) f p = f p
on_ok (Err e) f p = tt

pub on_err : {A E : Type 0} {P Q : Type 0} (r : Result A E) → (P → Q) → OnErr r P → OnErr r Q
on_err (Ok x) f p = tt
on_err (Err e) f p = f p

or_false : (b : Bool) → (b || false) ≡ b
or_false true = refl
or_false false = refl

and_true : (b : Bool) → (b && true) ≡ b
and_true true = refl
and_true false = refl

-- nothing is kept
pub nothing_by : (near : Near) (far : ℕ → Bool) → ((n : ℕ) → has_number near.locations n ≡ false) → ((n : ℕ) → has_number near.built_ins n ≡ false) →
    ((l : ℕ) → far l ≡ false) → seen_by near far ≡ nothing_seen
nothing_by near far locations built_ins none =
    seen_same _ _
    (λ l. cond_both (nat_lt l 64) (has_number near.locations l) (far l) (λ b. b ≡ false) (λ _. locations l) (λ _. none l))
    (λ b. built_ins (number_of b))

-- the built-ins are cleared
pub cleared_by : (near : Near) (none : SmallSet) (far : ℕ → Bool) → ((n : ℕ) → has_number none n ≡ false) →
    seen_by (record near { built_ins = none }) far ≡ without_built_ins (seen_by near far)
cleared_by near none far h = seen_same _ _ (λ l. refl) (λ b. h (number_of b))

-- a location below 64 more, one from there on more, and a built-in more
module _ (near : Near) (far : ℕ → Bool) (k : ℕ) where
  pub with_low : (new : SmallSet) → k < 64 → ((n : ℕ) → has_number new n ≡ (has_number near.locations n || (n == k))) →
      seen_by (record near { locations = new }) far ≡ with_location (seen_by near far) k
  with_low new low h = seen_same _ _ at (λ b. refl)
    where
      at : (l : ℕ) → (if nat_lt l 64 then has_number new l else far l) ≡ ((if nat_lt l 64 then has_number near.locations l else far l) || (l == k))
      at l =
          elim (cases_lt l 64) as (λ _. (if nat_lt l 64 then has_number new l else far l) ≡ ((if nat_lt l 64 then has_number near.locations l else far l) || (l == k))) [
            | inl lt ↦ rw (lt-ltb l 64 lt) (h l)
            | inr ge ↦ let other : l ≡ k → ⊥ = λ e. omega (arith, ge, low, e) in rw (le-ltb l 64 ge, ne_eqb l k other) (sym (or_false (far l)))
          ]

  pub with_far : (new : ℕ → Bool) → 64 ≤ k → ((n : ℕ) → new n ≡ (far n || (n == k))) → seen_by near new ≡ with_location (seen_by near far) k
  with_far new high h = seen_same _ _ at (λ b. refl)
    where
      at : (l : ℕ) → (if nat_lt l 64 then has_number near.locations l else new l) ≡ ((if nat_lt l 64 then has_number near.locations l else far l) || (l == k))
      at l =
          elim (cases_lt l 64) as (λ _. (if nat_lt l 64 then has_number near.locations l else new l) ≡ ((if nat_lt l 64 then has_number near.locations l else far l) || (l == k))) [
            | inl lt ↦ let other : l ≡ k → ⊥ = λ e. omega (arith, lt, high, e) in rw (lt-ltb l 64 lt, ne_eqb l k other) (sym (or_false (has_number near.locations l)))
            | inr ge ↦ rw (le-ltb l 64 ge) (h l)
          ]

pub with_built_in : (near : Near) (far : ℕ → Bool) (new : SmallSet) (given : BuiltIn) →
    ((n : ℕ) → has_number new n ≡ (has_number near.built_ins n || (n == number_of (canonical given)))) →
    seen_by (record near { built_ins = new }) far ≡ seen_more (seen_by near far) (binding.BuiltIn given)
with_built_in near far new given h =
    seen_same _ _ (λ l. sym (or_false _))
    (λ b. h (number_of b) ∙ ap (λ x. has_number near.built_ins (number_of b) || x) (same_number b (canonical given)))

-- the same locations from 64 on
pub same_far : (near : Near) (new far : ℕ → Bool) → ((l : ℕ) → new l ≡ far l) → seen_by near new ≡ seen_by near far
same_far near new far h = λ i. seen_by near (λ l. h l i)

taken_bool : (x z : Bool) → (z ≡ true → x ≡ true) → x ≡ (x || z)
taken_bool true z h = refl
taken_bool false true h = h refl
taken_bool false false h = refl

pushed_bool : (x y z : Bool) → (z ≡ true → x ≡ false) → (x && not (y || (z || false))) ≡ (x && not y)
pushed_bool x true z h = refl
pushed_bool x false true h = ap (λ b. b && false) (h refl) ∙ ap (λ b. b && true) (sym (h refl))
pushed_bool x false false h = refl

put_bool : (x y z : Bool) → (z ≡ true → x ≡ false) → ((x || z) && not (y || (z || false))) ≡ (x && not y)
put_bool true true z h = refl
put_bool true false true h = sym (h refl)
put_bool true false false h = refl
put_bool false true true h = refl
put_bool false true false h = refl
put_bool false false true h = refl
put_bool false false false h = refl

less_bool : (x y z : Bool) → ((x && not y) && not z) ≡ (x && not (y || (z || false)))
less_bool true true z = refl
less_bool true false z = ap not (sym (or_false z))
less_bool false y z = refl

-- parts behind what was seen
pub seen_with_none : (s : Seen) → seen_with s [] ≡ s
seen_with_none s = seen_same _ _ (λ l. or_false _) (λ b. or_false _)

pub seen_with-append : (s : Seen) (ps qs : List VaryingPart) → seen_with (seen_with s ps) qs ≡ seen_with s (ps ++ qs)
seen_with-append s ps qs =
    seen_same _ _
    (λ l. or_assoc (s.locations l) _ _ ∙ ap (λ b. s.locations l || b) (sym (list_any-append (is_at l) ps qs)))
    (λ b. or_assoc (s.built_ins b) _ _ ∙ ap (λ x. s.built_ins b || x) (sym (list_any-append (is_built_in b) ps qs)))

pub more_is : (s : Seen) (ty : ℕ) (given : Binding) → seen_more s given ≡ seen_with s (Bound ty given ∷ [])
more_is s ty given = seen_same _ _ (λ l. ap (λ b. s.locations l || b) (sym (or_false _))) (λ b. ap (λ x. s.built_ins b || x) (sym (or_false _)))

far_at : (k l : ℕ) → (if nat_lt k 64 then None else Some k) ≡ Some l → (k ≡ l) × (64 ≤ l)
far_at k l e =
    elim (cases_lt k 64) as (λ _. (k ≡ l) × (64 ≤ l)) [
      | inl lt ↦ let none : None ≡ Some l = sym (cond-true (nat_lt k 64) None (Some k) (lt-ltb k 64 lt)) ∙ e in cc
      | inr ge ↦
          let some : Some k ≡ Some l = sym (cond-false (nat_lt k 64) None (Some k) (le-ltb k 64 ge)) ∙ e in
          let same : k ≡ l = cc in (same, omega (arith, ge, same))
    ]

-- what is bound without memory: a location is below 64
pub is_near : (k : ℕ) → (if nat_lt k 64 then None else Some k) ≡ None → k < 64
is_near k e =
    elim (cases_lt k 64) as (λ _. k < 64) [
      | inl lt ↦ lt
      | inr ge ↦ let some : Some k ≡ None = sym (cond-false (nat_lt k 64) None (Some k) (le-ltb k 64 ge)) ∙ e in cc
    ]

pub low_is : (s : Seen) (given : Binding) (k : ℕ) → location_of given ≡ Some k → with_location s k ≡ seen_more s given
low_is s (binding.BuiltIn b) k e = cc
low_is s (binding.Location l interpolation sampling blend_src per_primitive) k e =
    let same : l ≡ k = cc in
    seen_same _ _ (λ n. ap (λ x. s.locations n || (n == x)) (sym same)) (λ b. sym (or_false _))

-- what is bound from 64 on is a location
pub far_is : (s : Seen) (given : Binding) (l : ℕ) → far_location given ≡ Some l → with_location s l ≡ seen_more s given
far_is s (binding.BuiltIn b) l e = cc
far_is s (binding.Location k interpolation sampling blend_src per_primitive) l e =
    let same : k ≡ l = (far_at k l e).0 in
    seen_same _ _ (λ n. ap (λ x. s.locations n || (n == x)) (sym same)) (λ b. sym (or_false _))

pub is_far : (given : Binding) (l : ℕ) → far_location given ≡ Some l → 64 ≤ l
is_far (binding.BuiltIn b) l e = cc
is_far (binding.Location k interpolation sampling blend_src per_primitive) l e = (far_at k l e).1

-- a location from 64 on, and one that is taken already
pub far_location_is : (near : Near) (far : ℕ → Bool) (l : ℕ) → 64 ≤ l → (seen_by near far).locations l ≡ far l
far_location_is near far l le = cond-false (nat_lt l 64) (has_number near.locations l) (far l) (le-ltb l 64 le)

pub taken_is : (s : Seen) (k : ℕ) → s.locations k ≡ true → s ≡ with_location s k
taken_is s k e = seen_same _ _ at (λ b. refl)
  where
    at : (l : ℕ) → s.locations l ≡ (s.locations l || (l == k))
    at l = taken_bool (s.locations l) (l == k) (λ h. let same : l ≡ k = eqb-true l k h in ap s.locations same ∙ e)

-- what is taken back
module _ (far : ℕ → Bool) where
  pub less_none : (l : ℕ) → far_less far [] l ≡ far l
  less_none l = and_true (far l)

  -- one more is taken back
  pub less_turn : (now left : ℕ → Bool) (added : List ℕ) (i d : ℕ) → i < length added → ((l : ℕ) → now l ≡ far_less far (take i added) l) →
      ((l : ℕ) → left l ≡ (now l && not (l == get_or added i d))) → (l : ℕ) → left l ≡ far_less far (take (i + 1) added) l
  less_turn now left added i d lt e f l =
      let k = get_or added i d in
      f l
      ∙ ap (λ b. b && not (l == k)) (e l)
      ∙ less_bool (far l) (list_any (λ g. l == g) (take i added)) (l == k)
      ∙ ap (λ b. far l && not b) (sym (list_any-append (λ g. l == g) (take i added) (k ∷ [])))
      ∙ ap (λ z. far_less far z l) (sym (take_more added i d lt))

  module _ (added items : List ℕ) (k : ℕ) (new : far k ≡ false) (is : items ≡ added ++ k ∷ []) (l : ℕ) where
    at_new : (l == k) ≡ true → far l ≡ false
    at_new e = let same : l ≡ k = eqb-true l k e in ap far same ∙ new

    -- of what wasn't there, before it is put there and behind that
    push_less : far_less far items l ≡ far_less far added l
    push_less =
        ap (λ z. far_less far z l) is
        ∙ ap (λ b. far l && not b) (list_any-append (λ g. l == g) added (k ∷ []))
        ∙ pushed_bool (far l) _ (l == k) at_new

    put_less : ((far l || (l == k)) && not (list_any (λ g. l == g) items)) ≡ far_less far added l
    put_less =
        ap (λ z. (far l || (l == k)) && not (list_any (λ g. l == g) z)) is
        ∙ ap (λ b. (far l || (l == k)) && not b) (list_any-append (λ g. l == g) added (k ∷ []))
        ∙ put_bool (far l) _ (l == k) at_new

-- what is pushed, and then put or not, is taken back
pub held_less : (far now : ℕ → Bool) (added items : List ℕ) (k : ℕ) → far k ≡ false → items ≡ added ++ k ∷ [] →
    {A E : Type 0} (r : Result A E) → OnOk r ((l : ℕ) → now l ≡ (far l || (l == k))) → OnErr r ((l : ℕ) → now l ≡ far l) →
    (l : ℕ) → far_less now items l ≡ far_less far added l
held_less far now added items k new is (Ok x) put err l =
    ap (λ b. b && not (list_any (λ g. l == g) items)) (put l) ∙ put_less far added items k new is l
held_less far now added items k new is (Err x) put err l =
    ap (λ b. b && not (list_any (λ g. l == g) items)) (err l) ∙ push_less far added items k new is l
