-- A set of case values: what is found near the place of a value, and that the set has what was put in.
use Rattle.std.proofs.Common.{◌≡◌, ◌≢◌, ℕ, zero, suc, ◌+◌, ◌-◌, ◌<◌, ◌==◌, Bool, true, false, ◌||◌, cond, Option, Some, None, List, [], ◌∷◌, ◌++◌, slice_get, refl, sym, ap, ◌∙◌, subst, arith}
use Rattle.std.specs.Prelude.{if◌then◌else◌, slice_set}
use Rattle.std.proofs.lemmas.Bool.Decides.{nat_tests, Decides-int_eq}
use Rattle.std.proofs.lemmas.List.Folds.{list_any-append}
use Rattle.std.specs.List.{list_any}
use Rattle.std.specs.Ordering.{is_eq}
use Rattle.std.specs.BTreeSet.{contains}
use Rattle.ir_statements.specs.contracts.operations.SwitchValueOrd.TheImpl as value_order
use Rattle.ir_statements.specs.declared.operations.SwitchValue.{SwitchValue}
use Rattle.ir_statements.specs.declared.operations.SwitchValue.TheVariants.{I32, U32, Default}
use Rattle.check_flow.specs.declared.value_set.ValueSet.{ValueSet}
use Rattle.check_flow.specs.declared.value_set.Found.{Found}
use Rattle.check_flow.specs.declared.value_set.Found.TheVariants.{Here, Free, Nowhere}
use Rattle.check_flow.specs.Switch.{is_default, same_value}
use Rattle.check_flow.specs.walk.ValueSet.{HasValues, IsAmong, IsKept, found, found_at, found_from, found_near, kept_as, number_of, start_of}
use Rattle.check_flow.proofs.Values.{same_by_order}

-- values that are found equal are the same
pub same_is : (v w : SwitchValue) → same_value v w ≡ true → v ≡ w
same_is (I32 m) (I32 n) e = ap I32 ((Decides-int_eq m n).0 e)
same_is (U32 m) (U32 n) e = let same : m ≡ n = grind (arith, nat_tests) in ap U32 same
same_is Default Default e = refl
same_is (I32 m) (U32 n) e = absurd cc
same_is (I32 m) Default e = absurd cc
same_is (U32 m) (I32 n) e = absurd cc
same_is (U32 m) Default e = absurd cc
same_is Default (I32 n) e = absurd cc
same_is Default (U32 n) e = absurd cc

pub same_self : (v : SwitchValue) → same_value v v ≡ true
same_self (I32 n) = (Decides-int_eq n n).1 refl
same_self (U32 n) = grind (arith, nat_tests)
same_self Default = refl

default_is : (v : SwitchValue) → is_default v ≡ true → v ≡ Default
default_is Default e = refl
default_is (I32 n) e = absurd cc
default_is (U32 n) e = absurd cc

not_default : (v : SwitchValue) → is_default v ≡ false → same_value Default v ≡ false
not_default (I32 n) e = refl
not_default (U32 n) e = refl
not_default Default e = absurd cc

-- reading a list after a write
module _ {A : Type 0} where
  set_here : (xs : List A) (q : ℕ) (x y : A) → slice_get xs q ≡ Some y → slice_get (slice_set xs q x) q ≡ Some x
  set_here [] q x y e = absurd cc
  set_here (z ∷ zs) zero x y e = refl
  set_here (z ∷ zs) (suc q) x y e = set_here zs q x y e

  set_other : (xs : List A) (p q : ℕ) (x : A) → p ≢ q → slice_get (slice_set xs q x) p ≡ slice_get xs p
  set_other [] p q x ne = refl
  set_other (z ∷ zs) zero zero x ne = absurd (ne refl)
  set_other (z ∷ zs) zero (suc q) x ne = refl
  set_other (z ∷ zs) (suc p) zero x ne = refl
  set_other (z ∷ zs) (suc p) (suc q) x ne = set_other zs p q x (λ e. ne (ap suc e))

-- a place that is one, or another
place_is : {X : Type 0} (p q : ℕ) → (p ≡ q → X) → (p ≢ q → X) → X
place_is {X = X} p q same other = by (p == q) refl
  where
    by : (b : Bool) → (p == q) ≡ b → X
    by true is = same (grind (arith, nat_tests))
    by false is = other (λ e. grind (arith, nat_tests))

-- what is read at a place of a list
module _ (places : List SwitchValue) (v : SwitchValue) where
  -- a value that is found stands at a place
  pub here_there : (p n : ℕ) → found_from places v p n ≡ Here → (q : ℕ) × (slice_get places q ≡ Some v)
  here_there p zero e = absurd cc
  here_there p (suc n) e = by (slice_get places p) refl (here_there (suc p) n) e
    where
      by : (o : Option SwitchValue) → slice_get places p ≡ o →
          (found_from places v (suc p) n ≡ Here → (q : ℕ) × (slice_get places q ≡ Some v)) →
          found_at o v p (found_from places v (suc p) n) ≡ Here → (q : ℕ) × (slice_get places q ≡ Some v)
      by None is later f = absurd cc
      by (Some w) is later f = by_same (same_value w v) refl (is_default w) f
        where
          by_same : (b : Bool) → same_value w v ≡ b → (d : Bool) →
              (if b then Here else if d then Free p else found_from places v (suc p) n) ≡ Here →
              (q : ℕ) × (slice_get places q ≡ Some v)
          by_same true same d g = (p, is ∙ ap Some (same_is w v same))
          by_same false same true g = absurd cc
          by_same false same false g = later g

  -- a place that is found free has the default
  pub free_at : (p n q : ℕ) → found_from places v p n ≡ Free q → slice_get places q ≡ Some Default
  free_at p zero q e = absurd cc
  free_at p (suc n) q e = by (slice_get places p) refl (free_at (suc p) n q) e
    where
      by : (o : Option SwitchValue) → slice_get places p ≡ o →
          (found_from places v (suc p) n ≡ Free q → slice_get places q ≡ Some Default) →
          found_at o v p (found_from places v (suc p) n) ≡ Free q → slice_get places q ≡ Some Default
      by None is later f = absurd cc
      by (Some w) is later f = by_same (same_value w v) (is_default w) refl f
        where
          by_same : (b d : Bool) → is_default w ≡ d →
              (if b then Here else if d then Free p else found_from places v (suc p) n) ≡ Free q →
              slice_get places q ≡ Some Default
          by_same true d alike g = absurd cc
          by_same false true alike g =
              let same : p ≡ q = cc in
              subst (λ k. slice_get places k ≡ Some Default) same (is ∙ ap Some (default_is w alike))
          by_same false false alike g = later g

  -- a value that is put into the free place is found
  pub put_here : (q p n : ℕ) → found_from places v p n ≡ Free q → found_from (slice_set places q v) v p n ≡ Here
  put_here q p zero e = absurd cc
  put_here q p (suc n) e = place_is p q at_it (before (put_here q (suc p) n))
    where
      behind : Found
      behind = found_from (slice_set places q v) v (suc p) n

      at_it : p ≡ q → found_at (slice_get (slice_set places q v) p) v p behind ≡ Here
      at_it same =
          let read : slice_get (slice_set places q v) p ≡ Some v =
          ap (slice_get (slice_set places q v)) same ∙ set_here places q v Default (free_at p (suc n) q e) in
          ap (λ o. found_at o v p behind) read ∙ ap (λ b. if b then Here else if is_default v then Free p else behind) (same_self v)

      before : (found_from places v (suc p) n ≡ Free q → behind ≡ Here) → p ≢ q →
          found_at (slice_get (slice_set places q v) p) v p behind ≡ Here
      before later ne = ap (λ o. found_at o v p behind) (set_other places p q v ne) ∙ by (slice_get places p) e
        where
          by : (o : Option SwitchValue) → found_at o v p (found_from places v (suc p) n) ≡ Free q → found_at o v p behind ≡ Here
          by None f = absurd cc
          by (Some w) f = by_same (same_value w v) (is_default w) f
            where
              by_same : (b d : Bool) → (if b then Here else if d then Free p else found_from places v (suc p) n) ≡ Free q →
                  (if b then Here else if d then Free p else behind) ≡ Here
              by_same true d g = refl
              by_same false true g = absurd (let same : p ≡ q = cc in ne same)
              by_same false false g = later g

-- whether what was found stays so, whatever is put in: a value, or that no place near it is free
abbrev ends : Found → Bool
ends Here = true
ends (Free place) = false
ends Nowhere = true

-- what is written into a free place changes nothing for a value that was found, or that has no free place
module _ (places : List SwitchValue) (q : ℕ) (x : SwitchValue) (free : slice_get places q ≡ Some Default) (v : SwitchValue)
    (is : is_default v ≡ false) where
  still : (p n : ℕ) → ends (found_from places v p n) ≡ true → found_from (slice_set places q x) v p n ≡ found_from places v p n
  still p zero e = refl
  still p (suc n) e = place_is p q at_it (before (still (suc p) n))
    where
      old : Found
      old = found_from places v (suc p) n

      new : Found
      new = found_from (slice_set places q x) v (suc p) n

      at_it : p ≡ q → found_at (slice_get (slice_set places q x) p) v p new ≡ found_at (slice_get places p) v p old
      at_it same =
          let read : slice_get places p ≡ Some Default = ap (slice_get places) same ∙ free in
          let ended : ends (found_at (Some Default) v p old) ≡ true = sym (ap (λ o. ends (found_at o v p old)) read) ∙ e in
          let freed : ends (found_at (Some Default) v p old) ≡ false = ap (λ b. ends (if b then Here else Free p)) (not_default v is) in
          absurd (let no : false ≡ true = sym freed ∙ ended in cc)

      before : (ends old ≡ true → new ≡ old) → p ≢ q →
          found_at (slice_get (slice_set places q x) p) v p new ≡ found_at (slice_get places p) v p old
      before later ne = ap (λ o. found_at o v p new) (set_other places p q x ne) ∙ by (slice_get places p) e
        where
          by : (o : Option SwitchValue) → ends (found_at o v p old) ≡ true → found_at o v p new ≡ found_at o v p old
          by None f = refl
          by (Some w) f = by_same (same_value w v) (is_default w) f
            where
              by_same : (b d : Bool) → ends (if b then Here else if d then Free p else old) ≡ true →
                  (if b then Here else if d then Free p else new) ≡ (if b then Here else if d then Free p else old)
              by_same true d g = refl
              by_same false true g = refl
              by_same false false g = later g

-- a value is one of more values
module _ (v w : SwitchValue) (values : List SwitchValue) where
  split : list_any (same_value v) (values ++ w ∷ []) ≡ (list_any (same_value v) values || (same_value v w || false))
  split = list_any-append (same_value v) values (w ∷ [])

  among_more : IsAmong v values → IsAmong v (values ++ w ∷ [])
  among_more e = split ∙ ap (λ b. b || (same_value v w || false)) e

  among_last : same_value v w ≡ true → IsAmong v (values ++ w ∷ [])
  among_last e = split ∙ by (list_any (same_value v) values) (same_value v w) e
    where
      by : (b c : Bool) → c ≡ true → (b || (c || false)) ≡ true
      by true c f = refl
      by false true f = refl
      by false false f = absurd cc

  of_more : {X : Type 0} → IsAmong v (values ++ w ∷ []) → (IsAmong v values → X) → (v ≡ w → X) → X
  of_more {X = X} e earlier last = by (list_any (same_value v) values) refl (same_value v w) refl (sym split ∙ e)
    where
      by : (b : Bool) → list_any (same_value v) values ≡ b → (c : Bool) → same_value v w ≡ c → (b || (c || false)) ≡ true → X
      by true is c alike f = earlier is
      by false is true alike f = last (same_is v w alike)
      by false is false alike f = absurd cc

-- the values that are found near their places, but for the default
is_near : (set : ValueSet) (v : SwitchValue) → is_default v ≡ false →
    found set v ≡ found_near set v
is_near set v is = ap (λ b. if b then Nowhere else found_near set v) is

-- the same, as the code looks
pub looked : (set : ValueSet) (v : SwitchValue) (n start : ℕ) → is_default v ≡ false → n ≡ number_of v →
    start ≡ start_of set.bits set.mask n → found set v ≡ found_from set.places.items v start 8
looked set v n start is number at =
    is_near set v is
    ∙ ap (λ m. found_from set.places.items v (start_of set.bits set.mask m) 8) (sym number)
    ∙ ap (λ p. found_from set.places.items v p 8) (sym at)

-- one place, and then those behind it
pub one_place : (places : List SwitchValue) (v : SwitchValue) (start step : ℕ) → step < 8 →
    found_from places v (start + step) (8 - step)
    ≡ found_at (slice_get places (start + step)) v (start + step) (found_from places v (start + (step + 1)) (8 - (step + 1)))
one_place places v start step lt =
    let count : 8 - step ≡ suc (8 - (step + 1)) = omega arith in
    let next : suc (start + step) ≡ start + (step + 1) = omega arith in
    ap (found_from places v (start + step)) count
    ∙ ap (λ p. found_at (slice_get places (start + step)) v (start + step) (found_from places v p (8 - (step + 1)))) next

-- where something was found, the value is not the default
no_default : (set : ValueSet) (v : SwitchValue) (r : Found) → found set v ≡ r → r ≢ Nowhere → is_default v ≡ false
no_default set v r e ne = by (is_default v) refl e
  where
    by : (b : Bool) → is_default v ≡ b →
        (if b then Nowhere else found_near set v) ≡ r → is_default v ≡ false
    by false is f = is
    by true is f = absurd (ne (sym f))

-- a free place that was found has the default
pub was_free : (set : ValueSet) (v : SwitchValue) (q : ℕ) → found set v ≡ Free q → slice_get set.places.items q ≡ Some Default
was_free set v q e =
    let near = sym (is_near set v (no_default set v (Free q) e (λ f. cc))) ∙ e in
    free_at set.places.items v (start_of set.bits set.mask (number_of v)) 8 q near

module _ (set : ValueSet) (values : List SwitchValue) (has : HasValues set values) (v : SwitchValue) where
  -- a value that is found is one of those before it
  pub known : found set v ≡ Here → list_any (same_value v) values ≡ true
  known e =
      let no = no_default set v Here e (λ f. cc) in
      let there = here_there set.places.items v (start_of set.bits set.mask (number_of v)) 8 (sym (is_near set v no) ∙ e) in
      has.placed there.0 v there.1 no

  -- put into its free place, the value is one of the set's
  module _ (new : ValueSet) (q : ℕ) (free : found set v ≡ Free q) (at : new.places.items ≡ slice_set set.places.items q v)
      (bits : new.bits ≡ set.bits) (mask : new.mask ≡ set.mask) (others : new.others ≡ set.others) where
    no : is_default v ≡ false
    no = no_default set v (Free q) free (λ f. cc)

    abbrev start : SwitchValue → ℕ
    start w = start_of set.bits set.mask (number_of w)

    near : found_near set v ≡ Free q
    near = sym (is_near set v no) ∙ free

    was : slice_get set.places.items q ≡ Some Default
    was = was_free set v q free

    found_now : (w : SwitchValue) → is_default w ≡ false →
        found new w ≡ found_from (slice_set set.places.items q v) w (start w) 8
    found_now w is =
        is_near new w is
        ∙ (λ i. found_from (at i) w (start_of (bits i) (mask i) (number_of w)) 8)

    kept_now : (w : SwitchValue) → IsKept set w → IsKept new w
    kept_now w kept = by (is_default w) refl
      where
        by : (b : Bool) → is_default w ≡ b → IsKept new w
        by true is =
            let one : found new w ≡ Nowhere = ap (λ b. if b then Nowhere else found_near new w) is in
            let two : found set w ≡ Nowhere = ap (λ b. if b then Nowhere else found_near set w) is in
            (λ i. kept_as ((one ∙ sym two) i) (contains (value_order.ghosts).cmp (others i) w)) ∙ kept
        by false is =
            let r = found_from set.places.items w (start w) 8 in
            let old = is_near set w is in
            let ended = kept_ends r (contains (value_order.ghosts).cmp set.others w) (sym (ap (λ k. kept_as k (contains (value_order.ghosts).cmp set.others w)) old) ∙ kept) in
            let one : found new w ≡ r = found_now w is ∙ still set.places.items q v was w is (start w) 8 ended in
            (λ i. kept_as ((one ∙ sym old) i) (contains (value_order.ghosts).cmp (others i) w)) ∙ kept
          where
            kept_ends : (r : Found) (b : Bool) → kept_as r b ≡ true → ends r ≡ true
            kept_ends Here b e = refl
            kept_ends (Free p) b e = absurd cc
            kept_ends Nowhere b e = refl

    pub placed_more : HasValues new (values ++ v ∷ [])
    placed_more = record {
      placed = λ p w read is. place_is p q
          (λ same. among_last w v values (subst (λ u. same_value w u ≡ true)
          (let one : Some w ≡ Some v = sym read ∙ ap (λ l. slice_get l p) at ∙ ap (slice_get (slice_set set.places.items q v)) same ∙ set_here set.places.items q v Default was in cc)
          (same_self w)))
          (λ ne. among_more w v values (has.placed p w (sym (set_other set.places.items p q v ne) ∙ sym (ap (λ l. slice_get l p) at) ∙ read) is));
      others = λ w among. among_more w v values (has.others w (sym (ap (λ s. contains (value_order.ghosts).cmp s w) others) ∙ among));
      all = λ w among. of_more w v values among
          (λ earlier. kept_now w (has.all w earlier))
          (λ same. subst (IsKept new) (sym same)
          (ap (λ r. kept_as r (contains (value_order.ghosts).cmp new.others v))
          (found_now v no ∙ put_here set.places.items v q (start v) 8 near)));
    }

  -- and so it is where it is put among the others
  module _ (new : ValueSet) (nowhere : found set v ≡ Nowhere) (at : new.places ≡ set.places)
      (bits : new.bits ≡ set.bits) (mask : new.mask ≡ set.mask)
      (others : (w : SwitchValue) → contains (value_order.ghosts).cmp new.others w
      ≡ cond (is_eq ((value_order.ghosts).cmp v w)) true (contains (value_order.ghosts).cmp set.others w)) where
    same_found : (w : SwitchValue) → found new w ≡ found set w
    same_found w = λ i. if is_default w then Nowhere else found_from (at i).items w (start_of (bits i) (mask i) (number_of w)) 8

    more : (w : SwitchValue) → contains (value_order.ghosts).cmp set.others w ≡ true → contains (value_order.ghosts).cmp new.others w ≡ true
    more w e = others w ∙ by (is_eq ((value_order.ghosts).cmp v w)) (contains (value_order.ghosts).cmp set.others w) e
      where
        by : (b c : Bool) → c ≡ true → cond b true c ≡ true
        by true c f = refl
        by false c f = f

    still_kept : (w : SwitchValue) → IsKept set w → IsKept new w
    still_kept w kept = by (found set w) refl kept
      where
        by : (r : Found) → found set w ≡ r → kept_as r (contains (value_order.ghosts).cmp set.others w) ≡ true → IsKept new w
        by Here is e = ap (λ k. kept_as k (contains (value_order.ghosts).cmp new.others w)) (same_found w ∙ is)
        by (Free p) is e = absurd cc
        by Nowhere is e = ap (λ k. kept_as k (contains (value_order.ghosts).cmp new.others w)) (same_found w ∙ is) ∙ more w e

    pub others_more : HasValues new (values ++ v ∷ [])
    others_more = record {
      placed = λ p w read is. among_more w v values (has.placed p w (sym (ap (λ s. slice_get s.items p) at) ∙ read) is);
      others = λ w among. other w (is_eq ((value_order.ghosts).cmp v w)) refl (sym (others w) ∙ among);
      all = λ w among. of_more w v values among
          (λ earlier. still_kept w (has.all w earlier))
          (λ same. subst (IsKept new) (sym same)
          (ap (λ r. kept_as r (contains (value_order.ghosts).cmp new.others v)) (same_found v ∙ nowhere)
          ∙ others v ∙ ap (λ b. cond b true (contains (value_order.ghosts).cmp set.others v)) (same_by_order v v ∙ same_self v)));
    }
      where
        other : (w : SwitchValue) (b : Bool) → is_eq ((value_order.ghosts).cmp v w) ≡ b →
            cond b true (contains (value_order.ghosts).cmp set.others w) ≡ true → IsAmong w (values ++ v ∷ [])
        other w true is e =
            let same : v ≡ w = same_is v w (sym (same_by_order v w) ∙ is) in
            among_last w v values (subst (λ u. same_value w u ≡ true) (sym same) (same_self w))
        other w false is e = among_more w v values (has.others w e)
