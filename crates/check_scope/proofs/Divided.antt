-- The body list of a Loop, whose puts behind its first Continue have a number of their own.
use Rattle.std.proofs.Common.{◌≡◌, ℕ, ◌≤◌, ◌==◌, Bool, true, false, Option, Some, None, List, ◌++◌, refl, subst, sym, ap, ◌∙◌, arith}
use Rattle.std.proofs.lemmas.Bool.Decides.{nat_tests}
use Rattle.std.specs.Prelude.{◌≢◌, IfSome, if◌then◌else◌}
use Rattle.check_scope.specs.declared.table.ScopeColumn.{ScopeColumn}
use Rattle.check_scope.specs.declared.table.ScopeState.{ScopeState}
use Rattle.check_scope.specs.declared.table.ScopeState.TheVariants.{Closed, Open, Skipped}
use Rattle.check_scope.specs.walk.Table.{Shown, is_open, put_open, shown, known, known_in, count, unless_by, closing, closing_if, left, skipped, with_all, scopes, HasPut, HasEntered, HasLooped, IsLast}
use Rattle.check_scope.proofs.Columns.{all-append, both_put}
use Rattle.check_scope.proofs.Operands.{closed_not_open, still_open, skipped_not_open}

-- closing two scopes is the same in both orders
commute : (i j : ℕ) (o : Option ℕ) → unless_by i (unless_by j o) ≡ unless_by j (unless_by i o)
commute i j None = refl
commute i j (Some n) = step (n == i) (n == j) refl refl
  where
    step : (a b : Bool) → (n == i) ≡ a → (n == j) ≡ b → unless_by i (if n == j then None else Some n) ≡ unless_by j (if n == i then None else Some n)
    step true true p q = ap (λ b. unless_by i (if b then None else Some n)) q ∙ sym (ap (λ a. unless_by j (if a then None else Some n)) p)
    step true false p q =
        ap (λ b. unless_by i (if b then None else Some n)) q ∙ ap (λ a. if a then None else Some n) p ∙ sym (ap (λ a. unless_by j (if a then None else Some n)) p)
    step false true p q =
        ap (λ b. unless_by i (if b then None else Some n)) q ∙ sym (ap (λ a. unless_by j (if a then None else Some n)) p ∙ ap (λ b. if b then None else Some n) q)
    step false false p q =
        ap (λ b. unless_by i (if b then None else Some n)) q ∙ ap (λ a. if a then None else Some n) p ∙ sym (ap (λ a. unless_by j (if a then None else Some n)) p ∙ ap (λ b. if b then None else Some n) q)

-- a state where both are closed
both_closed : (a b : Bool) (s : ScopeState) → (if a then Closed else (if b then Closed else (if a then Skipped else s))) ≡ (if b then Closed else (if a then Closed else s))
both_closed true true s = refl
both_closed true false s = refl
both_closed false true s = refl
both_closed false false s = refl

-- a skipped scope that is closed once its list is left is closed as if it had been left at once
pub skips_close : (s : Shown) (home outer : ℕ) → closing s.innermost (left (skipped s home) outer) ≡ left (left s home) outer
skips_close s home outer i =
    record {
      put_by = λ h. commute s.innermost home (s.put_by h) i;
      state = λ n. both_closed (n == s.innermost) (n == home) (s.state n) i;
      innermost = outer;
    }

-- what a skipped scope put may be used as if it had been left
skipped_must : (s : Shown) (home : ℕ) (o : Option ℕ) → put_open (skipped s home).state o ≡ put_open (left s home).state (unless_by s.innermost o)
skipped_must s home None = refl
skipped_must s home (Some n) = step (n == s.innermost) refl
  where
    step : (b : Bool) → (n == s.innermost) ≡ b → is_open (if n == s.innermost then Skipped else s.state n) ≡ put_open (left s home).state (if n == s.innermost then None else Some n)
    step true e =
        ap (λ b. is_open (if b then Skipped else s.state n)) e ∙ sym (ap (λ b. put_open (left s home).state (if b then None else Some n)) e)
    step false e =
        ap (λ b. is_open (if b then Skipped else s.state n)) e
        ∙ sym (ap (λ b. put_open (left s home).state (if b then None else Some n)) e ∙ ap (λ b. is_open (if b then Closed else s.state n)) e)

-- of a body list so much was put before its first Continue, and, behind it, so much with a number of its own
pub record Divided (before after : ScopeColumn) (home : ℕ) (first later : List ℕ) : Type 0 where
  pub at : ScopeColumn
  pub split : ScopeColumn
  pub first_put : HasPut before at first
  pub entered : left (shown split) home ≡ shown at
  pub same : known split ≡ known at
  pub opened : (shown at).state home ≡ Open
  pub last : IsLast (shown at)
  pub enters : HasEntered at split
  pub later_put : HasPut split after later
  pub as_many : count split ≡ count at

module _ {before after : ScopeColumn} {home : ℕ} {first later : List ℕ} (d : Divided before after home first later) where
  -- the second number may be left for the first
  pub may_skip : (left (shown after) home).state home ≡ Open
  may_skip =
      ap (λ (f : ℕ → Shown). (f home).state home) d.later_put.outside ∙ ap (λ (s : Shown). s.state home) d.entered ∙ d.opened

  back : left (shown after) home ≡ shown d.at
  back = ap (λ (f : ℕ → Shown). f home) d.later_put.outside ∙ d.entered

  -- and then the later puts stay in scope, and may no longer be used
  pub looped : (end : ScopeColumn) (number : ℕ) → shown end ≡ skipped (shown after) home → number ≡ (shown after).innermost → count end ≡ count after → scopes after ≤ scopes end → HasLooped before end (Some number) first (first ++ later)
  unfolding known
  looped end number is by n taken =
      let scope =
      ap (λ (s : Shown). (known_in s).scope) is
      ∙ ap (λ s. s.scope) d.later_put.inside
      ∙ ap (λ s. with_all s.scope later) (d.same ∙ d.first_put.inside)
      ∙ sym (all-append first later (known before).scope)
      in
      let must =
      ap (λ (s : Shown). (known_in s).must) is
      ∙ (λ i h. skipped_must (shown after) home ((shown after).put_by h) i)
      ∙ ap (λ (s : Shown). (known_in s).must) back
      ∙ ap (λ s. s.must) d.first_put.inside
      in
      record {
        inside = λ i. record { scope = scope i; must = must i };
        outside = λ outer.
            (λ i. closing (by i) (left (is i) outer))
            ∙ skips_close (shown after) home outer
            ∙ ap (λ s. left s outer) back
            ∙ ap (λ (f : ℕ → Shown). f outer) d.first_put.outside;
        apart = apart;
        as_many = n ∙ d.later_put.as_many ∙ d.as_many ∙ d.first_put.as_many;
        taken = all_taken;
      }
    where
      apart : (outer : ℕ) → (left (shown end) outer).state number ≢ Open
      apart outer e =
          let kept = still_open Closed closed_not_open (shown end).innermost number ((shown end).state number) e in
          let same : (number == (shown after).innermost) ≡ true = grind (arith, nat_tests) in
          skipped_not_open (sym (ap (λ b. if b then Skipped else (shown after).state number) same) ∙ sym (ap (λ (s : Shown). s.state number) is) ∙ kept.1)

      all_taken : scopes before ≤ scopes end
      all_taken =
          let first = d.first_put.taken in
          let entered = d.enters.taken in
          let later = d.later_put.taken in
          omega (arith, first, entered, later, taken)

  -- the scope that the second number was left for is then the last that is open
  pub last_skipped : (end : ScopeColumn) → shown end ≡ skipped (shown after) home → IsLast (shown end)
  last_skipped end is n e =
      let at = sym (ap (λ (s : Shown). s.state n) is) ∙ e in
      let kept = still_open Skipped skipped_not_open (shown after).innermost n ((shown after).state n) at in
      let was : (shown d.at).state n ≡ Open =
      sym (ap (λ (s : Shown). s.state n) back)
      ∙ ap (λ b. if b then Closed else (shown after).state n) kept.0
      ∙ kept.1
      in
      let le : n ≤ (shown d.at).innermost = d.last n was in
      subst (λ k. n ≤ k) (sym (ap (λ (s : Shown). s.innermost) back) ∙ sym (ap (λ (s : Shown). s.innermost) is)) le

  -- more of the list
  pub divided_more : {next : ScopeColumn} {xs : List ℕ} → HasPut after next xs → Divided before next home first (later ++ xs)
  divided_more put =
      record {
        at = d.at;
        split = d.split;
        first_put = d.first_put;
        entered = d.entered;
        same = d.same;
        opened = d.opened;
        last = d.last;
        enters = d.enters;
        later_put = both_put d.later_put put;
        as_many = d.as_many;
      }

-- a body list without a Continue
pub looped_whole : {before after : ScopeColumn} {xs : List ℕ} → HasPut before after xs → HasLooped before after None xs xs
looped_whole {before} {after} put =
    record {
      inside = put.inside;
      outside = λ outer. ap (λ (f : ℕ → Shown). f outer) put.outside;
      apart = λ outer. tt;
      as_many = put.as_many;
      taken = put.taken;
    }

-- a Loop is left behind its continuing list
module _ (before entered body after : ScopeColumn) (outer : ℕ) (skipped : Option ℕ) {sure all ys : List ℕ} (shows : left (shown entered) outer ≡ shown before) (loops : HasLooped entered body skipped sure all) (put : HasPut body after ys) where
  pub loop_left : closing_if skipped (left (shown after) outer) ≡ shown before
  loop_left = ap (λ (f : ℕ → Shown). closing_if skipped (f outer)) put.outside ∙ loops.outside outer ∙ shows

  pub apart_still : IfSome skipped (λ n. (left (shown after) outer).state n ≢ Open)
  apart_still = subst (λ (s : Shown). IfSome skipped (λ n. s.state n ≢ Open)) (sym (ap (λ (f : ℕ → Shown). f outer) put.outside)) (loops.apart outer)

  pub may_leave_loop : (shown before).state outer ≡ Open → (closing_if skipped (left (shown after) outer)).state outer ≡ Open
  may_leave_loop opened = ap (λ (s : Shown). s.state outer) loop_left ∙ opened
