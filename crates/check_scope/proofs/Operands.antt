-- What is kept of the operands of expressions, as these are put and scopes are entered and left.
use Rattle.std.proofs.Common.{◌≡◌, ℕ, zero, suc, ◌+◌, ◌<◌, ◌≤◌, ◌==◌, nat_lt, Bool, true, false, Option, Some, None, List, [], ◌∷◌, length, get_or, is_some, refl, subst, sym, ap, ◌∙◌, arith}
use Rattle.std.proofs.lemmas.Bool.Decides.{nat_tests}
use Rattle.std.specs.Prelude.{◌≢◌, IfSome, map, if◌then◌else◌}
use Rattle.ir_arena.proofs.Points.{first_holds}
use Rattle.ir_arena.specs.Points.{first_fault}
use Rattle.ir_errors.specs.declared.expression.ExpressionError.TheVariants.{NotInScope}
use Rattle.ir_errors.specs.declared.function.FunctionError.TheVariants.{Expression}
use Rattle.naga_runs.specs.Handles.{Handles, with_handle}
use Rattle.naga_runs.specs.Visits.{VisitPlace}
use Rattle.check_scope.specs.ScopePoints.{may_use, use_point}
use Rattle.check_scope.specs.declared.table.OperandColumn.{OperandColumn}
use Rattle.check_scope.specs.declared.table.ScopeColumn.{ScopeColumn}
use Rattle.check_scope.specs.declared.table.ScopeState.{ScopeState}
use Rattle.check_scope.specs.declared.table.ScopeState.TheVariants.{Closed, Open, Skipped}
use Rattle.check_scope.specs.walk.Place.{place_at}
use Rattle.check_scope.specs.walk.ScopeNumbers.{number_at, state_at}
use Rattle.check_scope.specs.walk.Table.{Shown, is_open, put_open, where_kept, shown, known, unless_by, closing, closing_if, left, skipped, with_all, scopes, kept_at, HasPut, HasEntered, IsLast, IsPutUpTo, ArePutUpTo, KnowsOperands}
use Rattle.check_scope.proofs.Columns.{must_is}

-- a scope that stays open is not the one whose state is changed
pub still_open : (changed : ScopeState) → changed ≢ Open → (i n : ℕ) (s : ScopeState) → (if n == i then changed else s) ≡ Open → ((n == i) ≡ false) × (s ≡ Open)
still_open changed unlike i n s e = step (n == i) refl
  where
    step : (b : Bool) → (n == i) ≡ b → ((n == i) ≡ false) × (s ≡ Open)
    step true q = absurd (unlike (sym (ap (λ b. if b then changed else s) q) ∙ e))
    step false q = (q, sym (ap (λ b. if b then changed else s) q) ∙ e)

pub closed_not_open : Closed ≢ Open
closed_not_open e = cc

pub skipped_not_open : Skipped ≢ Open
skipped_not_open e = cc

-- what is put where nothing that one scope put counts is put
unless_some : (i n : ℕ) (o : Option ℕ) → unless_by i o ≡ Some n → o ≡ Some n
unless_some i n None e = e
unless_some i n (Some m) e = step (m == i) refl
  where
    none_is_none : None ≡ Some n → Some m ≡ Some n
    none_is_none e = cc

    step : (b : Bool) → (m == i) ≡ b → Some m ≡ Some n
    step true q = none_is_none (sym (ap (λ b. if b then None else Some m) q) ∙ e)
    step false q = sym (ap (λ b. if b then None else Some m) q) ∙ e

-- and if it is none of that, that scope put it
by_that : (i : ℕ) (o : Option ℕ) → is_some o ≡ true → unless_by i o ≡ None → o ≡ Some i
by_that i None there none = cc
by_that i (Some n) there none = step (n == i) refl
  where
    some_is_none : Some n ≡ None → Some n ≡ Some i
    some_is_none e = cc

    step : (b : Bool) → (n == i) ≡ b → Some n ≡ Some i
    step true q = let same : n ≡ i = grind (arith, nat_tests) in ap Some same
    step false q = some_is_none (sym (ap (λ b. if b then None else Some n) q) ∙ none)

-- an innermost scope is open
open_inside : (t : ScopeColumn) → (shown t).state (shown t).innermost ≡ Open
unfolding shown
open_inside t = t.sound.innermost

-- no scope has the number 0
no_scope : (t : ScopeColumn) → (shown t).state 0 ≡ Closed
unfolding shown
no_scope t = t.sound.nothing

-- a function begins: nothing is kept
pub begun_operands : {operands : ℕ → List ℕ} {t : OperandColumn} {scope : ScopeColumn} → ((h : ℕ) → kept_at t h ≡ 0) → 0 < scopes scope → IsLast (shown scope) → KnowsOperands operands t scope
begun_operands {operands} {t} {scope} none some last =
    record {
      last = last;
      numbered = λ h. let nothing = none h in omega (arith, nothing, some);
      usable = λ h e. absurd (closed_not_open (sym (no_scope scope) ∙ ap (shown scope).state (sym (none h)) ∙ e));
    }

-- a number is kept, or nothing more
module _ {operands : ℕ → List ℕ} {t : OperandColumn} {scope : ScopeColumn} (k : KnowsOperands operands t scope) (u : OperandColumn) where
  pub same_operands : ((h : ℕ) → kept_at u h ≡ kept_at t h) → KnowsOperands operands u scope
  same_operands is =
      record {
        last = k.last;
        numbered = λ h. subst (λ n. n < scopes scope) (sym (is h)) (k.numbered h);
        usable = λ h e. subst (λ n. ArePutUpTo (shown scope) n (operands h)) (sym (is h)) (k.usable h (ap (shown scope).state (sym (is h)) ∙ e));
      }

  pub kept_operands : (h number : ℕ) → number < scopes scope → ArePutUpTo (shown scope) number (operands h) → ((j : ℕ) → kept_at u j ≡ (if j == h then number else kept_at t j)) → KnowsOperands operands u scope
  kept_operands h number lt put is =
      record {
        last = k.last;
        numbered = λ j. numbered j (j == h) refl;
        usable = λ j. usable j (j == h) refl;
      }
    where
      at : (j : ℕ) (b : Bool) → (j == h) ≡ b → kept_at u j ≡ (if b then number else kept_at t j)
      at j b q = is j ∙ ap (λ c. if c then number else kept_at t j) q

      numbered : (j : ℕ) (b : Bool) → (j == h) ≡ b → kept_at u j < scopes scope
      numbered j true q = subst (λ n. n < scopes scope) (sym (at j true q)) lt
      numbered j false q = subst (λ n. n < scopes scope) (sym (at j false q)) (k.numbered j)

      usable : (j : ℕ) (b : Bool) → (j == h) ≡ b → (shown scope).state (kept_at u j) ≡ Open → ArePutUpTo (shown scope) (kept_at u j) (operands j)
      usable j true q e =
          let same : h ≡ j = grind (arith, nat_tests) in
          subst (λ n. ArePutUpTo (shown scope) n (operands j)) (sym (at j true q)) (subst (λ i. ArePutUpTo (shown scope) number (operands i)) same put)
      usable j false q e =
          subst (λ n. ArePutUpTo (shown scope) n (operands j)) (sym (at j false q)) (k.usable j (ap (shown scope).state (sym (at j false q)) ∙ e))

-- the innermost scope puts expressions
module _ {a b : ScopeColumn} {xs : List ℕ} (p : HasPut a b xs) where
  same_state : (n : ℕ) → (shown b).state n ≡ (shown a).state n
  same_state n = step (n == (shown a).innermost) refl
    where
      step : (c : Bool) → (n == (shown a).innermost) ≡ c → (shown b).state n ≡ (shown a).state n
      step true q =
          let same : n ≡ (shown a).innermost = grind (arith, nat_tests) in
          ap (shown b).state (same ∙ sym p.inner) ∙ open_inside b ∙ sym (ap (shown a).state same ∙ open_inside a)
      step false q =
          sym (ap (λ c. if c then Closed else (shown b).state n) (ap (λ i. n == i) p.inner ∙ q))
          ∙ ap (λ (f : ℕ → Shown). (f 0).state n) p.outside
          ∙ ap (λ c. if c then Closed else (shown a).state n) q

  stays_in : (ys : List ℕ) (s : Handles) (h : ℕ) → s h ≡ true → with_all s ys h ≡ true
  stays_in [] s h e = e
  stays_in (y ∷ ys) s h e = stays_in ys (with_handle s y) h (step (y == h) refl)
    where
      step : (c : Bool) → (y == h) ≡ c → with_handle s y h ≡ true
      step true q = ap (λ c. if c then true else s h) q
      step false q = ap (λ c. if c then true else s h) q ∙ e

  there : (h n : ℕ) → (shown a).put_by h ≡ Some n → is_some ((shown b).put_by h) ≡ true
  unfolding known
  there h n is = ap (λ s. s.scope h) p.inside ∙ stays_in xs (known a).scope h (ap is_some is)

  same_put : (h n : ℕ) → (shown a).put_by h ≡ Some n → (shown b).put_by h ≡ Some n
  same_put h n is = step (n == (shown a).innermost) refl
    where
      outside : (c : Bool) → (n == (shown a).innermost) ≡ c → unless_by (shown b).innermost ((shown b).put_by h) ≡ (if c then None else Some n)
      outside c q =
          ap (λ (f : ℕ → Shown). (f 0).put_by h) p.outside
          ∙ ap (unless_by (shown a).innermost) is
          ∙ ap (λ d. if d then None else Some n) q

      step : (c : Bool) → (n == (shown a).innermost) ≡ c → (shown b).put_by h ≡ Some n
      step true q =
          let same : (shown a).innermost ≡ n = grind (arith, nat_tests) in
          by_that (shown b).innermost ((shown b).put_by h) (there h n is) (outside true q) ∙ ap Some (p.inner ∙ same)
      step false q = unless_some (shown b).innermost n ((shown b).put_by h) (outside false q)

  pub put_operands : {operands : ℕ → List ℕ} {t : OperandColumn} → KnowsOperands operands t a → KnowsOperands operands t b
  put_operands {operands} {t} k =
      record {
        last = λ n e. subst (λ i. n ≤ i) (sym p.inner) (k.last n (sym (same_state n) ∙ e));
        numbered = λ h. let before = k.numbered h in let more = p.taken in omega (arith, before, more);
        usable = λ h e j lt.
            let q = k.usable h (sym (same_state (kept_at t h)) ∙ e) j lt in
            (q.0, same_put (get_or (operands h) j 0) q.0 q.1, same_state q.0 ∙ q.2, q.3);
      }

-- where one scope is closed, what others put stays
closing_keeps : (s : Shown) (i m h : ℕ) → ((n : ℕ) → n ≤ m → s.state n ≡ Open → (n == i) ≡ false) → IsPutUpTo s m h → IsPutUpTo (closing i s) m h
closing_keeps s i m h other q =
    let apart = other q.0 q.3 q.2 in (
      q.0,
      ap (unless_by i) q.1 ∙ ap (λ b. if b then None else Some q.0) apart,
      ap (λ b. if b then Closed else s.state q.0) apart ∙ q.2,
      q.3,
    )

module _ {operands : ℕ → List ℕ} {t : OperandColumn} {now : ScopeColumn} (k : KnowsOperands operands t now) where
  more_taken : (new : ScopeColumn) → scopes now ≤ scopes new → (h : ℕ) → kept_at t h < scopes new
  more_taken new more h = let before = k.numbered h in omega (arith, before, more)

  -- a scope is entered
  pub entered_operands : {new : ScopeColumn} (outer : ℕ) → left (shown new) outer ≡ shown now → HasEntered now new → KnowsOperands operands t new
  entered_operands {new} outer shows entered =
      record { last = entered.last; numbered = more_taken new entered.taken; usable = usable }
    where
      apart : (n h : ℕ) → n ≤ kept_at t h → (n == (shown new).innermost) ≡ false
      apart n h le =
          let below = k.numbered h in
          let number = entered.number in
          let less : n < (shown new).innermost = omega (arith, below, number, le) in
          grind (arith, nat_tests)

      before : (n h : ℕ) → n ≤ kept_at t h → (shown new).state n ≡ (shown now).state n
      before n h le =
          sym (ap (λ b. if b then Closed else (shown new).state n) (apart n h le)) ∙ ap (λ (s : Shown). s.state n) shows

      usable : (h : ℕ) → (shown new).state (kept_at t h) ≡ Open → ArePutUpTo (shown new) (kept_at t h) (operands h)
      usable h e j lt =
          let q = k.usable h (sym (before (kept_at t h) h (omega arith)) ∙ e) j lt in (
            q.0,
            unless_some (shown new).innermost q.0 ((shown new).put_by (get_or (operands h) j 0)) (ap (λ (s : Shown). s.put_by (get_or (operands h) j 0)) shows ∙ q.1),
            before q.0 h q.3 ∙ q.2,
            q.3,
          )

  -- a number up to that of an open scope but the innermost is not that of the innermost
  apart : (m n : ℕ) → (m == (shown now).innermost) ≡ false → (shown now).state m ≡ Open → n ≤ m → (n == (shown now).innermost) ≡ false
  apart m n other is le =
      let last : m ≤ (shown now).innermost = k.last m is in
      let below : n < (shown now).innermost = grind (arith, nat_tests) in
      grind (arith, nat_tests)

  -- the innermost scope is skipped
  pub skipped_operands : {new : ScopeColumn} (home : ℕ) → shown new ≡ skipped (shown now) home → scopes now ≤ scopes new → IsLast (shown new) → KnowsOperands operands t new
  skipped_operands {new} home shows more last =
      record {
        last = last;
        numbered = more_taken new more;
        usable = λ h e j lt.
            subst (λ s. IsPutUpTo s (kept_at t h) (get_or (operands h) j 0)) (sym shows) (usable h (sym (ap (λ (s : Shown). s.state (kept_at t h)) shows) ∙ e) j lt);
      }
    where
      usable : (h : ℕ) → (skipped (shown now) home).state (kept_at t h) ≡ Open → ArePutUpTo (skipped (shown now) home) (kept_at t h) (operands h)
      usable h e j lt =
          let is = still_open Skipped skipped_not_open (shown now).innermost (kept_at t h) ((shown now).state (kept_at t h)) e in
          let q = k.usable h is.1 j lt in
          (q.0, q.1, ap (λ b. if b then Skipped else (shown now).state q.0) (apart (kept_at t h) q.0 is.0 is.1 q.3) ∙ q.2, q.3)

  -- the innermost scope is left, and with it one that is not open
  module _ (outer : ℕ) where
    left_usable : (h : ℕ) → (left (shown now) outer).state (kept_at t h) ≡ Open → ArePutUpTo (left (shown now) outer) (kept_at t h) (operands h)
    left_usable h e j lt =
        let is = still_open Closed closed_not_open (shown now).innermost (kept_at t h) ((shown now).state (kept_at t h)) e in
        closing_keeps (shown now) (shown now).innermost (kept_at t h) (get_or (operands h) j 0) (λ n le at. apart (kept_at t h) n is.0 is.1 le) (k.usable h is.1 j lt)

    closed_usable : (second : Option ℕ) → IfSome second (λ n. (left (shown now) outer).state n ≢ Open) → (h : ℕ) → (closing_if second (left (shown now) outer)).state (kept_at t h) ≡ Open → ArePutUpTo (closing_if second (left (shown now) outer)) (kept_at t h) (operands h)
    closed_usable None unlike h e j lt = left_usable h e j lt
    closed_usable (Some i) unlike h e j lt =
        let is = still_open Closed closed_not_open i (kept_at t h) ((left (shown now) outer).state (kept_at t h)) e in
        closing_keeps (left (shown now) outer) i (kept_at t h) (get_or (operands h) j 0) (λ n le at. other n at (n == i) refl) (left_usable h is.1 j lt)
      where
        other : (n : ℕ) → (left (shown now) outer).state n ≡ Open → (b : Bool) → (n == i) ≡ b → (n == i) ≡ false
        other n at true q =
            let same : i ≡ n = grind (arith, nat_tests) in absurd (unlike (ap (left (shown now) outer).state same ∙ at))
        other n at false q = q

    pub left_operands : {new : ScopeColumn} (second : Option ℕ) → shown new ≡ closing_if second (left (shown now) outer) → IfSome second (λ n. (left (shown now) outer).state n ≢ Open) → scopes now ≤ scopes new → IsLast (shown new) → KnowsOperands operands t new
    left_operands {new} second shows unlike more last =
        record {
          last = last;
          numbered = more_taken new more;
          usable = λ h e j lt.
              subst (λ s. IsPutUpTo s (kept_at t h) (get_or (operands h) j 0)) (sym shows) (closed_usable second unlike h (sym (ap (λ (s : Shown). s.state (kept_at t h)) shows) ∙ e) j lt);
        }

-- what may be used was put by an open scope
pub usable_at : (t : ScopeColumn) (h last : ℕ) → (known t).must h ≡ true → number_at t.numbers.items h ≤ last → IsPutUpTo (shown t) last h
unfolding known shown
usable_at t h last is le = go (state_at t.states.items n) refl
  where
    n : ℕ
    n = number_at t.numbers.items h

    open_there : is_open (state_at t.states.items n) ≡ true
    open_there = sym (must_is (state_at t.states.items) n) ∙ is

    go : (s : ScopeState) → state_at t.states.items n ≡ s → IsPutUpTo (shown t) last h
    go Closed e = let never : false ≡ true = sym (ap is_open e) ∙ open_there in cc
    go Open e = (n, ap (λ s. where_kept s n) e, e, le)
    go Skipped e = let never : false ≡ true = sym (ap is_open e) ∙ open_there in cc

-- one expression more of a list
pub more_put : (t : ScopeColumn) (xs : List ℕ) (i before last : ℕ) → i < length xs → before ≤ last → number_at t.numbers.items (get_or xs i 0) ≤ last → (known t).must (get_or xs i 0) ≡ true → ((k : ℕ) → k < i → IsPutUpTo (shown t) before (get_or xs k 0)) → (k : ℕ) → k < i + 1 → IsPutUpTo (shown t) last (get_or xs k 0)
more_put t xs i before last lt le number may put k less = step (nat_lt k i) refl
  where
    step : (b : Bool) → nat_lt k i ≡ b → IsPutUpTo (shown t) last (get_or xs k 0)
    step true e =
        let earlier : k < i = grind (arith, nat_tests) in
        let q = put k earlier in
        let up_to = q.3 in
        (q.0, q.1, q.2, omega (arith, up_to, le))
    step false e =
        let past : i ≤ k = grind (arith, nat_tests) in
        let same : i ≡ k = omega (arith, past, less) in
        subst (λ j. IsPutUpTo (shown t) last (get_or xs j 0)) same (usable_at t (get_or xs i 0) last may number)

-- and the other way round: a list of which open scopes put each may be used
module _ (t : ScopeColumn) (last : ℕ) where
  used : (h : ℕ) → IsPutUpTo (shown t) last h → (known t).must h ≡ true
  unfolding known
  used h q = ap (put_open (shown t).state) q.1 ∙ ap is_open q.2

  pub all_usable : (xs : List ℕ) → ArePutUpTo (shown t) last xs → first_fault (map (use_point (place_at (known t))) xs) ≡ None
  all_usable [] put = refl
  all_usable (x ∷ xs) put =
      ap (λ b. first_fault ((b, Expression x NotInScope) ∷ map (use_point (place_at (known t))) xs)) (used x (put 0 (omega arith)))
      ∙ all_usable xs (λ k lt. put (suc k) (omega arith))

pub each_usable : (place : VisitPlace) (xs : List ℕ) → first_fault (map (use_point place) xs) ≡ None → (k : ℕ) → k < length xs → may_use place (get_or xs k 0) ≡ true
each_usable place [] e k lt = absurd (omega arith)
each_usable place (x ∷ xs) e zero lt =
    (first_holds (may_use place x) (Expression x NotInScope) (map (use_point place) xs) e).0
each_usable place (x ∷ xs) e (suc k) lt =
    each_usable place xs (first_holds (may_use place x) (Expression x NotInScope) (map (use_point place) xs) e).1 k (omega arith)
