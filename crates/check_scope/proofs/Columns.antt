-- What the columns of a table show as they change.
use Rattle.std.proofs.Common.{◌≡◌, ℕ, zero, suc, ◌-◌, ◌<◌, ◌≤◌, ◌==◌, Bool, true, false, Option, Some, None, List, [], ◌∷◌, ◌++◌, All, OnOk, Result, Ok, Err, is_some, length, get_or, length-append, length-set, replicate, ◌+◌, take, refl, sym, ap, ◌∙◌, arith}
use Rattle.std.proofs.lemmas.Bool.Decides.{nat_tests}
use Rattle.std.proofs.lemmas.List.{get_or_append_left}
use Rattle.std.proofs.Math.ListN.{set}
use Rattle.std.specs.Prelude.{if◌then◌else◌}
use Rattle.naga_runs.specs.Handles.{Handles, no_handles, with_handle}
use Rattle.check_scope.specs.walk.ScopeNumbers.{number_at, state_at, IsSound}
use Rattle.check_scope.specs.walk.Place.{Sets, no_sets}
use Rattle.check_scope.specs.walk.Table.{Shown, where_kept, is_open, put_open, shown, known, known_in, count, unless_by, closing, left, skipped, with_all, with_puts, scopes, HasPut, IsTableOf}
use Rattle.check_scope.specs.declared.table.Table.{Table}
use Rattle.check_scope.specs.Context.{Context}
use Rattle.check_scope.specs.declared.table.ScopeColumn.{ScopeColumn}
use Rattle.check_scope.specs.declared.table.ResultState.{ResultState}
use Rattle.check_scope.specs.declared.table.ResultState.TheVariants.{NoResult}
use Rattle.check_scope.specs.declared.table.ScopeState.{ScopeState}
use Rattle.check_scope.specs.declared.table.ScopeState.TheVariants.{Closed, Open, Skipped}

-- each place of a list of equal items, and each past its end, has that item
pub at_replicate : {A : Type 0} (n i : ℕ) (a : A) → get_or (replicate n a) i a ≡ a
at_replicate zero i a = refl
at_replicate (suc n) zero a = refl
at_replicate (suc n) (suc i) a = at_replicate n i a

-- equal items, filled up with more of them
filled_up : {A : Type 0} (n m : ℕ) (a : A) → m ≤ n → take n (replicate m a) ++ replicate (n - m) a ≡ replicate n a
filled_up zero zero a le = refl
filled_up (suc n) zero a le = let all : suc n - 0 ≡ suc n = omega arith in ap (λ k. replicate k a) all
filled_up zero (suc m) a le = absurd (omega arith)
filled_up (suc n) (suc m) a le =
    let less : suc n - suc m ≡ n - m = omega arith in
    ap (λ k. a ∷ take n (replicate m a) ++ replicate k a) less ∙ ap (λ l. a ∷ l) (filled_up n m a (omega arith))

-- a list filled up with what is read behind its end
pub read_filled : {A : Type 0} (xs : List A) (n m i : ℕ) (a : A) → length xs ≤ n → get_or (take n xs ++ replicate m a) i a ≡ get_or xs i a
read_filled [] zero m i a le = at_replicate m i a
read_filled [] (suc n) m i a le = at_replicate m i a
read_filled (x ∷ xs) zero m i a le = absurd (omega arith)
read_filled (x ∷ xs) (suc n) m zero a le = refl
read_filled (x ∷ xs) (suc n) m (suc i) a le = read_filled xs n m i a (omega arith)

-- equal items in front of a list
front : {A : Type 0} (n : ℕ) (a : A) (rest : List A) → take n (replicate n a ++ rest) ≡ replicate n a
front zero a rest = refl
front (suc n) a rest = ap (λ l. a ∷ l) (front n a rest)

-- a column that was cut to n items, filled, and filled up to n
pub begun : {A : Type 0} (n m : ℕ) (a : A) (rest filled made : List A) → m ≤ n → filled ≡ replicate m a → made ≡ take n (take m (filled ++ rest)) ++ replicate (n - m) a → made ≡ replicate n a
begun n m a rest filled made le is end =
    end
    ∙ ap (λ l. take n (take m (l ++ rest)) ++ replicate (n - m) a) is
    ∙ ap (λ l. take n l ++ replicate (n - m) a) (front m a rest)
    ∙ filled_up n m a le

-- a number that is taken is below the next
pub below_next : (numbers : List ℕ) (next : ℕ) → 0 < next → All (λ n. n < next) numbers → (h : ℕ) → number_at numbers h < next
below_next [] next some all h = some
below_next (n ∷ numbers) next some all zero = all 0 0 (omega arith)
below_next (n ∷ numbers) next some all (suc h) = below_next numbers next some (λ k d lt. all (suc k) d (omega arith)) h

-- entering a scope, and leaving it again, leaves all states as they were
again : (states : List ScopeState) (n : ℕ) → (if n == length states then Closed else state_at (states ++ Open ∷ []) n) ≡ state_at states n
again [] zero = refl
again [] (suc n) = let other : (suc n == 0) ≡ false = grind (arith, nat_tests) in ap (λ b. if b then Closed else Closed) other
again (s ∷ states) zero =
    let other : (0 == suc (length states)) ≡ false = grind (arith, nat_tests) in ap (λ b. if b then Closed else s) other
again (s ∷ states) (suc n) =
    let same : (suc n == suc (length states)) ≡ (n == length states) = grind (arith, nat_tests) in
    ap (λ b. if b then Closed else state_at (states ++ Open ∷ []) n) same ∙ again states n

-- a list where one item is set
pub set_at : {A : Type 0} (xs : List A) (i n : ℕ) (new d : A) → i < length xs → get_or (set xs i new) n d ≡ (if n == i then new else get_or xs n d)
set_at [] i n new d lt = absurd (omega arith)
set_at (x ∷ xs) zero zero new d lt = refl
set_at (x ∷ xs) zero (suc n) new d lt =
    let other : (suc n == 0) ≡ false = grind (arith, nat_tests) in sym (ap (λ b. if b then new else get_or xs n d) other)
set_at (x ∷ xs) (suc i) zero new d lt =
    let other : (0 == suc i) ≡ false = grind (arith, nat_tests) in sym (ap (λ b. if b then new else x) other)
set_at (x ∷ xs) (suc i) (suc n) new d lt =
    let same : (n == i) ≡ (suc n == suc i) = grind (arith, nat_tests) in
    set_at xs i n new d (omega arith) ∙ ap (λ b. if b then new else get_or xs n d) same

-- the states where that of one scope is set
pub changed : (states : List ScopeState) (i n : ℕ) (new : ScopeState) → i < length states → state_at (set states i new) n ≡ (if n == i then new else state_at states n)
changed states i n new lt = set_at states i n new Closed lt

-- a scope that is open has a number
pub open_taken : (states : List ScopeState) (i : ℕ) → state_at states i ≡ Open → i < length states
open_taken [] i is = cc
open_taken (s ∷ states) zero is = omega arith
open_taken (s ∷ states) (suc i) is = let lt = open_taken states i is in omega arith

-- the scope that is entered is the last that is open
pub last_entered : (states after : List ScopeState) → after ≡ states ++ Open ∷ [] → (n : ℕ) → state_at after n ≡ Open → n ≤ length states
last_entered states after is n e =
    let lt = open_taken after n e in
    let more : length after ≡ length states + 1 = ap length is ∙ length-append states (Open ∷ []) in
    omega (arith, lt, more)

-- where a function begins, the scope of its body is the last
pub last_begun : (states : List ScopeState) (n : ℕ) → length states ≤ 2 → state_at states n ≡ Open → n ≤ 1
last_begun states n le e = let lt = open_taken states n e in omega (arith, lt, le)

past_end : (states : List ScopeState) (n : ℕ) → length states ≤ n → state_at states n ≡ Closed
past_end [] n le = refl
past_end (s ∷ states) zero le = absurd (omega arith)
past_end (s ∷ states) (suc n) le = past_end states n (omega arith)

-- where there is no scope of a number, closing it changes no state
pub closed_past : (states : List ScopeState) (i n : ℕ) → length states ≤ i → state_at states n ≡ (if n == i then Closed else state_at states n)
closed_past states i n le = step (n == i) refl
  where
    step : (b : Bool) → (n == i) ≡ b → state_at states n ≡ (if b then Closed else state_at states n)
    step true e =
        let same : n ≡ i = grind (arith, nat_tests) in past_end states n (omega arith)
    step false e = refl

-- what another scope put stays
stays : (s : ScopeState) (n i : ℕ) → (n == i) ≡ false → unless_by i (where_kept s n) ≡ where_kept s n
stays Closed n i other = refl
stays Open n i other = ap (λ c. if c then None else Some n) other
stays Skipped n i other = ap (λ c. if c then None else Some n) other

abbrev unless_same : Bool → ScopeState → ℕ → Option ℕ
unless_same same Closed n = None
unless_same same Open n = if same then None else Some n
unless_same same Skipped n = if same then None else Some n

unless : (same : Bool) (s : ScopeState) (n : ℕ) → where_kept (if same then Closed else s) n ≡ unless_same same s n
unless true Closed n = refl
unless true Open n = refl
unless true Skipped n = refl
unless false Closed n = refl
unless false Open n = refl
unless false Skipped n = refl

unless_is : (s : ScopeState) (n i : ℕ) → unless_same (n == i) s n ≡ unless_by i (where_kept s n)
unless_is Closed n i = refl
unless_is Open n i = refl
unless_is Skipped n i = refl

-- whether the scope that put an expression is open
pub must_is : (state : ℕ → ScopeState) (n : ℕ) → put_open state (where_kept (state n) n) ≡ is_open (state n)
must_is state n = go (state n) refl
  where
    go : (s : ScopeState) → state n ≡ s → put_open state (where_kept s n) ≡ is_open s
    go Closed e = refl
    go Open e = ap is_open e
    go Skipped e = ap is_open e

-- what these numbers and states show
abbrev pub shows : List ℕ → List ScopeState → ℕ → Shown
shows numbers states inner =
    record {
      put_by = λ h. where_kept (state_at states (number_at numbers h)) (number_at numbers h);
      state = state_at states;
      innermost = inner;
    }

module _ (numbers : List ℕ) (states : List ScopeState) where
  -- where the state of one scope is set
  pub shows_closed : (i inner : ℕ) (after : List ScopeState) → ((n : ℕ) → state_at after n ≡ (if n == i then Closed else state_at states n)) → shows numbers after inner ≡ closing i (shows numbers states inner)
  shows_closed i inner after is j =
      record {
        put_by = λ h.
            (let n = number_at numbers h in
            ap (λ s. where_kept s n) (is n) ∙ unless (n == i) (state_at states n) n ∙ unless_is (state_at states n) n i) j;
        state = λ n. is n j;
        innermost = inner;
      }

  kept_skipped : (n i : ℕ) → (n == i) ≡ true → state_at states i ≡ Open → where_kept Skipped n ≡ where_kept (state_at states n) n
  kept_skipped n i e was =
      let same : n ≡ i = grind (arith, nat_tests) in
      sym (ap (λ s. where_kept s n) (ap (state_at states) same ∙ was))

  -- where an open scope is skipped
  pub shows_skipped : (i outer : ℕ) (after : List ScopeState) → state_at states i ≡ Open → ((n : ℕ) → state_at after n ≡ (if n == i then Skipped else state_at states n)) → shows numbers after outer ≡ skipped (shows numbers states i) outer
  shows_skipped i outer after was is j =
      record {
        put_by = λ h. (let n = number_at numbers h in ap (λ s. where_kept s n) (is n) ∙ same n (n == i) refl) j;
        state = λ n. is n j;
        innermost = outer;
      }
    where
      same : (n : ℕ) (b : Bool) → (n == i) ≡ b → where_kept (if b then Skipped else state_at states n) n ≡ where_kept (state_at states n) n
      same n true e = kept_skipped n i e was
      same n false e = refl

module _ (numbers : List ℕ) (states : List ScopeState) (inner : ℕ) (sound : IsSound numbers states inner) where
  pub taken : (h : ℕ) → number_at numbers h < length states
  taken h =
      let body = sound.body in below_next numbers (length states) (omega arith) sound.numbered h

  -- the state of a scope that put something is as before where another is entered
  state_before : (h : ℕ) → state_at (states ++ Open ∷ []) (number_at numbers h) ≡ state_at states (number_at numbers h)
  state_before h = get_or_append_left states (Open ∷ []) Closed (number_at numbers h) (taken h)

  -- a scope that is entered has put nothing yet
  put_before : (h : ℕ) → (shows numbers (states ++ Open ∷ []) inner).put_by h ≡ (shows numbers states inner).put_by h
  put_before h = ap (λ s. where_kept s (number_at numbers h)) (state_before h)

  entered_by : (h : ℕ) → unless_by (length states) ((shows numbers (states ++ Open ∷ []) inner).put_by h) ≡ (shows numbers states inner).put_by h
  entered_by h =
      let lt = taken h in
      let n = number_at numbers h in
      let other : (n == length states) ≡ false = grind (arith, nat_tests) in
      ap (unless_by (length states)) (put_before h) ∙ stays (state_at states n) n (length states) other

  must_before : (h : ℕ) → (known_in (shows numbers (states ++ Open ∷ []) inner)).must h ≡ (known_in (shows numbers states inner)).must h
  must_before h =
      let n = number_at numbers h in
      must_is (state_at (states ++ Open ∷ [])) n ∙ ap is_open (state_before h) ∙ sym (must_is (state_at states) n)

  module _ (after : List ScopeState) (is : after ≡ states ++ Open ∷ []) where
    pub known_entered : (next : ℕ) → known_in (shows numbers after next) ≡ known_in (shows numbers states inner)
    known_entered next i =
        record {
          scope = λ h. (ap (λ s. is_some ((shows numbers s next).put_by h)) is ∙ ap is_some (put_before h)) i;
          must = λ h. (ap (λ s. (known_in (shows numbers s next)).must h) is ∙ must_before h) i;
        }

    -- a scope that is entered and left again leaves what was shown
    pub entered : (next : ℕ) → next ≡ length states → left (shows numbers after next) inner ≡ shows numbers states inner
    entered next e i =
        record {
          put_by = λ h. ((λ j. unless_by (e j) ((shows numbers (is j) inner).put_by h)) ∙ entered_by h) i;
          state = λ n. ((λ j. if n == e j then Closed else state_at (is j) n) ∙ again states n) i;
          innermost = inner;
        }

pub not_some : {A : Type 0} (o : Option A) → ((x : A) → o ≡ Some x → ⊥) → o ≡ None
not_some None none = refl
not_some (Some x) none = absurd (none x refl)

none_of : {A : Type 0} (o : Option A) → is_some o ≡ false → o ≡ None
none_of None e = refl
none_of (Some x) e = cc

module _ (numbers : List ℕ) (states : List ScopeState) (inner : ℕ) (sound : IsSound numbers states inner) where
  -- the innermost scope is left, or skipped
  pub was_left : (outer : ℕ) → shows numbers (set states inner Closed) outer ≡ left (shows numbers states inner) outer
  was_left outer =
      shows_closed numbers states inner outer (set states inner Closed) (λ n. changed states inner n Closed (open_taken states inner sound.innermost))

  pub was_skipped : (outer : ℕ) → shows numbers (set states inner Skipped) outer ≡ skipped (shows numbers states inner) outer
  was_skipped outer =
      shows_skipped numbers states inner outer (set states inner Skipped) sound.innermost (λ n. changed states inner n Skipped (open_taken states inner sound.innermost))

  -- and with it the one that was skipped in it
  abbrev outside : List ScopeState
  outside = set states inner Closed

  pub both_left : (outer number : ℕ) → number < length states → shows numbers (set outside number Closed) outer ≡ closing number (left (shows numbers states inner) outer)
  both_left outer number lt =
      let same = length-set states inner Closed in
      shows_closed numbers outside number outer (set outside number Closed) (λ n. changed outside number n Closed (omega (arith, same, lt))) ∙ ap (closing number) (was_left outer)

  pub none_skipped : (outer number : ℕ) → length states ≤ number → shows numbers outside outer ≡ closing number (left (shows numbers states inner) outer)
  none_skipped outer number le =
      let same = length-set states inner Closed in
      shows_closed numbers outside number outer outside (λ n. closed_past outside number n (omega (arith, same, le))) ∙ ap (closing number) (was_left outer)

  -- the innermost scope puts an expression
  module _ (h : ℕ) (there : h < length numbers) (new : (known_in (shows numbers states inner)).scope h ≡ false) where
    abbrev after : List ℕ
    after = set numbers h inner

    -- what is read of the scope that put each is as before, but for this one
    read : {A : Type 0} (f : ℕ → A) (here : A) (k : ℕ) → f inner ≡ here → f (number_at after k) ≡ (if h == k then here else f (number_at numbers k))
    read f here k is = step (h == k) refl
      where
        at : number_at after k ≡ (if k == h then inner else number_at numbers k)
        at = set_at numbers h k inner 0 there

        step : (b : Bool) → (h == k) ≡ b → f (number_at after k) ≡ (if b then here else f (number_at numbers k))
        step true e =
            let same : (k == h) ≡ true = grind (arith, nat_tests) in
            ap f (at ∙ ap (λ b. if b then inner else number_at numbers k) same) ∙ is
        step false e =
            let other : (k == h) ≡ false = grind (arith, nat_tests) in
            ap f (at ∙ ap (λ b. if b then inner else number_at numbers k) other)

    abbrev by : ℕ → Option ℕ
    by n = where_kept (state_at states n) n

    own : by inner ≡ Some inner
    own = ap (λ s. where_kept s inner) sound.innermost

    pub put_inside : known_in (shows after states inner) ≡ with_puts (known_in (shows numbers states inner)) (h ∷ [])
    put_inside i =
        record {
          scope = λ k. read (λ n. is_some (by n)) true k (ap is_some own) i;
          must = λ k. read (λ n. put_open (state_at states) (by n)) true k (ap (put_open (state_at states)) own ∙ ap is_open sound.innermost) i;
        }

    left_alone : (k : ℕ) → unless_by inner (by (number_at after k)) ≡ unless_by inner (by (number_at numbers k))
    left_alone k = read (λ n. unless_by inner (by n)) None k none ∙ step (h == k) refl
      where
        none : unless_by inner (by inner) ≡ None
        none =
            let same : (inner == inner) ≡ true = grind (arith, nat_tests) in
            ap (unless_by inner) own ∙ ap (λ b. if b then None else Some inner) same

        step : (b : Bool) → (h == k) ≡ b → (if b then None else unless_by inner (by (number_at numbers k))) ≡ unless_by inner (by (number_at numbers k))
        step true e =
            let same : h ≡ k = grind (arith, nat_tests) in
            sym (ap (unless_by inner) (none_of (by (number_at numbers k)) (ap (λ z. is_some (by (number_at numbers z))) (sym same) ∙ new)))
        step false e = refl

    pub put_outside : left (shows after states inner) ≡ left (shows numbers states inner)
    put_outside i outer =
        record { put_by = λ k. left_alone k i; state = (left (shows numbers states inner) outer).state; innermost = outer }

-- where no scope has put anything
pub nothing_put : (numbers : List ℕ) (n : ℕ) (states : List ScopeState) → numbers ≡ replicate n 0 → state_at states 0 ≡ Closed → (h : ℕ) → where_kept (state_at states (number_at numbers h)) (number_at numbers h) ≡ None
nothing_put numbers n states is never h =
    ap (λ (l : List ℕ). where_kept (state_at states (number_at l h)) (number_at l h)) is ∙ ap (λ k. where_kept (state_at states k) k) (at_replicate n h 0) ∙ ap (λ s. where_kept s 0) never

pub none_in_scope : (numbers : List ℕ) (n : ℕ) (states : List ScopeState) (inner : ℕ) → numbers ≡ replicate n 0 → state_at states 0 ≡ Closed → known_in (shows numbers states inner) ≡ no_sets
none_in_scope numbers n states inner is never i =
    record {
      scope = λ h. ap is_some (nothing_put numbers n states is never h) i;
      must = λ h. ap (put_open (state_at states)) (nothing_put numbers n states is never h) i;
    }

-- no mark of a column that is begun has a property that that of no result lacks
pub nothing_marked : (marks : List ResultState) (n : ℕ) (has : ResultState → Bool) → has NoResult ≡ false → marks ≡ replicate n NoResult → ◌≡◌ {A = ℕ → Bool} (λ h. has (get_or marks h NoResult)) no_handles
nothing_marked marks n has none is i h =
    (ap (λ (l : List ResultState). has (get_or l h NoResult)) is ∙ ap has (at_replicate n h NoResult) ∙ none) i

pub all-append : (xs ys : List ℕ) (s : Handles) → with_all s (xs ++ ys) ≡ with_all (with_all s xs) ys
all-append [] ys s = refl
all-append (x ∷ xs) ys s = all-append xs ys (with_handle s x)

pub puts-append : (xs ys : List ℕ) (s : Sets) → with_puts s (xs ++ ys) ≡ with_puts (with_puts s xs) ys
puts-append xs ys s i = record { scope = all-append xs ys s.scope i; must = all-append xs ys s.must i }

-- puts, one behind the other
pub both_put : {a b c : ScopeColumn} {xs ys : List ℕ} → HasPut a b xs → HasPut b c ys → HasPut a c (xs ++ ys)
both_put {a = a} {xs = xs} {ys = ys} p q =
    record {
      inside = q.inside ∙ ap (λ s. with_puts s ys) p.inside ∙ sym (puts-append xs ys (known a));
      outside = q.outside ∙ p.outside;
      inner = q.inner ∙ p.inner;
      as_many = q.as_many ∙ p.as_many;
      taken = let before = p.taken in let more = q.taken in omega (arith, before, more);
    }

-- what shows the same has put nothing
pub same_known : (a b : ScopeColumn) → shown b ≡ shown a → known b ≡ known a
unfolding known
same_known a b same = ap known_in same

pub put_nothing : (a : ScopeColumn) → HasPut a a []
put_nothing a = record { inside = refl; outside = refl; inner = refl; as_many = refl; taken = omega arith }

-- what was put is put where the same shows
pub stays_put : {T E : Type 0} (context : Context) (a b : ScopeColumn) (table : Table) (xs : List ℕ) (r : Result T E) → HasPut a b xs → count a ≡ length context.fun.expressions → OnOk r (IsTableOf context table) → OnOk r (shown table.scope ≡ shown b) → OnOk r (scopes b ≤ scopes table.scope) → OnOk r (HasPut a table.scope xs)
stays_put context a b table xs (Ok x) put n of same more =
    record {
      inside = same_known b table.scope same ∙ put.inside;
      outside = ap left same ∙ put.outside;
      inner = ap (λ (s : Shown). s.innermost) same ∙ put.inner;
      as_many = of.scope ∙ sym n;
      taken = let before = put.taken in omega (arith, before, more);
    }
stays_put context a b table xs (Err e) put n of same more = tt

-- an innermost scope that was entered and in which this was put may be left, and then shows what there was
module _ (before entered after : ScopeColumn) {xs : List ℕ} (outer : ℕ) (shows : left (shown entered) outer ≡ shown before) (put : HasPut entered after xs) where
  pub shows_before : left (shown after) outer ≡ shown before
  shows_before = ap (λ (f : ℕ → Shown). f outer) put.outside ∙ shows

  pub may_leave : (shown before).state outer ≡ Open → (left (shown after) outer).state outer ≡ Open
  may_leave is_open = ap (λ (s : Shown). s.state outer) shows_before ∙ is_open

-- of the puts of a whole list, those before the rest were put
pub record PutsBefore (before after : ScopeColumn) (rest whole : List ℕ) : Type 0 where
  pub earlier : List ℕ
  pub put : HasPut before after earlier
  pub joined : earlier ++ rest ≡ whole
