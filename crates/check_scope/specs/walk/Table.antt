-- What the table shows of scopes and of results: work of lemmas, cited by functions that the validator alone calls.
use Rattle.std.specs.Prelude.{ℕ, ◌≡◌, ◌≢◌, ◌<◌, ◌≤◌, ◌==◌, Bool, true, false, Option, Some, None, IfSome, is_some, List, [], ◌∷◌, length, slice_index_or, if◌then◌else◌}
use Rattle.naga_runs.specs.Handles.{Handles, with_handle}
use Rattle.check_scope.specs.BodyTrees.{emitted_operands}
use Rattle.check_scope.specs.Context.{Context}
use Rattle.check_scope.specs.Results.{is_unfilled}
use Rattle.check_scope.specs.Roots.{root_at}
use Rattle.check_scope.specs.declared.table.ResultState.{ResultState}
use Rattle.check_scope.specs.declared.table.ResultState.TheVariants.{NoResult, Unfilled, Filled}
use Rattle.check_scope.specs.declared.table.FilledColumn.{FilledColumn}
use Rattle.check_scope.specs.declared.table.OperandColumn.{OperandColumn}
use Rattle.check_scope.specs.declared.table.RootColumn.{RootColumn}
use Rattle.check_scope.specs.declared.table.ScopeColumn.{ScopeColumn}
use Rattle.check_scope.specs.declared.table.Table.{Table}
use Rattle.check_scope.specs.declared.table.ScopeState.{ScopeState}
use Rattle.check_scope.specs.declared.table.ScopeState.TheVariants.{Closed, Open, Skipped}
use Rattle.check_scope.specs.walk.ScopeNumbers.{number_at, state_at}
use Rattle.check_scope.specs.walk.Place.{Sets}

-- the scope that put each expression, where it is not closed, the state of each scope, and the innermost of them
pub record Shown : Type 0 where
  pub put_by : ℕ → Option ℕ
  pub state : ℕ → ScopeState
  pub innermost : ℕ

abbrev pub where_kept : ScopeState → ℕ → Option ℕ
where_kept Closed n = None
where_kept Open n = Some n
where_kept Skipped n = Some n

unfoldable pub shown : ScopeColumn → Shown
shown t =
    record {
      put_by = λ h. where_kept (state_at t.states.items (number_at t.numbers.items h)) (number_at t.numbers.items h);
      state = state_at t.states.items;
      innermost = t.innermost;
    }

abbrev pub is_open : ScopeState → Bool
is_open Closed = false
is_open Open = true
is_open Skipped = false

abbrev pub put_open : (ℕ → ScopeState) → Option ℕ → Bool
put_open state None = false
put_open state (Some n) = is_open (state n)

-- what is in scope, what a scope put that is not closed; and what every run has put: what an open one put
abbrev pub known_in : Shown → Sets
known_in s = record { scope = λ h. is_some (s.put_by h); must = λ h. put_open s.state (s.put_by h) }

unfoldable pub known : ScopeColumn → Sets
known t = known_in (shown t)

-- of how many expressions it is
abbrev pub count : ScopeColumn → ℕ
count t = length t.numbers.items

-- how many numbers of scopes are taken
abbrev pub scopes : ScopeColumn → ℕ
scopes t = length t.states.items

-- the innermost scope is the last of those that are open
abbrev pub IsLast : Shown → Type 0
IsLast s = (n : ℕ) → s.state n ≡ Open → n ≤ s.innermost

-- an open scope put an expression, that of this number or one before it
abbrev pub IsPutUpTo : Shown → ℕ → ℕ → Type 0
IsPutUpTo s last h = (n : ℕ) × (s.put_by h ≡ Some n) × (s.state n ≡ Open) × (n ≤ last)

-- so it is with each expression of a list
abbrev pub ArePutUpTo : Shown → ℕ → List ℕ → Type 0
ArePutUpTo s last handles = (k : ℕ) → k < length handles → IsPutUpTo s last (slice_index_or handles k 0)

-- but for what this scope put
abbrev pub unless_by : ℕ → Option ℕ → Option ℕ
unless_by i None = None
unless_by i (Some n) = if n == i then None else Some n

-- what is shown where this scope is closed
abbrev pub closing : ℕ → Shown → Shown
closing i s =
    record {
      put_by = λ h. unless_by i (s.put_by h);
      state = λ n. if n == i then Closed else s.state n;
      innermost = s.innermost;
    }

abbrev pub closing_if : Option ℕ → Shown → Shown
closing_if None s = s
closing_if (Some i) s = closing i s

-- what is shown where the innermost scope is left for this one
abbrev pub left : Shown → ℕ → Shown
left s outer = record (closing s.innermost s) { innermost = outer }

-- what is shown where the innermost scope is left for this one and stays in scope, no longer to be used
abbrev pub skipped : Shown → ℕ → Shown
skipped s outer =
    record {
      put_by = s.put_by;
      state = λ n. if n == s.innermost then Skipped else s.state n;
      innermost = outer;
    }

-- a set with more handles
abbrev pub with_all : Handles → List ℕ → Handles
with_all s [] = s
with_all s (h ∷ handles) = with_all (with_handle s h) handles

-- both sets with more handles
abbrev pub with_puts : Sets → List ℕ → Sets
with_puts s handles = record { scope = with_all s.scope handles; must = with_all s.must handles }

-- the innermost scope put these, and nothing else changed
pub record HasPut (before after : ScopeColumn) (handles : List ℕ) : Type 0 where
  pub inside : known after ≡ with_puts (known before) handles
  pub outside : left (shown after) ≡ left (shown before)
  pub inner : (shown after).innermost ≡ (shown before).innermost
  pub as_many : count after ≡ count before
  pub taken : scopes before ≤ scopes after

-- a scope was entered, with a number that none had
pub record HasEntered (before after : ScopeColumn) : Type 0 where
  pub last : IsLast (shown after)
  pub number : (shown after).innermost ≡ scopes before
  pub taken : scopes before ≤ scopes after

-- the puts after a statement of a Loop's body list: where it is the first that holds a Continue, those of the statements
-- after it get a scope of their own, which is to be left for the one of the number that is given
abbrev pub Divides : ScopeColumn → ScopeColumn → Option ℕ → Bool → Option ℕ → Type 0
Divides before after None true None = ⊥
Divides before after None true (Some home) =
    (left (shown after) home ≡ shown before) × ((shown before).state home ≡ Open) × HasEntered before after
Divides before after None false next = (next ≡ None) × (after ≡ before)
Divides before after (Some home) held next = (next ≡ Some home) × (after ≡ before)

-- a Loop's body list is left: what it put is in scope, and every run has put the first of it; and nothing of it stays
-- once the Loop is left, and with it the scope that was skipped
pub record HasLooped (before after : ScopeColumn) (skipped : Option ℕ) (sure all : List ℕ) : Type 0 where
  pub inside : known after ≡ record { scope = with_all (known before).scope all; must = with_all (known before).must sure }
  pub outside : (outer : ℕ) → closing_if skipped (left (shown after) outer) ≡ left (shown before) outer
  pub apart : (outer : ℕ) → IfSome skipped (λ n. (left (shown after) outer).state n ≢ Open)
  pub as_many : count after ≡ count before
  pub taken : scopes before ≤ scopes after

abbrev pub is_filled_state : ResultState → Bool
is_filled_state NoResult = false
is_filled_state Unfilled = false
is_filled_state Filled = true

abbrev pub is_unfilled_state : ResultState → Bool
is_unfilled_state NoResult = false
is_unfilled_state Unfilled = true
is_unfilled_state Filled = false

-- which results are filled, and which are known as still to be filled
unfoldable pub filled_in : FilledColumn → Handles
filled_in t h = is_filled_state (slice_index_or t.marks.items h NoResult)

unfoldable pub unfilled_in : FilledColumn → Handles
unfilled_in t h = is_unfilled_state (slice_index_or t.marks.items h NoResult)

-- a set without a handle
abbrev pub without_handle : Handles → ℕ → Handles
without_handle s h = λ x. if h == x then false else s x

-- of how many expressions it is
abbrev pub marked : FilledColumn → ℕ
marked t = length t.marks.items

-- what is known as still to be filled is each result that nothing filled
abbrev pub KnowsResults : Context → FilledColumn → Type 0
KnowsResults context t = (h : ℕ) → unfilled_in t h ≡ is_unfilled context (filled_in t) h

-- the number that is kept of an expression's operands, 0 where none is
unfoldable pub kept_at : OperandColumn → ℕ → ℕ
kept_at t h = slice_index_or t.numbers.items h 0

-- where the scope of the number that is kept of an expression is open, open scopes put all its operands: that scope, and
-- such as it lies in
pub record KnowsOperands (operands : ℕ → List ℕ) (t : OperandColumn) (scope : ScopeColumn) : Type 0 where
  pub last : IsLast (shown scope)
  pub numbered : (h : ℕ) → kept_at t h < scopes scope
  pub usable : (h : ℕ) → (shown scope).state (kept_at t h) ≡ Open → ArePutUpTo (shown scope) (kept_at t h) (operands h)

-- the first of a function's expressions have these roots
abbrev pub AreRoots : Context → List ℕ → Type 0
AreRoots context roots = (h : ℕ) → h < length roots → slice_index_or roots h 0 ≡ root_at context h

abbrev pub KnowsRoots : Context → RootColumn → Type 0
KnowsRoots context t = AreRoots context t.roots.items

-- the columns are of the function's expressions, and what is kept of results, operands and roots holds
pub record IsTableOf (context : Context) (t : Table) : Type 0 where
  pub scope : count t.scope ≡ length context.fun.expressions
  pub filled : marked t.filled ≡ length context.fun.expressions
  pub results : KnowsResults context t.filled
  pub operands : KnowsOperands (emitted_operands context.fun) t.operands t.scope
  pub roots : KnowsRoots context t.roots
