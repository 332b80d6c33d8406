-- Numbers of scopes: work of lemmas, cited by functions that the validator alone calls.
use Rattle.std.specs.Prelude.{ℕ, ◌≡◌, ◌<◌, List, All, length, slice_index_or}
use Rattle.check_scope.specs.declared.table.ScopeState.{ScopeState}
use Rattle.check_scope.specs.declared.table.ScopeState.TheVariants.{Closed, Open}

-- the number of the scope that put an expression, 0 where none did
abbrev pub number_at : List ℕ → ℕ → ℕ
number_at numbers h = slice_index_or numbers h 0

-- the state of the scope of a number
abbrev pub state_at : List ScopeState → ℕ → ScopeState
state_at states n = slice_index_or states n Closed

-- each number that an expression has has a state, 0 is that of no scope, 1 that of the body, and the innermost scope is open
pub record IsSound (numbers : List ℕ) (states : List ScopeState) (inner : ℕ) : Type 0 where
  pub numbered : All (λ n. n < length states) numbers
  pub nothing : state_at states 0 ≡ Closed
  pub body : 1 < length states
  pub innermost : state_at states inner ≡ Open
