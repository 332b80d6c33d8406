-- Comes to, no dead code, stuck by: the words of exactness, read off the trail of a run.
use Rattle.std.specs.List.{AllByRecursion}
use Rattle.std.specs.Prelude.{ℕ, List, Contains, ◌≡◌, ◌∷◌, ◌++◌, []}
use Rattle.ir_statements.specs.Tree.{Body}
use Rattle.naga_runs.specs.Handles.{Handles}
use Rattle.naga_runs.specs.Machine.{run, outcome_of, Stuck}
use Rattle.naga_runs.specs.Positions.{Position}
use Rattle.naga_runs.specs.Trail.{Arrival, trail}
use Rattle.naga_runs.specs.VisitOrder.{positions}

-- The run with these handles given, this bound and these choices comes to a position, with these handles live.
pub record Comes (pre : Handles) (b : Body) (n : ℕ) (choices : List ℕ) (p : Position) (live : Handles) : Type 0 where
  pub arrival : Arrival
  pub in_trail : Contains (trail b pre n choices) arrival
  pub there : arrival.position ≡ p
  pub lives : arrival.live ≡ live

-- Some run comes to a position.
pub record IsComeTo (b : Body) (p : Position) : Type 0 where
  pub given : Handles
  pub bound : ℕ
  pub choices : List ℕ
  pub live : Handles
  pub comes : Comes given b bound choices p live

-- A body has no dead code where some run comes to each of its positions.
abbrev pub HasNoDeadCode : Body → Type 0
HasNoDeadCode b = AllByRecursion (IsComeTo b) (positions b)

-- A run is stuck by what stands at a position: it is stuck, and that position is the last that it came to.
pub record IsStuckBy (pre : Handles) (b : Body) (n : ℕ) (choices : List ℕ) (p : Position) : Type 0 where
  pub stuck : outcome_of (run b pre n choices) ≡ Stuck
  pub before : List Arrival
  pub last : Arrival
  pub ends : trail b pre n choices ≡ before ++ last ∷ []
  pub there : last.position ≡ p
