-- Exactness: what a position is refused for breaks in some run, dead code aside.
use Rattle.std.specs.List.{AllByRecursion}
use Rattle.std.specs.Prelude.{ℕ, true, false, List, Contains, flat_map, ◌≡◌, ◌↔◌, ◌∷◌, ◌++◌, [], ◌<◌}
use Rattle.ir_statements.specs.Tree.{Body}
use Rattle.naga_runs.specs.Abilities.{node_jump}
use Rattle.naga_runs.specs.ComesTo.{Comes, IsComeTo, HasNoDeadCode, IsStuckBy}
use Rattle.naga_runs.specs.DeadCode.{may_come, dead_code}
use Rattle.naga_runs.specs.Handles.{Handles}
use Rattle.naga_runs.specs.Machine.{recorded, run, events_of}
use Rattle.naga_runs.specs.Must.{must_at}
use Rattle.naga_runs.specs.Positions.{Part, Position, node_at, In}
use Rattle.naga_runs.specs.PutsAndUses.{node_acts}
use Rattle.naga_runs.specs.Soundness.{HasAbility}
use Rattle.naga_runs.specs.Trail.{trail}
use Rattle.naga_runs.specs.Unions.{PutAt}
use Rattle.naga_runs.specs.VisitOrder.{positions}

-- The trail is that of the run: the run's events are the acts of what it comes to, in order; and what it comes to is
-- what stands there.
pub record TrailIsOfRun : Type 0 where
  pub events : (pre : Handles) (b : Body) (n : ℕ) (choices : List ℕ) →
      events_of (run b pre n choices)
      ≡ flat_map (λ a. recorded (node_acts a.node) [] a.live a.position a.cuts) (trail b pre n choices)
  pub nodes : (pre : Handles) (b : Body) (n : ℕ) (choices : List ℕ) →
      AllByRecursion (λ a. a.node ≡ node_at b a.position) (trail b pre n choices)

-- A handle is live in every run that comes to a position, as it comes there.
abbrev pub AlwaysLive : Handles → Body → Position → ℕ → Type 0
AlwaysLive pre b p h = (n : ℕ) (choices : List ℕ) (live : Handles) → Comes pre b n choices p live → live h ≡ true

-- What is in Must is always live, in every body, with dead code or without.
abbrev pub MustIsLive : Type 0
MustIsLive = (pre : Handles) (b : Body) (p : Position) (h : ℕ) → must_at pre b p h ≡ true → AlwaysLive pre b p h

-- Without dead code, Must is exactly what is always live.
abbrev pub MustIsExact : Type 0
MustIsExact =
    (pre : Handles) (b : Body) → HasNoDeadCode b → (p : Position) → Contains (positions b) p → (h : ℕ) →
    (must_at pre b p h ≡ true) ↔ AlwaysLive pre b p h

-- Without dead code, what stands at a position has its ability exactly where no run is stuck by it.
abbrev pub JumpsAreExact : Type 0
JumpsAreExact =
    (pre : Handles) (b : Body) → HasNoDeadCode b → (p : Position) → Contains (positions b) p →
    HasAbility (node_jump (node_at b p)) p ↔ ((n : ℕ) (choices : List ℕ) → IsStuckBy pre b n choices p → ⊥)

-- What an earlier sibling of a position, or of an ancestor of it, puts is always live there.
abbrev pub EarlierIsLive : Type 0
EarlierIsLive =
    (pre : Handles) (b : Body) (a : Position) (part : Part) (i j : ℕ) (r : Position) (h : ℕ) → j < i →
    PutAt b (a ++ In part j ∷ []) h → AlwaysLive pre b (a ++ In part i ∷ r) h

-- Dead code over the tree is dead code.
pub record DeadCodeIsExact : Type 0 where
  pub positions : (b : Body) (p : Position) → Contains (positions b) p → (may_come b p ≡ true) ↔ IsComeTo b p
  pub bodies : (b : Body) → (dead_code b ≡ false) ↔ HasNoDeadCode b
