-- What the law says: where the conditions hold at every position of a body, what holds of every run of it.
use Rattle.std.specs.List.{AllByRecursion}
use Rattle.std.specs.Prelude.{ℕ, Bool, true, false, List, Contains, ◌≡◌, ◌≢◌, ◌↔◌, ◌∷◌, ◌++◌, []}
use Rattle.ir_statements.specs.Tree.{Act, Body, Use, Put}
use Rattle.naga_runs.specs.Handles.{Handles, with_handle}
use Rattle.naga_runs.specs.Abilities.{may_return, may_break, may_continue, Jump, node_jump, NoJump, ToBreak, ToContinue, ToReturn}
use Rattle.naga_runs.specs.Machine.{Event, run, events_of, outcome_of, Stuck}
use Rattle.naga_runs.specs.Must.{must_at}
use Rattle.naga_runs.specs.Positions.{Position, node_at}
use Rattle.naga_runs.specs.PutsAndUses.{node_acts, with_acts}
use Rattle.naga_runs.specs.Scope.{scope_at}
use Rattle.naga_runs.specs.Skipped.{skipped_at}
use Rattle.naga_runs.specs.VisitOrder.{positions}

-- Each use is in the first set, and no put is in the second, both with what the acts before it put.
abbrev pub Fit : Handles → Handles → List Act → Type 0
Fit known scope [] = Unit {0}
Fit known scope (Use h ∷ acts) = (known h ≡ true) × Fit known scope acts
Fit known scope (Put h ∷ acts) = (scope h ≡ false) × Fit (with_handle known h) (with_handle scope h) acts

-- a jump, where these say whether Return, Break and Continue are allowed
abbrev pub Allowed : Jump → Bool → Bool → Bool → Type 0
Allowed NoJump r b c = Unit {0}
Allowed ToReturn r b c = r ≡ true
Allowed ToBreak r b c = b ≡ true
Allowed ToContinue r b c = c ≡ true

abbrev pub HasAbility : Jump → Position → Type 0
HasAbility jump p = Allowed jump (may_return p) (may_break p) (may_continue p)

-- the conditions at a position: each use is among the handles that every run has put, no put is in scope, and a jump
-- has its ability
abbrev pub SurelyFitsAt : Handles → Body → Position → Type 0
SurelyFitsAt pre b p =
    Fit (must_at pre b p) (scope_at pre b p) (node_acts (node_at b p)) × HasAbility (node_jump (node_at b p)) p

-- The conditions hold at every position of a body.
abbrev pub IsSurelyFit : Handles → Body → Type 0
IsSurelyFit pre b = AllByRecursion (SurelyFitsAt pre b) (positions b)

-- an event stands at a position of the body, and is an act of what stands there, after those that it says are done
pub record Stands (b : Body) (e : Event) : Type 0 where
  pub listed : Contains (positions b) e.position
  pub rest : List Act
  pub acts : node_acts (node_at b e.position) ≡ e.done ++ e.act ∷ rest

-- what is live is in scope, or was put by the statement itself so far
abbrev pub LiveInScope : Handles → Body → Event → Type 0
LiveInScope pre b e = (h : ℕ) → e.live h ≡ true → with_acts (scope_at pre b e.position) e.done h ≡ true

-- what is in scope and not live is exactly what was skipped
abbrev pub LostIsSkipped : Handles → Body → Event → Type 0
LostIsSkipped pre b e =
    (h : ℕ) → ((scope_at pre b e.position h ≡ true) × (e.live h ≡ false)) ↔ (skipped_at b e.position e.cuts h ≡ true)

-- no live handle is put
abbrev pub PutsNew : Event → Type 0
PutsNew e = (h : ℕ) → e.act ≡ Put h → e.live h ≡ false

-- What holds at an event: the handles that every run has put are live, and so is each used handle, also those that the
-- same statement used before, as the operands of what it now puts.
pub record IsSure (pre : Handles) (b : Body) (e : Event) : Type 0 where
  pub stands : Stands b e
  pub in_scope : LiveInScope pre b e
  pub lost : LostIsSkipped pre b e
  pub must : (h : ℕ) → must_at pre b e.position h ≡ true → e.live h ≡ true
  pub uses : (h : ℕ) → e.act ≡ Use h → e.live h ≡ true
  pub used : (h : ℕ) (before between : List Act) → e.done ≡ before ++ Use h ∷ between → e.live h ≡ true
  pub puts : PutsNew e

-- Every run of a body is sure, for all choices and all bounds on turns: its events are, and it is not stuck.
pub record RunsAreSure (pre : Handles) (b : Body) : Type 0 where
  pub events : (n : ℕ) (choices : List ℕ) → AllByRecursion (IsSure pre b) (events_of (run b pre n choices))
  pub unstuck : (n : ℕ) (choices : List ℕ) → outcome_of (run b pre n choices) ≢ Stuck

-- The law.
abbrev pub SurelyFitIsSure : Type 0
SurelyFitIsSure = (pre : Handles) (b : Body) → IsSurelyFit pre b → RunsAreSure pre b
