-- Witnesses: the run that breaks at what is refused.
use Rattle.std.specs.Prelude.{ℕ, false, List, Some, Err, Contains, ◌≡◌, ◌∷◌, ◌++◌}
use Rattle.ir_arena.specs.Points.{first_fault}
use Rattle.ir_statements.specs.Tree.{Act, Body, Use}
use Rattle.naga_runs.specs.Abilities.{node_jump}
use Rattle.naga_runs.specs.ComesTo.{HasNoDeadCode, IsStuckBy}
use Rattle.naga_runs.specs.Handles.{Handles}
use Rattle.naga_runs.specs.Judgement.{Rules, judgement}
use Rattle.naga_runs.specs.Machine.{Event, run, events_of}
use Rattle.naga_runs.specs.Must.{must_at}
use Rattle.naga_runs.specs.Positions.{Position, node_at}
use Rattle.naga_runs.specs.PutsAndUses.{node_acts, with_acts}
use Rattle.naga_runs.specs.Soundness.{HasAbility}
use Rattle.naga_runs.specs.VisitOrder.{positions}
use Rattle.naga_runs.specs.Visits.{visit_at}

-- Some run of a body records a use of a handle that isn't live.
pub record UsesDead (pre : Handles) (b : Body) (h : ℕ) : Type 0 where
  pub bound : ℕ
  pub choices : List ℕ
  pub event : Event
  pub recorded : Contains (events_of (run b pre bound choices)) event
  pub uses : event.act ≡ Use h
  pub dead : event.live h ≡ false

-- Some run of a body is stuck by what stands at a position.
pub record HasStuckRun (pre : Handles) (b : Body) (p : Position) : Type 0 where
  pub bound : ℕ
  pub choices : List ℕ
  pub stuck : IsStuckBy pre b bound choices p

-- Of acts, one is a use of a handle that neither is known nor was put by the acts before it.
pub record HasUnknownUse (known : Handles) (acts : List Act) (h : ℕ) : Type 0 where
  pub done : List Act
  pub rest : List Act
  pub split : acts ≡ done ++ Use h ∷ rest
  pub unknown : with_acts known done h ≡ false

-- Without dead code, a use of what is not in Must has a run that uses it while it isn't live.
abbrev pub UsesAreWitnessed : Type 0
UsesAreWitnessed =
    (pre : Handles) (b : Body) → HasNoDeadCode b → (p : Position) → Contains (positions b) p → (h : ℕ) →
    HasUnknownUse (must_at pre b p) (node_acts (node_at b p)) h → UsesDead pre b h

-- Without dead code, a jump without its ability has a run that is stuck by it.
abbrev pub JumpsAreWitnessed : Type 0
JumpsAreWitnessed =
    (pre : Handles) (b : Body) → HasNoDeadCode b → (p : Position) → Contains (positions b) p →
    (HasAbility (node_jump (node_at b p)) p → ⊥) → HasStuckRun pre b p

-- A fault of a judgement is the first of a visit, given some state.
pub record IsFaultAt {State Fault : Type 0} (R : Rules State Fault) (pre : Handles) (b : Body) (fault : Fault) :
    Type 0 where
  pub position : Position
  pub listed : Contains (positions b) position
  pub state : State
  pub first : first_fault (R.points state (visit_at pre b position)) ≡ Some fault

abbrev pub FaultIsOfAVisit : {State Fault : Type 0} → Rules State Fault → Type 0
FaultIsOfAVisit {State} {Fault} R =
    (st : State) (pre : Handles) (b : Body) (fault : Fault) → judgement R st pre b ≡ Err fault →
    IsFaultAt R pre b fault
