-- The run that breaks at what is refused.
use Rattle.std.proofs.lemmas.List.Elements.{All-contains, All-from_recursion, Contains-append_left, Contains-append_right}
use Rattle.std.specs.List.{AllByRecursion}
use Rattle.std.specs.Prelude.{ℕ, true, false, List, Option, Some, None, Result, Ok, Err, map, flat_map, Contains, ◌≡◌, ◌⊎◌, ◌∷◌, ◌++◌, []}
use Rattle.std.proofs.Common.{refl, sym, ap, subst, arith, inl, inr, ◌∙◌}
use Rattle.ir_arena.specs.Points.{Point, first_fault, answer}
use Rattle.ir_statements.specs.Tree.{Act, Body, Use, Put}
use Rattle.naga_runs.specs.Handles.{Handles}
use Rattle.naga_runs.specs.Judgement.{Rules, state_after, points_after, judgement}
use Rattle.naga_runs.specs.Machine.{Event, recorded}
use Rattle.naga_runs.specs.Must.{must_at}
use Rattle.naga_runs.specs.Positions.{Position, node_at}
use Rattle.naga_runs.specs.PutsAndUses.{node_acts, with_acts}
use Rattle.naga_runs.specs.Trail.{Arrival, trail}
use Rattle.naga_runs.specs.VisitOrder.{positions}
use Rattle.naga_runs.specs.Visits.{Visit, visit_at, visits_of}
use Rattle.naga_runs.specs.Witnesses.{UsesAreWitnessed, JumpsAreWitnessed, IsFaultAt, FaultIsOfAVisit}
use Rattle.naga_runs.proofs.Alive.{known_same}
use Rattle.naga_runs.proofs.EachOf.{all_mono}
use Rattle.naga_runs.proofs.Exact.{witness, clean_come, alive_of, arrived, stuck_by}
use Rattle.naga_runs.proofs.TrailEvents.{events_at, run_records}

-- among the acts that are recorded
record RecordedUse (acts : List Act) (before : List Act) (live : Handles) (p : Position) (cuts : List (Option ℕ))
    (done : List Act) (h : ℕ) : Type 0 where
  event : Event
  is_recorded : Contains (recorded acts before live p cuts) event
  uses : event.act ≡ Use h
  lives : event.live ≡ with_acts live done

recorded_use : (done rest : List Act) (h : ℕ) (before : List Act) (live : Handles) (p : Position)
    (cuts : List (Option ℕ)) → RecordedUse (done ++ Use h ∷ rest) before live p cuts done h
recorded_use [] rest h before live p cuts =
    record {
      event = record { act = Use h; done = before; live = live; position = p; cuts = cuts };
      is_recorded = (0, omega arith, refl);
      uses = refl;
      lives = refl;
    }
recorded_use (Use g ∷ done) rest h before live p cuts =
    let more = recorded_use done rest h (before ++ Use g ∷ []) live p cuts in
    record {
      event = more.event;
      is_recorded = Contains-append_right
          (record { act = Use g; done = before; live = live; position = p; cuts = cuts } ∷ [])
          (recorded (done ++ Use h ∷ rest) (before ++ Use g ∷ []) live p cuts) more.event more.is_recorded;
      uses = more.uses;
      lives = more.lives;
    }
recorded_use (Put g ∷ done) rest h before live p cuts =
    let more = recorded_use done rest h (before ++ Put g ∷ []) (with_acts live (Put g ∷ [])) p cuts in
    record {
      event = more.event;
      is_recorded = Contains-append_right
          (record { act = Put g; done = before; live = live; position = p; cuts = cuts } ∷ [])
          (recorded (done ++ Use h ∷ rest) (before ++ Put g ∷ []) (with_acts live (Put g ∷ [])) p cuts) more.event
          more.is_recorded;
      uses = more.uses;
      lives = more.lives;
    }

-- what an arrival records, its trail does
all_recorded : (t : List Arrival) →
    AllByRecursion (λ a. (e : Event) → Contains (events_at a) e → Contains (flat_map events_at t) e) t
all_recorded [] = tt
all_recorded (x ∷ t) = (
  λ e c. Contains-append_left (events_at x) (flat_map events_at t) e c,
  all_mono (λ a. (e : Event) → Contains (events_at a) e → Contains (flat_map events_at t) e)
      (λ a. (e : Event) → Contains (events_at a) e → Contains (events_at x ++ flat_map events_at t) e) t
      (λ a f e c. Contains-append_right (events_at x) (flat_map events_at t) e (f e c)) (all_recorded t),
)

recorded_in : (t : List Arrival) (a : Arrival) (e : Event) → Contains t a → Contains (events_at a) e →
    Contains (flat_map events_at t) e
recorded_in t a e c d =
    All-contains (λ a. (e : Event) → Contains (events_at a) e → Contains (flat_map events_at t) e) t a
    (All-from_recursion (λ a. (e : Event) → Contains (events_at a) e → Contains (flat_map events_at t) e) t (all_recorded t)) c e d

pub uses_are_witnessed : UsesAreWitnessed
uses_are_witnessed pre b clean p c h u =
    let there = witness pre b p c (clean_come b clean p c) in
    let a : Arrival = there.comes.arrival in
    let acts : node_acts a.node ≡ u.done ++ Use h ∷ u.rest =
    ap node_acts ((arrived pre b there.bound there.choices a there.comes.in_trail).node
    ∙ ap (node_at b) there.comes.there) ∙ u.split in
    let found : RecordedUse (node_acts a.node) [] a.live a.position a.cuts u.done h =
    subst (λ acts. RecordedUse acts [] a.live a.position a.cuts u.done h) (sym acts)
    (recorded_use u.done u.rest h [] a.live a.position a.cuts) in
    let lives : a.live ≡ must_at pre b p = there.comes.lives ∙ known_same p b pre (alive_of b clean) in
    record {
      bound = there.bound;
      choices = there.choices;
      event = found.event;
      recorded = subst (λ es. Contains es found.event) (sym (run_records pre b there.bound there.choices))
          (recorded_in (trail b pre there.bound there.choices) a found.event there.comes.in_trail found.is_recorded);
      uses = found.uses;
      dead = ap (λ l. l h) (found.lives ∙ ap (λ l. with_acts l u.done) lives) ∙ u.unknown;
    }

pub jumps_are_witnessed : JumpsAreWitnessed
jumps_are_witnessed pre b clean p c lacks =
    let there = witness pre b p c (clean_come b clean p c) in
    record {
      bound = there.bound;
      choices = there.choices;
      stuck = stuck_by pre b p there.bound there.choices _ lacks there.comes;
    }

-- the fault of a judgement
fault_either : {Fault : Type 0} (ps qs : List (Point Fault)) (f : Fault) → first_fault (ps ++ qs) ≡ Some f →
    (first_fault ps ≡ Some f) ⊎ (first_fault qs ≡ Some f)
fault_either [] qs f e = inr e
fault_either ((true, g) ∷ ps) qs f e = fault_either ps qs f e
fault_either ((false, g) ∷ ps) qs f e = inl e

answer_err : {A Fault : Type 0} (o : Option Fault) (x : A) (f : Fault) → answer o x ≡ Err f → o ≡ Some f
answer_err {A} {Fault} None x f e = cc
answer_err {A} {Fault} (Some g) x f e = ap fault_of e
  where
    fault_of : Result A Fault → Option Fault
    fault_of (Ok y) = Some g
    fault_of (Err h) = Some h

module _ {State Fault : Type 0} (R : Rules State Fault) (st : State) (pre : Handles) (b : Body) (fault : Fault) where
  record FaultIn (ps : List Position) : Type 0 where
    position : Position
    among : Contains ps position
    state : State
    first : first_fault (R.points state (visit_at pre b position)) ≡ Some fault

  fault_in : (ps : List Position) (earlier : List Visit) →
      first_fault (points_after R st earlier (map (visit_at pre b) ps)) ≡ Some fault → FaultIn ps
  fault_in [] earlier e = cc
  fault_in (p ∷ ps) earlier e =
      go (fault_either (R.points (state_after R st earlier) (visit_at pre b p))
      (points_after R st (earlier ++ visit_at pre b p ∷ []) (map (visit_at pre b) ps)) fault e)
      (λ f. fault_in ps (earlier ++ visit_at pre b p ∷ []) f)
    where
      go : (first_fault (R.points (state_after R st earlier) (visit_at pre b p)) ≡ Some fault)
          ⊎ (first_fault (points_after R st (earlier ++ visit_at pre b p ∷ []) (map (visit_at pre b) ps)) ≡ Some fault) →
          (first_fault (points_after R st (earlier ++ visit_at pre b p ∷ []) (map (visit_at pre b) ps)) ≡ Some fault →
          FaultIn ps) → FaultIn (p ∷ ps)
      go (inl here) later =
          record {
            position = p;
            among = (0, omega arith, refl);
            state = state_after R st earlier;
            first = here;
          }
      go (inr behind) later =
          let f = later behind in
          record {
            position = f.position;
            among = Contains-append_right (p ∷ []) ps f.position f.among;
            state = f.state;
            first = f.first;
          }

  fault_at : judgement R st pre b ≡ Err fault → IsFaultAt R pre b fault
  unfolding judgement
  fault_at e =
      let found = fault_in (positions b) [] (answer_err (first_fault (points_after R st [] (visits_of pre b)))
      (state_after R st (visits_of pre b)) fault e) in
      record { position = found.position; listed = found.among; state = found.state; first = found.first }

pub fault_is_of_a_visit : {State Fault : Type 0} (R : Rules State Fault) → FaultIsOfAVisit R
fault_is_of_a_visit R st pre b fault e = fault_at R st pre b fault e
