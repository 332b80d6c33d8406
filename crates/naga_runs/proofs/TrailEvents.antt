-- The events of a run are the acts of what it comes to, in order.
use Rattle.std.proofs.lemmas.List.Concat.{flat_map-append}
use Rattle.std.specs.Prelude.{ℕ, zero, suc, Bool, true, false, List, Option, Some, None, flat_map, ◌≡◌, ◌∷◌, ◌++◌, []}
use Rattle.std.proofs.Common.{refl, sym, ap, append-nil, ◌∙◌}
use Rattle.ir_statements.specs.Tree.{Stmt, Body, Cases, Use, Leaf, Block, Branch, Switch, Loop, Break, Continue, Return, Kill, Done, Then, NoCase, OneCase}
use Rattle.ir_statements.specs.View.{used_if}
use Rattle.naga_runs.specs.Handles.{Handles}
use Rattle.naga_runs.specs.Machine.{Event, Run, recorded, after, left, by_choice, at_zero, then_rest, then_case, closing, then_close, turn, turns, run_stmt, run_body, run_cases, whole, run, events_of, Next, Broken, Continued, Returned, Ended, Stopped, Stuck, Ran}
use Rattle.naga_runs.specs.Positions.{Part, Position, condition_node, Root, Inner, Accept, Reject, Case, LoopBody, Continuing, Condition, In, StatementNode}
use Rattle.naga_runs.specs.PutsAndUses.{node_acts}
use Rattle.naga_runs.specs.Trail.{Arrival, where_next, where_turned, where_fallen, trail_by_choice, trail_at_zero, trail_closing, trail_turns, trail_stmt, trail_body, trail_cases, trail}

abbrev pub events_at : Arrival → List Event
events_at a = recorded (node_acts a.node) [] a.live a.position a.cuts

abbrev events_along : List Arrival → List Event
events_along t = flat_map events_at t

events_both : (t u : List Arrival) → events_along (t ++ u) ≡ events_along t ++ events_along u
events_both t u = flat_map-append events_at t u

record Records (r : Run) (t : List Arrival) : Type 0 where
  events : events_of r ≡ events_along t

records_left : (live : Handles) (r : Run) (t : List Arrival) → Records r t → Records (left live r) t
records_left live (Ran es o i l cs) t e = record { events = e.events }

after_events : (es : List Event) (r : Run) → events_of (after es r) ≡ es ++ events_of r
after_events es (Ran fs o i l cs) = refl

-- a run after another
records_after : (es : List Event) (r : Run) (t u : List Arrival) → es ≡ events_along t → Records r u →
    Records (after es r) (t ++ u)
records_after es r t u e f =
    record {
      events = after_events es r
          ∙ (ap (λ es. es ++ events_of r) e ∙ (ap (λ fs. events_along t ++ fs) f.events ∙ sym (events_both t u)));
    }

records_then : (i : ℕ) (r : Run) (t : List Arrival) (rest : Handles → List ℕ → Run)
    (there : Handles → List ℕ → List Arrival) → Records r t →
    ((l : Handles) (cs : List ℕ) → Records (rest l cs) (there l cs)) → Records (then_rest i r rest) (where_next t r there)
records_then i (Ran es Next j l cs) t rest there e f = records_after es (rest l cs) t (there l cs) e.events (f l cs)
records_then i (Ran es Broken j l cs) t rest there e f = record { events = e.events }
records_then i (Ran es Continued j l cs) t rest there e f = record { events = e.events }
records_then i (Ran es Returned j l cs) t rest there e f = record { events = e.events }
records_then i (Ran es Ended j l cs) t rest there e f = record { events = e.events }
records_then i (Ran es Stopped j l cs) t rest there e f = record { events = e.events }
records_then i (Ran es Stuck j l cs) t rest there e f = record { events = e.events }

records_case : (falls : Bool) (live : Handles) (r : Run) (t : List Arrival) (next : List ℕ → Run)
    (there : List ℕ → List Arrival) → Records r t → ((cs : List ℕ) → Records (next cs) (there cs)) →
    Records (then_case falls live r next) (where_fallen t falls r there)
records_case true live (Ran es Next j l cs) t next there e f = records_after es (next cs) t (there cs) e.events (f cs)
records_case true live (Ran es Broken j l cs) t next there e f = record { events = e.events }
records_case true live (Ran es o j l cs) t next there e f = record { events = e.events }
records_case false live (Ran es Next j l cs) t next there e f = record { events = e.events }
records_case false live (Ran es Broken j l cs) t next there e f = record { events = e.events }
records_case false live (Ran es o j l cs) t next there e f = record { events = e.events }

records_choice : (live : Handles) (cs : List ℕ) (go : ℕ → List ℕ → Run) (there : ℕ → List ℕ → List Arrival) →
    ((c : ℕ) (rest : List ℕ) → Records (go c rest) (there c rest)) →
    Records (by_choice live cs go) (trail_by_choice cs there)
records_choice live [] go there f = record { events = refl }
records_choice live (c ∷ cs) go there f = f c cs

records_zero : (c : ℕ) (a b : List ℕ → Run) (t u : List ℕ → List Arrival) (cs : List ℕ) →
    ((cs : List ℕ) → Records (a cs) (t cs)) → ((cs : List ℕ) → Records (b cs) (u cs)) →
    Records (at_zero c a b cs) (trail_at_zero c t u cs)
records_zero zero a b t u cs f g = f cs
records_zero (suc c) a b t u cs f g = g cs

-- a statement that does nothing itself in front
records_quiet : (r : Run) (a : Arrival) (t : List Arrival) → [] ≡ events_at a → Records r t → Records r (a ∷ t)
records_quiet r a t e f = record { events = f.events ∙ ap (λ es. es ++ events_along t) e }

-- a statement with its own acts in front
records_own : (acts : List Event) (r : Run) (a : Arrival) (t : List Arrival) → acts ≡ events_at a → Records r t →
    Records (after acts r) (a ∷ t)
records_own acts r a t e f =
    record {
      events = after_events acts r ∙ (ap (λ es. es ++ events_of r) e ∙ ap (λ fs. events_at a ++ fs) f.events);
    }

module _ (n : ℕ) where
  -- the turns of a Loop
  module _ (p : Position) (cuts : List (Option ℕ)) (live : Handles) where
    records_closing : (q cut : Option ℕ) (l : Handles) (cs : List ℕ) (again : List ℕ → Run)
        (there : List ℕ → List Arrival) → ((cs : List ℕ) → Records (again cs) (there cs)) →
        Records (after (recorded (node_acts (condition_node q)) [] l (p ++ In Condition 0 ∷ []) (cuts ++ cut ∷ []))
        (closing q live cs again)) (trail_closing q p (cuts ++ cut ∷ []) l cs there)
    records_closing None cut l cs again there f = record { events = after_events [] (again cs) ∙ (f cs).events }
    records_closing (Some h) cut l cs again there f =
        records_own (recorded (Use h ∷ []) [] l (p ++ In Condition 0 ∷ []) (cuts ++ cut ∷ [])) _ _ _ refl
        (records_choice live cs _ _ (λ k rest. records_zero k _ again (λ over. []) there rest
        (λ over. record { events = refl }) f))

    records_close : (q cut : Option ℕ) (r : Run) (t : List Arrival) (again : List ℕ → Run)
        (there : List ℕ → List Arrival) → Records r t → ((cs : List ℕ) → Records (again cs) (there cs)) →
        Records (then_close cut r q p cuts live again)
        (where_next t r (λ l rest. trail_closing q p (cuts ++ cut ∷ []) l rest there))
    records_close q cut (Ran es Next i l cs) t again there e f =
        records_after es _ t _ e.events (records_closing q cut l cs again there f)
    records_close q cut (Ran es Broken i l cs) t again there e f = record { events = e.events }
    records_close q cut (Ran es Continued i l cs) t again there e f = record { events = e.events }
    records_close q cut (Ran es Returned i l cs) t again there e f = record { events = e.events }
    records_close q cut (Ran es Ended i l cs) t again there e f = record { events = e.events }
    records_close q cut (Ran es Stopped i l cs) t again there e f = record { events = e.events }
    records_close q cut (Ran es Stuck i l cs) t again there e f = record { events = e.events }

    module _ (q : Option ℕ) (continuing : Option ℕ → Handles → List ℕ → Run)
        (behind : Option ℕ → Handles → List ℕ → List Arrival)
        (records : (cut : Option ℕ) (l : Handles) (cs : List ℕ) → Records (continuing cut l cs) (behind cut l cs)) where
      records_turn : (r : Run) (t : List Arrival) (again : List ℕ → Run) (there : List ℕ → List Arrival) → Records r t →
          ((cs : List ℕ) → Records (again cs) (there cs)) →
          Records (turn r continuing q p cuts live again)
          (where_turned t r (λ cut l rest. where_next (behind cut l rest) (continuing cut l rest)
          (λ l' rest'. trail_closing q p (cuts ++ cut ∷ []) l' rest' there)))
      records_turn (Ran es Next i l cs) t again there e f =
          records_after es _ t _ e.events
          (records_close q None (continuing None l cs) (behind None l cs) again there (records None l cs) f)
      records_turn (Ran es Continued i l cs) t again there e f =
          records_after es _ t _ e.events
          (records_close q (Some i) (continuing (Some i) l cs) (behind (Some i) l cs) again there (records (Some i) l cs) f)
      records_turn (Ran es Broken i l cs) t again there e f = record { events = e.events }
      records_turn (Ran es Returned i l cs) t again there e f = record { events = e.events }
      records_turn (Ran es Ended i l cs) t again there e f = record { events = e.events }
      records_turn (Ran es Stopped i l cs) t again there e f = record { events = e.events }
      records_turn (Ran es Stuck i l cs) t again there e f = record { events = e.events }

      records_turns : (m : ℕ) (body : List ℕ → Run) (there : List ℕ → List Arrival) →
          ((cs : List ℕ) → Records (body cs) (there cs)) → (cs : List ℕ) →
          Records (turns m body continuing q p cuts live cs) (trail_turns m body there continuing behind q p cuts cs)
      records_turns zero body there f cs = record { events = refl }
      records_turns (suc m) body there f cs =
          records_turn (body cs) (there cs) _ _ (f cs) (λ rest. records_turns m body there f rest)

  kill_records : (live : Handles) (cs : List ℕ) →
      Records (by_choice live cs (λ c rest. at_zero c (λ rest. Ran [] Ended 0 live rest)
      (λ rest. Ran [] Next 0 live rest) rest)) []
  kill_records live [] = record { events = refl }
  kill_records live (zero ∷ cs) = record { events = refl }
  kill_records live (suc c ∷ cs) = record { events = refl }

  abbrev here : Stmt → Position → List (Option ℕ) → Handles → Arrival
  here x p cuts live = record { node = StatementNode x; position = p; cuts = cuts; live = live }

  mutual
    stmt_records : (x : Stmt) (p : Position) (cuts : List (Option ℕ)) (live : Handles) (cs : List ℕ) →
        Records (run_stmt x n p cuts live cs) (here x p cuts live ∷ trail_stmt x n p cuts live cs)
    stmt_records (Leaf acts x' sp) p cuts live cs =
        record { events = sym (append-nil (recorded acts [] live p cuts)) }
    stmt_records (Block b) p cuts live cs =
        records_quiet _ _ _ refl
        (records_left live (run_body b n Inner 0 p cuts live cs) _ (body_records b Inner 0 p cuts live cs))
    stmt_records (Branch h a r) p cuts live cs =
        records_own (recorded (Use h ∷ []) [] live p cuts) _ _ _ refl
        (records_choice live cs _ _ (λ c rest. records_zero c _ _ _ _ rest
        (λ rest. records_left live (run_body a n Accept 0 p cuts live rest) _ (body_records a Accept 0 p cuts live rest))
        (λ rest. records_left live (run_body r n Reject 0 p cuts live rest) _ (body_records r Reject 0 p cuts live rest))))
    stmt_records (Switch h cases) p cuts live cs =
        records_own (recorded (Use h ∷ []) [] live p cuts) _ _ _ refl
        (records_choice live cs _ _ (λ c rest. cases_record cases 0 (Some c) p cuts live rest))
    stmt_records (Loop b c q) p cuts live cs =
        records_quiet _ _ _ refl (records_turns p cuts live q
        (λ cut l rest. run_body c n Continuing 0 p (cuts ++ cut ∷ []) l rest)
        (λ cut l rest. trail_body c n Continuing 0 p (cuts ++ cut ∷ []) l rest)
        (λ cut l rest. body_records c Continuing 0 p (cuts ++ cut ∷ []) l rest) n
        (λ rest. run_body b n LoopBody 0 p cuts live rest) (λ rest. trail_body b n LoopBody 0 p cuts live rest)
        (λ rest. body_records b LoopBody 0 p cuts live rest) cs)
    stmt_records Break p cuts live cs = record { events = refl }
    stmt_records Continue p cuts live cs = record { events = refl }
    stmt_records (Return v) p cuts live cs =
        record { events = sym (append-nil (recorded (used_if v) [] live p cuts)) }
    stmt_records Kill p cuts live cs = records_quiet _ _ _ refl (kill_records live cs)

    body_records : (b : Body) (part : Part) (i : ℕ) (p : Position) (cuts : List (Option ℕ)) (live : Handles)
        (cs : List ℕ) → Records (run_body b n part i p cuts live cs) (trail_body b n part i p cuts live cs)
    body_records Done part i p cuts live cs = record { events = refl }
    body_records (Then x b) part i p cuts live cs =
        records_then i (run_stmt x n (p ++ In part i ∷ []) cuts live cs) _ _ _
        (stmt_records x (p ++ In part i ∷ []) cuts live cs)
        (λ l rest. body_records b part (suc i) p cuts l rest)

    cases_record : (cases : Cases) (k : ℕ) (start : Option ℕ) (p : Position) (cuts : List (Option ℕ)) (live : Handles)
        (cs : List ℕ) → Records (run_cases cases n k start p cuts live cs) (trail_cases cases n k start p cuts live cs)
    cases_record NoCase k None p cuts live cs = record { events = refl }
    cases_record NoCase k (Some c) p cuts live cs = record { events = refl }
    cases_record (OneCase v falls b more) k (Some (suc c)) p cuts live cs =
        cases_record more (suc k) (Some c) p cuts live cs
    cases_record (OneCase v falls b more) k (Some zero) p cuts live cs =
        records_case falls live (run_body b n (Case k) 0 p cuts live cs) _ _ _ (body_records b (Case k) 0 p cuts live cs)
        (λ rest. cases_record more (suc k) None p cuts live rest)
    cases_record (OneCase v falls b more) k None p cuts live cs =
        records_case falls live (run_body b n (Case k) 0 p cuts live cs) _ _ _ (body_records b (Case k) 0 p cuts live cs)
        (λ rest. cases_record more (suc k) None p cuts live rest)

whole_records : (r : Run) (t : List Arrival) → Records r t → Records (whole r) t
whole_records (Ran es Broken i l cs) t e = record { events = e.events }
whole_records (Ran es Continued i l cs) t e = record { events = e.events }
whole_records (Ran es o i l cs) t e = record { events = e.events }

pub run_records : (pre : Handles) (b : Body) (n : ℕ) (cs : List ℕ) →
    events_of (run b pre n cs) ≡ flat_map events_at (trail b pre n cs)
run_records pre b n cs =
    (whole_records (run_body b n Root 0 [] [] pre cs) (trail b pre n cs) (body_records n b Root 0 [] [] pre cs)).events
