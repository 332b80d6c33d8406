-- The machine of runs: what a body records on its way through. A list of choices says each turn that it takes, and a
-- bound how many turns one execution of a Loop may begin. It computes no values and enters no function that is called.
use Rattle.std.specs.Prelude.{ℕ, zero, suc, Bool, true, false, List, Option, Some, None, ◌∷◌, ◌++◌, []}
use Rattle.ir_statements.specs.Tree.{Act, Stmt, Body, Cases, Use, Leaf, Block, Branch, Switch, Loop, Break, Continue, Return, Kill, Done, Then, NoCase, OneCase}
use Rattle.ir_statements.specs.View.{used_if}
use Rattle.naga_runs.specs.Handles.{Handles}
use Rattle.naga_runs.specs.Positions.{Part, Position, condition_node, Root, Inner, Accept, Reject, Case, LoopBody, Continuing, Condition, In}
use Rattle.naga_runs.specs.PutsAndUses.{node_acts, with_acts}

-- A use or a put, as a run records it.
pub record Event : Type 0 where
  pub act : Act
  -- what the statement has done itself so far
  pub done : List Act
  -- what is live before the act
  pub live : Handles
  pub position : Position
  -- for each Loop whose continuing part or break condition holds the position, from outside: the index, in the Loop's
  -- own body list, of the statement by which the present turn left that list with "continue", if it did
  pub cuts : List (Option ℕ)

-- How a list or a statement ends: it goes on; by a Break, a Continue, a Return; the invocation ended by a Kill; the
-- run stopped, since a choice or a turn was wanted and none was left, or no case has the chosen number; it is stuck.
pub data Outcome : Type 0 where
  Next : Outcome
  Broken : Outcome
  Continued : Outcome
  Returned : Outcome
  Ended : Outcome
  Stopped : Outcome
  Stuck : Outcome

-- What was recorded, the outcome, for a list the index of the statement that gave it, what is live after it, and the
-- choices that are left.
pub data Run : Type 0 where
  Ran : (events : List Event) (outcome : Outcome) (index : ℕ) (live : Handles) (choices : List ℕ) → Run

-- the acts of a statement or break condition in order, each put adding to what is live
abbrev pub recorded : List Act → List Act → Handles → Position → List (Option ℕ) → List Event
recorded [] done live p cuts = []
recorded (a ∷ acts) done live p cuts =
    record { act = a; done = done; live = live; position = p; cuts = cuts }
    ∷ recorded acts (done ++ a ∷ []) (with_acts live (a ∷ [])) p cuts

-- a run after these events
abbrev pub after : List Event → Run → Run
after es (Ran fs o i live cs) = Ran (es ++ fs) o i live cs

-- a list that is left: what it added is taken out again
abbrev pub left : Handles → Run → Run
left live (Ran es o i l cs) = Ran es o i live cs

-- takes a choice; where none is left, the run stops
abbrev pub by_choice : Handles → List ℕ → (ℕ → List ℕ → Run) → Run
by_choice live [] go = Ran [] Stopped 0 live []
by_choice live (c ∷ cs) go = go c cs

-- the first at choice 0, else the second
abbrev pub at_zero : ℕ → (List ℕ → Run) → (List ℕ → Run) → List ℕ → Run
at_zero zero a b cs = a cs
at_zero (suc c) a b cs = b cs

-- after the statement at an index of a list: the others if it goes on, else its outcome is the list's
abbrev pub then_rest : ℕ → Run → (Handles → List ℕ → Run) → Run
then_rest i (Ran es Next j live cs) rest = after es (rest live cs)
then_rest i (Ran es o j live cs) rest = Ran es o i live cs

-- after a case that goes on: the next one if it falls through, else the Switch goes on
abbrev pub fallen : Bool → List Event → Handles → List ℕ → (List ℕ → Run) → Run
fallen true es live cs next = after es (next cs)
fallen false es live cs next = Ran es Next 0 live cs

-- after a case, where `live` was live as the Switch began: Break ends the Switch, every other jump passes on
abbrev pub then_case : Bool → Handles → Run → (List ℕ → Run) → Run
then_case falls live (Ran es Next i l cs) next = fallen falls es live cs next
then_case falls live (Ran es Broken i l cs) next = Ran es Next 0 live cs
then_case falls live (Ran es o i l cs) next = Ran es o 0 live cs

-- after a break condition: at choice 0 the Loop ends, else the next turn begins, as it does where there is none
abbrev pub closing : Option ℕ → Handles → List ℕ → (List ℕ → Run) → Run
closing None live cs again = again cs
closing (Some h) live cs again =
    by_choice live cs (λ c rest. at_zero c (λ left_over. Ran [] Next 0 live left_over) again rest)

-- after a continuing list, which comes after a body list that was cut there: the break condition, if it goes on. A Kill
-- passes on; a Break, Continue or Return is stuck
abbrev pub then_close : Option ℕ → Run → Option ℕ → Position → List (Option ℕ) → Handles → (List ℕ → Run) → Run
then_close cut (Ran es Next i l cs) q p cuts live again =
    after es
    (after (recorded (node_acts (condition_node q)) [] l (p ++ In Condition 0 ∷ []) (cuts ++ cut ∷ []))
    (closing q live cs again))
then_close cut (Ran es Ended i l cs) q p cuts live again = Ran es Ended 0 live cs
then_close cut (Ran es Stopped i l cs) q p cuts live again = Ran es Stopped 0 live cs
then_close cut (Ran es o i l cs) q p cuts live again = Ran es Stuck 0 live cs

-- after a body list, where `live` was live as the Loop began: the continuing list, with what the body list has put so
-- far, if it goes on or by Continue. Break ends the Loop, every other jump passes on
abbrev pub turn : Run → (Option ℕ → Handles → List ℕ → Run) → Option ℕ → Position → List (Option ℕ) → Handles →
    (List ℕ → Run) → Run
turn (Ran es Next i l cs) continuing q p cuts live again =
    after es (then_close None (continuing None l cs) q p cuts live again)
turn (Ran es Continued i l cs) continuing q p cuts live again =
    after es (then_close (Some i) (continuing (Some i) l cs) q p cuts live again)
turn (Ran es Broken i l cs) continuing q p cuts live again = Ran es Next 0 live cs
turn (Ran es o i l cs) continuing q p cuts live again = Ran es o 0 live cs

-- the turns of a Loop, of which so many may begin; where one more would begin, the run stops
abbrev pub turns : ℕ → (List ℕ → Run) → (Option ℕ → Handles → List ℕ → Run) → Option ℕ → Position →
    List (Option ℕ) → Handles → List ℕ → Run
turns zero body continuing q p cuts live cs = Ran [] Stopped 0 live cs
turns (suc n) body continuing q p cuts live cs =
    turn (body cs) continuing q p cuts live (λ rest. turns n body continuing q p cuts live rest)

-- A statement at a position, the statements of a list from an index on, and the cases of a Switch from case k on. Of
-- the cases `start` is how many come before the one to begin with, or None where the case before fell through. An If
-- takes choice 0 to accept, a Kill takes choice 0 to end the invocation, a Switch takes the number of a case.
abbrev mutual
  pub run_stmt : Stmt → ℕ → Position → List (Option ℕ) → Handles → List ℕ → Run
  run_stmt (Leaf acts x span) n p cuts live cs = Ran (recorded acts [] live p cuts) Next 0 (with_acts live acts) cs
  run_stmt (Block b) n p cuts live cs = left live (run_body b n Inner 0 p cuts live cs)
  run_stmt (Branch h a r) n p cuts live cs =
      after (recorded (Use h ∷ []) [] live p cuts)
      (by_choice live cs (λ c rest. at_zero c
      (λ rest. left live (run_body a n Accept 0 p cuts live rest))
      (λ rest. left live (run_body r n Reject 0 p cuts live rest)) rest))
  run_stmt (Switch h cases) n p cuts live cs =
      after (recorded (Use h ∷ []) [] live p cuts)
      (by_choice live cs (λ c rest. run_cases cases n 0 (Some c) p cuts live rest))
  run_stmt (Loop b c q) n p cuts live cs =
      turns n (λ rest. run_body b n LoopBody 0 p cuts live rest)
      (λ cut l rest. run_body c n Continuing 0 p (cuts ++ cut ∷ []) l rest) q p cuts live cs
  run_stmt Break n p cuts live cs = Ran [] Broken 0 live cs
  run_stmt Continue n p cuts live cs = Ran [] Continued 0 live cs
  run_stmt (Return v) n p cuts live cs = Ran (recorded (used_if v) [] live p cuts) Returned 0 live cs
  run_stmt Kill n p cuts live cs =
      by_choice live cs (λ c rest. at_zero c (λ rest. Ran [] Ended 0 live rest) (λ rest. Ran [] Next 0 live rest) rest)

  pub run_body : Body → ℕ → Part → ℕ → Position → List (Option ℕ) → Handles → List ℕ → Run
  run_body Done n part i p cuts live cs = Ran [] Next i live cs
  run_body (Then x b) n part i p cuts live cs =
      then_rest i (run_stmt x n (p ++ In part i ∷ []) cuts live cs)
      (λ l rest. run_body b n part (suc i) p cuts l rest)

  pub run_cases : Cases → ℕ → ℕ → Option ℕ → Position → List (Option ℕ) → Handles → List ℕ → Run
  run_cases NoCase n k None p cuts live cs = Ran [] Next 0 live cs
  run_cases NoCase n k (Some c) p cuts live cs = Ran [] Stopped 0 live cs
  run_cases (OneCase v falls b more) n k (Some (suc c)) p cuts live cs =
      run_cases more n (suc k) (Some c) p cuts live cs
  run_cases (OneCase v falls b more) n k _ p cuts live cs =
      then_case falls live (run_body b n (Case k) 0 p cuts live cs)
      (λ rest. run_cases more n (suc k) None p cuts live rest)

-- a whole body, which no Break and no Continue may leave
abbrev pub whole : Run → Run
whole (Ran es Broken i live cs) = Ran es Stuck i live cs
whole (Ran es Continued i live cs) = Ran es Stuck i live cs
whole (Ran es o i live cs) = Ran es o i live cs

-- A run of a body, with the handles `pre` live at first, at most n turns in each execution of a Loop, and these
-- choices.
abbrev pub run : Body → Handles → ℕ → List ℕ → Run
run b pre n cs = whole (run_body b n Root 0 [] [] pre cs)

abbrev pub events_of : Run → List Event
events_of (Ran es o i live cs) = es

abbrev pub outcome_of : Run → Outcome
outcome_of (Ran es o i live cs) = o
