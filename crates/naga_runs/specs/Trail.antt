-- The trail of a run: what it comes to, in order. A run comes to a statement where it begins it, to a break condition
-- where it reads it. The machine alone says how a statement ends and what is live then; the trail only follows it.
use Rattle.std.specs.Prelude.{ℕ, zero, suc, Bool, true, false, List, Option, Some, None, ◌∷◌, ◌++◌, []}
use Rattle.ir_statements.specs.Tree.{Stmt, Body, Cases, Block, Branch, Switch, Loop, Done, Then, NoCase, OneCase, Leaf, Break, Continue, Return, Kill}
use Rattle.naga_runs.specs.Handles.{Handles}
use Rattle.naga_runs.specs.Machine.{Run, run_stmt, run_body, Next, Continued, Ran}
use Rattle.naga_runs.specs.Positions.{Part, Position, BodyNode, Root, Inner, Accept, Reject, Case, LoopBody, Continuing, Condition, In, StatementNode, BreakIfNode}

-- What stands there, where, the cuts that an event there has, and what is live as the run comes there.
pub record Arrival : Type 0 where
  pub node : BodyNode
  pub position : Position
  pub cuts : List (Option ℕ)
  pub live : Handles

-- a trail, and what follows where the run goes on
abbrev pub where_next : List Arrival → Run → (Handles → List ℕ → List Arrival) → List Arrival
where_next t (Ran es Next i live cs) rest = t ++ rest live cs
where_next t (Ran es o i live cs) rest = t

-- the trail of a body list, and what follows where its turn goes on: it goes on itself, or by Continue
abbrev pub where_turned : List Arrival → Run → (Option ℕ → Handles → List ℕ → List Arrival) → List Arrival
where_turned t (Ran es Next i live cs) rest = t ++ rest None live cs
where_turned t (Ran es Continued i live cs) rest = t ++ rest (Some i) live cs
where_turned t (Ran es o i live cs) rest = t

-- the trail of a case, and what follows where it falls through
abbrev pub where_fallen : List Arrival → Bool → Run → (List ℕ → List Arrival) → List Arrival
where_fallen t true r rest = where_next t r (λ live cs. rest cs)
where_fallen t false r rest = t

-- by a choice; the first at choice 0, else the second
abbrev pub trail_by_choice : List ℕ → (ℕ → List ℕ → List Arrival) → List Arrival
trail_by_choice [] go = []
trail_by_choice (c ∷ cs) go = go c cs

abbrev pub trail_at_zero : ℕ → (List ℕ → List Arrival) → (List ℕ → List Arrival) → List ℕ → List Arrival
trail_at_zero zero a b cs = a cs
trail_at_zero (suc c) a b cs = b cs

-- a break condition, and the next turn unless it ends the Loop
abbrev pub trail_closing : Option ℕ → Position → List (Option ℕ) → Handles → List ℕ → (List ℕ → List Arrival) →
    List Arrival
trail_closing None p cuts live cs again = again cs
trail_closing (Some h) p cuts live cs again =
    record { node = BreakIfNode h; position = p ++ In Condition 0 ∷ []; cuts = cuts; live = live }
    ∷ trail_by_choice cs (λ c rest. trail_at_zero c (λ left_over. []) again rest)

-- the turns of a Loop: its body list, its continuing list, its break condition, each with its run and its trail
abbrev pub trail_turns : ℕ → (List ℕ → Run) → (List ℕ → List Arrival) → (Option ℕ → Handles → List ℕ → Run) →
    (Option ℕ → Handles → List ℕ → List Arrival) → Option ℕ → Position → List (Option ℕ) → List ℕ → List Arrival
trail_turns zero body there continuing behind q p cuts cs = []
trail_turns (suc n) body there continuing behind q p cuts cs =
    where_turned (there cs) (body cs) (λ cut l rest.
    where_next (behind cut l rest) (continuing cut l rest) (λ l' rest'.
    trail_closing q p (cuts ++ cut ∷ []) l' rest' (λ others.
    trail_turns n body there continuing behind q p cuts others)))

-- Inside a statement, along the statements of a list, along the cases of a Switch: each as the machine goes, with the
-- same bound, position, cuts, live handles and choices.
abbrev mutual
  pub trail_stmt : Stmt → ℕ → Position → List (Option ℕ) → Handles → List ℕ → List Arrival
  trail_stmt (Block b) n p cuts live cs = trail_body b n Inner 0 p cuts live cs
  trail_stmt (Branch h a r) n p cuts live cs =
      trail_by_choice cs (λ c rest. trail_at_zero c
      (λ rest. trail_body a n Accept 0 p cuts live rest)
      (λ rest. trail_body r n Reject 0 p cuts live rest) rest)
  trail_stmt (Switch h cases) n p cuts live cs =
      trail_by_choice cs (λ c rest. trail_cases cases n 0 (Some c) p cuts live rest)
  trail_stmt (Loop b c q) n p cuts live cs =
      trail_turns n (λ rest. run_body b n LoopBody 0 p cuts live rest)
      (λ rest. trail_body b n LoopBody 0 p cuts live rest)
      (λ cut l rest. run_body c n Continuing 0 p (cuts ++ cut ∷ []) l rest)
      (λ cut l rest. trail_body c n Continuing 0 p (cuts ++ cut ∷ []) l rest) q p cuts cs
  trail_stmt (Leaf acts statement span) n p cuts live cs = []
  trail_stmt Break n p cuts live cs = []
  trail_stmt Continue n p cuts live cs = []
  trail_stmt (Return v) n p cuts live cs = []
  trail_stmt Kill n p cuts live cs = []

  pub trail_body : Body → ℕ → Part → ℕ → Position → List (Option ℕ) → Handles → List ℕ → List Arrival
  trail_body Done n part i p cuts live cs = []
  trail_body (Then x b) n part i p cuts live cs =
      where_next
      (record { node = StatementNode x; position = p ++ In part i ∷ []; cuts = cuts; live = live }
      ∷ trail_stmt x n (p ++ In part i ∷ []) cuts live cs) (run_stmt x n (p ++ In part i ∷ []) cuts live cs)
      (λ l rest. trail_body b n part (suc i) p cuts l rest)

  pub trail_cases : Cases → ℕ → ℕ → Option ℕ → Position → List (Option ℕ) → Handles → List ℕ → List Arrival
  trail_cases NoCase n k start p cuts live cs = []
  trail_cases (OneCase v falls b more) n k (Some (suc c)) p cuts live cs =
      trail_cases more n (suc k) (Some c) p cuts live cs
  trail_cases (OneCase v falls b more) n k _ p cuts live cs =
      where_fallen (trail_body b n (Case k) 0 p cuts live cs) falls (run_body b n (Case k) 0 p cuts live cs)
      (λ rest. trail_cases more n (suc k) None p cuts live rest)

-- What the run of a body comes to, in order.
abbrev pub trail : Body → Handles → ℕ → List ℕ → List Arrival
trail b pre n cs = trail_body b n Root 0 [] [] pre cs
