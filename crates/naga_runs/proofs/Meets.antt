-- Where the tree says that a position may be come to, a run comes to it.
use Rattle.std.specs.Prelude.{ℕ, zero, suc, Bool, true, false, List, Option, Some, None, ◌≡◌, ◌⊎◌, ◌∷◌, ◌++◌, ◌&&◌, [], ◌+◌, ◌≤◌}
use Rattle.std.proofs.Common.{refl, sym, ap, subst, arith, append_assoc, inl, inr, ◌∙◌}
use Rattle.ir_statements.specs.Tree.{Stmt, Body, Cases, Leaf, Block, Branch, Switch, Loop, Break, Continue, Return, Kill, Done, Then, NoCase, OneCase}
use Rattle.ir_statements.specs.declared.operations.SwitchValue.{SwitchValue}
use Rattle.naga_runs.specs.DeadCode.{goes_on, list_goes_on, turn_goes_on, earlier_go_on, may_come}
use Rattle.naga_runs.specs.Handles.{Handles}
use Rattle.naga_runs.specs.Machine.{Outcome, Run, run_stmt, run_body, Next, Continued, Ran}
use Rattle.naga_runs.specs.Positions.{Part, Position, BodyNode, case_at, list_below, condition_node, node_at, Root, Inner, Accept, Reject, Case, LoopBody, Continuing, Condition, In, NoNode, StatementNode}
use Rattle.naga_runs.specs.PutsAndUses.{with_body}
use Rattle.naga_runs.specs.Scope.{with_lists, known_at}
use Rattle.naga_runs.specs.Trail.{Arrival, where_next, where_turned, where_fallen, trail_closing, trail_turns, trail_stmt, trail_body, trail_cases}
use Rattle.naga_runs.proofs.Bools.{and_both, and_first, and_second}
use Rattle.naga_runs.proofs.Contexts.{node_in}
use Rattle.naga_runs.proofs.EveryPosition.{node_none}
use Rattle.naga_runs.proofs.Settings.{may_come_in}
use Rattle.naga_runs.proofs.Ways.{Gives, StmtWay, ListWay, TurnWay, ByNext, ByContinue, no_bound, past, with_turn, stmt_goes, list_goes, turn_way}

-- one of a trail
abbrev pub Found : (Arrival → Type 0) → List Arrival → Type 0
Found P [] = ⊥
Found P (a ∷ t) = P a ⊎ Found P t

module _ (P : Arrival → Type 0) where
  pub found_left : (t u : List Arrival) → Found P t → Found P (t ++ u)
  found_left [] u f = absurd f
  found_left (a ∷ t) u (inl p) = inl p
  found_left (a ∷ t) u (inr f) = inr (found_left t u f)

  pub found_right : (t u : List Arrival) → Found P u → Found P (t ++ u)
  found_right [] u f = f
  found_right (a ∷ t) u f = inr (found_right t u f)

  found_next_left : (t : List Arrival) (r : Run) (rest : Handles → List ℕ → List Arrival) → Found P t →
      Found P (where_next t r rest)
  found_next_left t (Ran es Next i live cs) rest f = found_left t (rest live cs) f
  found_next_left t (Ran es o i live cs) rest f = f

  found_next : (t : List Arrival) (r : Run) (rest : Handles → List ℕ → List Arrival) (live : Handles) (cs : List ℕ) →
      Gives Next live cs r → Found P (rest live cs) → Found P (where_next t r rest)
  found_next t r rest live cs g f =
      subst (λ r. Found P (where_next t r rest)) (sym g.is) (found_right t (rest live cs) f)

  found_turned_left : (t : List Arrival) (r : Run) (rest : Option ℕ → Handles → List ℕ → List Arrival) → Found P t →
      Found P (where_turned t r rest)
  found_turned_left t (Ran es Next i live cs) rest f = found_left t _ f
  found_turned_left t (Ran es Continued i live cs) rest f = found_left t _ f
  found_turned_left t (Ran es o i live cs) rest f = f

  found_turned_next : (t : List Arrival) (r : Run) (rest : Option ℕ → Handles → List ℕ → List Arrival)
      (live : Handles) (cs : List ℕ) → Gives Next live cs r → Found P (rest None live cs) →
      Found P (where_turned t r rest)
  found_turned_next t r rest live cs g f =
      subst (λ r. Found P (where_turned t r rest)) (sym g.is) (found_right t (rest None live cs) f)

  found_turned_cut : (t : List Arrival) (r : Run) (rest : Option ℕ → Handles → List ℕ → List Arrival)
      (live : Handles) (cs : List ℕ) (g : Gives Continued live cs r) → Found P (rest (Some g.index) live cs) →
      Found P (where_turned t r rest)
  found_turned_cut t r rest live cs g f =
      subst (λ r. Found P (where_turned t r rest)) (sym g.is) (found_right t (rest (Some g.index) live cs) f)

abbrev pub turn_in : Stmt → Handles → Position → Handles
turn_in x s p = known_at with_turn (with_lists with_turn s (Some x) p) (list_below (Some x) p) p

lists_here : (x : Stmt) (s : Handles) → with_lists with_turn s (Some x) [] ≡ s
lists_here (Leaf acts x' span) s = refl
lists_here (Block b) s = refl
lists_here (Branch h a r) s = refl
lists_here (Switch h cs) s = refl
lists_here (Loop b c q) s = refl
lists_here Break s = refl
lists_here Continue s = refl
lists_here (Return v) s = refl
lists_here Kill s = refl

-- an arrival there, with these handles live
pub record Arrives (p : Position) (live : Handles) (a : Arrival) : Type 0 where
  pub there : a.position ≡ p
  pub lives : a.live ≡ live

pub record StmtMeets (x : Stmt) (r : Position) : Type 0 where
  pub bound : ℕ
  pub used : List ℕ
  pub meets : (n : ℕ) → bound ≤ n → (p : Position) (cuts : List (Option ℕ)) (live : Handles) (rest : List ℕ) →
      Found (Arrives (p ++ r) (turn_in x live r)) (trail_stmt x n p cuts live (used ++ rest))

pub record ListMeets (b : Body) (j : ℕ) (r : Position) : Type 0 where
  pub bound : ℕ
  pub used : List ℕ
  pub meets : (n : ℕ) → bound ≤ n → (part : Part) (i : ℕ) (p : Position) (cuts : List (Option ℕ)) (live : Handles)
      (rest : List ℕ) →
      Found (Arrives (p ++ In part (i + j) ∷ r) (known_at with_turn live b (In Root j ∷ r)))
      (trail_body b n part i p cuts live (used ++ rest))

pub record CasesMeet (cases : Cases) (m j : ℕ) (r : Position) : Type 0 where
  pub bound : ℕ
  pub start : ℕ
  pub used : List ℕ
  pub meets : (n : ℕ) → bound ≤ n → (k : ℕ) (p : Position) (cuts : List (Option ℕ)) (live : Handles)
      (rest : List ℕ) →
      Found (Arrives (p ++ In (Case (k + m)) j ∷ r) (known_at with_turn live (case_at cases m) (In Root j ∷ r)))
      (trail_cases cases n k (Some start) p cuts live (used ++ rest))

pub moved : (p q : Position) (l : Handles) (t : List Arrival) → p ≡ q → Found (Arrives p l) t → Found (Arrives q l) t
moved p q l t e f = subst (λ p. Found (Arrives p l) t) e f

-- a list whose first index is 0
at_start : (p : Position) (part : Part) (j : ℕ) (r : Position) (l : Handles) (t : List Arrival) →
    Found (Arrives (p ++ In part (0 + j) ∷ r) l) t → Found (Arrives (p ++ In part j ∷ r) l) t
at_start p part j r l t f =
    let e : 0 + j ≡ j = omega arith in moved _ _ l t (ap (λ m. p ++ In part m ∷ r) e) f

-- in a list: at its first statement, or behind it
module _ (P : Arrival → Type 0) (x : Stmt) (b : Body) (n : ℕ) (part : Part) (i : ℕ) (p : Position)
    (cuts : List (Option ℕ)) (live : Handles) (cs : List ℕ) where
  abbrev trail_first : List Arrival
  trail_first =
      record { node = StatementNode x; position = p ++ In part i ∷ []; cuts = cuts; live = live }
      ∷ trail_stmt x n (p ++ In part i ∷ []) cuts live cs

  in_first : Found P trail_first → Found P (trail_body (Then x b) n part i p cuts live cs)
  in_first f =
      found_next_left P trail_first (run_stmt x n (p ++ In part i ∷ []) cuts live cs)
      (λ l rest. trail_body b n part (suc i) p cuts l rest) f

  in_others : (l : Handles) (rest : List ℕ) → Gives Next l rest (run_stmt x n (p ++ In part i ∷ []) cuts live cs) →
      Found P (trail_body b n part (suc i) p cuts l rest) → Found P (trail_body (Then x b) n part i p cuts live cs)
  in_others l rest g f =
      found_next P trail_first (run_stmt x n (p ++ In part i ∷ []) cuts live cs)
      (λ l rest. trail_body b n part (suc i) p cuts l rest) l rest g f

-- the first statement of a list
first_met : (x : Stmt) (b : Body) → ListMeets (Then x b) 0 []
first_met x b =
    record {
      bound = 0;
      used = [];
      meets = λ n le part i p cuts live rest. let e : i ≡ i + 0 = omega arith in
          in_first (Arrives (p ++ In part (i + 0) ∷ []) (known_at with_turn live (Then x b) (In Root 0 ∷ [])))
          x b n part i p cuts live rest (inl (record {
            there = ap (λ m. p ++ In part m ∷ []) e;
            lives = sym (lists_here x live);
          }));
    }

-- what lies in it
inside_met : (x : Stmt) (b : Body) (part' : Part) (k : ℕ) (r : Position) → StmtMeets x (In part' k ∷ r) →
    ListMeets (Then x b) 0 (In part' k ∷ r)
inside_met x b part' k r w =
    record {
      bound = w.bound;
      used = w.used;
      meets = λ n le part i p cuts live rest.
          let e : i ≡ i + 0 = omega arith in
          in_first (Arrives (p ++ In part (i + 0) ∷ In part' k ∷ r)
          (known_at with_turn live (Then x b) (In Root 0 ∷ In part' k ∷ r)))
          x b n part i p cuts live (w.used ++ rest) (inr
          (moved _ _ _ _
          (append_assoc p (In part i ∷ []) (In part' k ∷ r) ∙ ap (λ m. p ++ In part m ∷ In part' k ∷ r) e)
          (w.meets n le (p ++ In part i ∷ []) cuts live rest)));
    }

-- what comes after it
later_met : (x : Stmt) (b : Body) (j : ℕ) (r : Position) → StmtWay x Next (past x) → ListMeets b j r →
    ListMeets (Then x b) (suc j) r
later_met x b j r v w =
    record {
      bound = v.bound + w.bound;
      used = v.used ++ w.used;
      meets = λ n le part i p cuts live rest.
          let e : suc i + j ≡ i + suc j = omega arith in
          subst (λ cs. Found (Arrives (p ++ In part (i + suc j) ∷ r)
          (known_at with_turn live (Then x b) (In Root (suc j) ∷ r))) (trail_body (Then x b) n part i p cuts live cs))
          (sym (append_assoc v.used w.used rest))
          (in_others (Arrives (p ++ In part (i + suc j) ∷ r)
          (known_at with_turn live (Then x b) (In Root (suc j) ∷ r)))
          x b n part i p cuts live (v.used ++ (w.used ++ rest))
          (past x live) (w.used ++ rest)
          (v.runs n (omega (arith, le)) (p ++ In part i ∷ []) cuts live (w.used ++ rest))
          (moved _ _ _ _ (ap (λ m. p ++ In part m ∷ r) e)
          (w.meets n (omega (arith, le)) part (suc i) p cuts (past x live) rest)));
    }

-- the lists of a statement
block_met : (b : Body) (j : ℕ) (r : Position) → ListMeets b j r → StmtMeets (Block b) (In Inner j ∷ r)
block_met b j r w =
    record {
      bound = w.bound;
      used = w.used;
      meets = λ n le p cuts live rest. at_start p Inner j r _ _ (w.meets n le Inner 0 p cuts live rest);
    }

accept_met : (h : ℕ) (a c : Body) (j : ℕ) (r : Position) → ListMeets a j r →
    StmtMeets (Branch h a c) (In Accept j ∷ r)
accept_met h a c j r w =
    record {
      bound = w.bound;
      used = 0 ∷ w.used;
      meets = λ n le p cuts live rest. at_start p Accept j r _ _ (w.meets n le Accept 0 p cuts live rest);
    }

reject_met : (h : ℕ) (a c : Body) (j : ℕ) (r : Position) → ListMeets c j r →
    StmtMeets (Branch h a c) (In Reject j ∷ r)
reject_met h a c j r w =
    record {
      bound = w.bound;
      used = 1 ∷ w.used;
      meets = λ n le p cuts live rest. at_start p Reject j r _ _ (w.meets n le Reject 0 p cuts live rest);
    }

switch_met : (h : ℕ) (cases : Cases) (m j : ℕ) (r : Position) → CasesMeet cases m j r →
    StmtMeets (Switch h cases) (In (Case m) j ∷ r)
switch_met h cases m j r w =
    record {
      bound = w.bound;
      used = w.start ∷ w.used;
      meets = λ n le p cuts live rest. let e : 0 + m ≡ m = omega arith in
          moved _ _ _ _ (ap (λ k. p ++ In (Case k) j ∷ r) e) (w.meets n le 0 p cuts live rest);
    }

found_fallen : (P : Arrival → Type 0) (t : List Arrival) (falls : Bool) (r : Run) (rest : List ℕ → List Arrival) →
    Found P t → Found P (where_fallen t falls r rest)
found_fallen P t true r rest f = found_next_left P t r (λ live cs. rest cs) f
found_fallen P t false r rest f = f

case_met : (v : SwitchValue) (falls : Bool) (b : Body) (more : Cases) (j : ℕ) (r : Position) → ListMeets b j r →
    CasesMeet (OneCase v falls b more) 0 j r
case_met v falls b more j r w =
    record {
      bound = w.bound;
      start = 0;
      used = w.used;
      meets = λ n le k p cuts live rest. let e : k ≡ k + 0 = omega arith in
          found_fallen (Arrives (p ++ In (Case (k + 0)) j ∷ r) (known_at with_turn live b (In Root j ∷ r)))
          (trail_body b n (Case k) 0 p cuts live (w.used ++ rest)) falls
          (run_body b n (Case k) 0 p cuts live (w.used ++ rest))
          (λ rest. trail_cases more n (suc k) None p cuts live rest)
          (moved _ _ _ _ (ap (λ k. p ++ In (Case k) j ∷ r) e)
          (at_start p (Case k) j r _ _ (w.meets n le (Case k) 0 p cuts live rest)));
    }

later_case_met : (v : SwitchValue) (falls : Bool) (b : Body) (more : Cases) (m j : ℕ) (r : Position) →
    CasesMeet more m j r → CasesMeet (OneCase v falls b more) (suc m) j r
later_case_met v falls b more m j r w =
    record {
      bound = w.bound;
      start = suc w.start;
      used = w.used;
      meets = λ n le k p cuts live rest.
          let e : suc k + m ≡ k + suc m = omega arith in
          moved _ _ _ _ (ap (λ k. p ++ In (Case k) j ∷ r) e) (w.meets n le (suc k) p cuts live rest);
    }

-- the turns of a Loop
module _ (b c : Body) (q : Option ℕ) where
  abbrev next_trail : ℕ → ℕ → Position → List (Option ℕ) → Handles → List ℕ → List Arrival
  next_trail m n p cuts live cs =
      trail_turns m (λ rest. run_body b n LoopBody 0 p cuts live rest)
      (λ rest. trail_body b n LoopBody 0 p cuts live rest)
      (λ cut l rest. run_body c n Continuing 0 p (cuts ++ cut ∷ []) l rest)
      (λ cut l rest. trail_body c n Continuing 0 p (cuts ++ cut ∷ []) l rest) q p cuts cs

  abbrev behind_trail : ℕ → ℕ → Position → List (Option ℕ) → Handles → Option ℕ → Handles → List ℕ → List Arrival
  behind_trail m n p cuts live cut l rest =
      where_next (trail_body c n Continuing 0 p (cuts ++ cut ∷ []) l rest)
      (run_body c n Continuing 0 p (cuts ++ cut ∷ []) l rest)
      (λ l' rest'. trail_closing q p (cuts ++ cut ∷ []) l' rest' (next_trail m n p cuts live))

  body_met : (j : ℕ) (r : Position) → ListMeets b j r → StmtMeets (Loop b c q) (In LoopBody j ∷ r)
  body_met j r w =
      record { bound = suc w.bound; used = w.used; meets = λ n le p cuts live rest. go n le p cuts live rest }
    where
      go : (n : ℕ) → suc w.bound ≤ n → (p : Position) (cuts : List (Option ℕ)) (live : Handles) (rest : List ℕ) →
          Found (Arrives (p ++ In LoopBody j ∷ r) (known_at with_turn live b (In Root j ∷ r)))
          (trail_stmt (Loop b c q) n p cuts live (w.used ++ rest))
      go zero le p cuts live rest = no_bound w.bound le
      go (suc n) le p cuts live rest =
          found_turned_left _ (trail_body b (suc n) LoopBody 0 p cuts live (w.used ++ rest))
          (run_body b (suc n) LoopBody 0 p cuts live (w.used ++ rest)) (behind_trail n (suc n) p cuts live)
          (at_start p LoopBody j r _ _ (w.meets (suc n) (omega (arith, le)) LoopBody 0 p cuts live rest))

  -- behind the body list
  module _ (f : Handles → Handles) (used : List ℕ) (bound : ℕ) (r : Position)
      (found : (m n : ℕ) → bound ≤ n → (p : Position) (cuts : List (Option ℕ)) (live : Handles) (cut : Option ℕ)
      (rest : List ℕ) → Found (Arrives (p ++ r) (turn_in (Loop b c q) live r))
      (behind_trail m n p cuts live cut (f live) (used ++ rest))) where
    module _ (o : Outcome) (v : ListWay b o f)
        (follows : (m n : ℕ) (p : Position) (cuts : List (Option ℕ)) (live : Handles) (cs rest : List ℕ) → bound ≤ n →
        Gives o (f live) (used ++ rest) (run_body b n LoopBody 0 p cuts live cs) →
        Found (Arrives (p ++ r) (turn_in (Loop b c q) live r))
        (where_turned (trail_body b n LoopBody 0 p cuts live cs) (run_body b n LoopBody 0 p cuts live cs)
        (behind_trail m n p cuts live))) where
      behind_go : (n : ℕ) → suc (v.bound + bound) ≤ n → (p : Position) (cuts : List (Option ℕ)) (live : Handles)
          (rest : List ℕ) → Found (Arrives (p ++ r) (turn_in (Loop b c q) live r))
          (trail_stmt (Loop b c q) n p cuts live (v.used ++ (used ++ rest)))
      behind_go zero le p cuts live rest = no_bound (v.bound + bound) le
      behind_go (suc n) le p cuts live rest =
          follows n (suc n) p cuts live (v.used ++ (used ++ rest)) rest (omega (arith, le))
          (v.runs (suc n) (omega (arith, le)) LoopBody 0 p cuts live (used ++ rest))

      behind_by : StmtMeets (Loop b c q) r
      behind_by =
          record {
            bound = suc (v.bound + bound);
            used = v.used ++ used;
            meets = λ n le p cuts live rest.
                subst (λ cs. Found (Arrives (p ++ r) (turn_in (Loop b c q) live r))
                (trail_stmt (Loop b c q) n p cuts live cs)) (sym (append_assoc v.used used rest))
                (behind_go n le p cuts live rest);
          }

    behind_met : TurnWay b f → StmtMeets (Loop b c q) r
    behind_met (ByNext v) = behind_by Next v (λ m n p cuts live cs rest le g.
        found_turned_next _ _ (run_body b n LoopBody 0 p cuts live cs) (behind_trail m n p cuts live) (f live)
        (used ++ rest) g (found m n le p cuts live None rest))
    behind_met (ByContinue v) = behind_by Continued v (λ m n p cuts live cs rest le g.
        found_turned_cut _ _ (run_body b n LoopBody 0 p cuts live cs) (behind_trail m n p cuts live) (f live)
        (used ++ rest) g (found m n le p cuts live (Some g.index) rest))

  continuing_met : (j : ℕ) (r : Position) → TurnWay b (λ live. with_turn live b) → ListMeets c j r →
      StmtMeets (Loop b c q) (In Continuing j ∷ r)
  continuing_met j r turned w =
      behind_met (λ live. with_turn live b) w.used w.bound (In Continuing j ∷ r)
      (λ m n le p cuts live cut rest.
      found_next_left _ (trail_body c n Continuing 0 p (cuts ++ cut ∷ []) (with_turn live b) (w.used ++ rest))
      (run_body c n Continuing 0 p (cuts ++ cut ∷ []) (with_turn live b) (w.used ++ rest))
      (λ l rest. trail_closing q p (cuts ++ cut ∷ []) l rest (next_trail m n p cuts live))
      (at_start p Continuing j r _ _ (w.meets n le Continuing 0 p (cuts ++ cut ∷ []) (with_turn live b) rest)))
      turned

condition_met : (b c : Body) (h : ℕ) → TurnWay b (λ live. with_turn live b) →
    ListWay c Next (λ live. with_body live c) → StmtMeets (Loop b c (Some h)) (In Condition 0 ∷ [])
condition_met b c h turned w =
    behind_met b c (Some h) (λ live. with_turn live b) w.used w.bound (In Condition 0 ∷ [])
    (λ m n le p cuts live cut rest.
    found_next _ (trail_body c n Continuing 0 p (cuts ++ cut ∷ []) (with_turn live b) (w.used ++ rest))
    (run_body c n Continuing 0 p (cuts ++ cut ∷ []) (with_turn live b) (w.used ++ rest))
    (λ l rest. trail_closing (Some h) p (cuts ++ cut ∷ []) l rest (next_trail b c (Some h) m n p cuts live))
    (with_body (with_turn live b) c) rest
    (w.runs n le Continuing 0 p (cuts ++ cut ∷ []) (with_turn live b) rest)
    (inl (record { there = refl; lives = refl }))) turned

condition_stands : (b c : Body) (q : Option ℕ) →
    (condition_node q ≡ NoNode → ⊥) → TurnWay b (λ live. with_turn live b) →
    ListWay c Next (λ live. with_body live c) → StmtMeets (Loop b c q) (In Condition 0 ∷ [])
condition_stands b c None stands turned w = absurd (stands refl)
condition_stands b c (Some h) stands turned w = condition_met b c h turned w

abbrev pub Stands : BodyNode → Type 0
Stands node = node ≡ NoNode → ⊥

mutual
  pub list_met : (b : Body) (j : ℕ) (r : Position) → may_come b (In Root j ∷ r) ≡ true →
      Stands (node_at b (In Root j ∷ r)) → ListMeets b j r
  list_met Done j r m stands = absurd (stands (node_none (In Root j ∷ r)))
  list_met (Then x b) zero [] m stands = first_met x b
  list_met (Then x b) zero (In part k ∷ r) m stands = inside_met x b part k r (stmt_met x part k r m stands)
  list_met (Then x b) (suc j) r m stands =
      later_met x b j r (stmt_goes x (and_first (goes_on x) (earlier_go_on b j) (and_first _ _ m)))
      (list_met b j r (and_both (earlier_go_on b j) _
      (and_second (goes_on x) (earlier_go_on b j) (and_first _ _ m))
      (and_second (goes_on x && earlier_go_on b j) _ m)) stands)

  stmt_met : (x : Stmt) (part : Part) (k : ℕ) (r : Position) → may_come_in x (In part k ∷ r) ≡ true →
      Stands (node_in x (In part k ∷ r)) → StmtMeets x (In part k ∷ r)
  stmt_met (Block b) Inner k r m stands = block_met b k r (list_met b k r m stands)
  stmt_met (Block b) part k r m stands = absurd (stands (node_none (In part k ∷ r)))
  stmt_met (Branch h a c) Accept k r m stands = accept_met h a c k r (list_met a k r m stands)
  stmt_met (Branch h a c) Reject k r m stands = reject_met h a c k r (list_met c k r m stands)
  stmt_met (Branch h a c) part k r m stands = absurd (stands (node_none (In part k ∷ r)))
  stmt_met (Switch h cases) (Case i) k r m stands = switch_met h cases i k r (cases_met cases i k r m stands)
  stmt_met (Switch h cases) part k r m stands = absurd (stands (node_none (In part k ∷ r)))
  stmt_met (Loop b c q) LoopBody k r m stands = body_met b c q k r (list_met b k r m stands)
  stmt_met (Loop b c q) Continuing k r m stands =
      continuing_met b c q k r (turn_way b (and_first (turn_goes_on b) _ m))
      (list_met c k r (and_second (turn_goes_on b) _ m) stands)
  stmt_met (Loop b c q) Condition zero [] m stands =
      let on = and_first (turn_goes_on b && list_goes_on c) true m in
      condition_stands b c q stands (turn_way b (and_first (turn_goes_on b) _ on))
      (list_goes c (and_second (turn_goes_on b) _ on))
  stmt_met (Loop b c q) part k r m stands = absurd (stands (node_none (In part k ∷ r)))
  stmt_met x part k r m stands = absurd (stands (node_none (In part k ∷ r)))

  cases_met : (cases : Cases) (i k : ℕ) (r : Position) → may_come (case_at cases i) (In Root k ∷ r) ≡ true →
      Stands (node_at (case_at cases i) (In Root k ∷ r)) → CasesMeet cases i k r
  cases_met NoCase i k r m stands = absurd (stands (node_none (In Root k ∷ r)))
  cases_met (OneCase v falls b more) zero k r m stands =
      case_met v falls b more k r (list_met b k r m stands)
  cases_met (OneCase v falls b more) (suc i) k r m stands =
      later_case_met v falls b more i k r (cases_met more i k r m stands)
