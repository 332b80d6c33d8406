-- Ways: choices with which a statement, a list or a Switch ends as the tree says that it may. Where it stands, what is
-- live, and which choices follow makes no difference.
use Rattle.std.specs.Prelude.{ℕ, zero, suc, Bool, true, false, not, List, Option, Some, None, ◌≡◌, ◌⊎◌, ◌∷◌, ◌++◌, ◌||◌, ◌&&◌, if◌then◌else◌, [], ◌+◌, ◌≤◌, is_some}
use Rattle.std.proofs.Common.{refl, sym, ap, subst, arith, append_assoc, append-nil, inl, inr, ◌∙◌}
use Rattle.ir_statements.specs.Tree.{Stmt, Body, Cases, Use, Leaf, Block, Branch, Switch, Loop, Break, Continue, Return, Kill, Done, Then, NoCase, OneCase}
use Rattle.ir_statements.specs.declared.operations.SwitchValue.{SwitchValue}
use Rattle.naga_runs.specs.DeadCode.{has_no_case, goes_on, breaks, continues, list_goes_on, list_breaks, list_continues, cases_go_on, cases_continue, turn_goes_on}
use Rattle.naga_runs.specs.Handles.{Handles}
use Rattle.naga_runs.specs.Machine.{Event, Outcome, Run, recorded, after, left, then_rest, then_case, then_close, turn, turns, run_stmt, run_body, run_cases, Next, Broken, Continued, Returned, Ended, Stopped, Stuck, Ran}
use Rattle.naga_runs.specs.Positions.{Part, Position, Inner, Accept, Reject, Case, LoopBody, Continuing, Condition, In}
use Rattle.naga_runs.specs.PutsAndUses.{acts_of, with_acts, with_body}
use Rattle.naga_runs.proofs.Bools.{not_true, and_first, and_second, or_either}

-- a run that ends so
pub record Gives (o : Outcome) (live : Handles) (rest : List ℕ) (r : Run) : Type 0 where
  pub events : List Event
  pub index : ℕ
  pub is : r ≡ Ran events o index live rest

pub gives_after : (es : List Event) (o : Outcome) (live : Handles) (rest : List ℕ) (r : Run) → Gives o live rest r →
    Gives o live rest (after es r)
gives_after es o live rest r g = record { events = es ++ g.events; index = g.index; is = ap (after es) g.is }

gives_left : (o : Outcome) (live l : Handles) (rest : List ℕ) (r : Run) → Gives o l rest r →
    Gives o live rest (left live r)
gives_left o live l rest r g = record { events = g.events; index = g.index; is = ap (left live) g.is }

-- what is live afterwards, from what was live before
pub record StmtWay (x : Stmt) (o : Outcome) (f : Handles → Handles) : Type 0 where
  pub bound : ℕ
  pub used : List ℕ
  pub runs : (n : ℕ) → bound ≤ n → (p : Position) (cuts : List (Option ℕ)) (live : Handles) (rest : List ℕ) →
      Gives o (f live) rest (run_stmt x n p cuts live (used ++ rest))

pub record ListWay (b : Body) (o : Outcome) (f : Handles → Handles) : Type 0 where
  pub bound : ℕ
  pub used : List ℕ
  pub runs : (n : ℕ) → bound ≤ n → (part : Part) (i : ℕ) (p : Position) (cuts : List (Option ℕ)) (live : Handles)
      (rest : List ℕ) → Gives o (f live) rest (run_body b n part i p cuts live (used ++ rest))

pub record CasesWay (cases : Cases) (o : Outcome) : Type 0 where
  pub bound : ℕ
  pub start : ℕ
  pub used : List ℕ
  pub runs : (n : ℕ) → bound ≤ n → (k : ℕ) (p : Position) (cuts : List (Option ℕ)) (live : Handles) (rest : List ℕ) →
      Gives o live rest (run_cases cases n k (Some start) p cuts live (used ++ rest))

abbrev pub same : Handles → Handles
same live = live

abbrev pub past : Stmt → Handles → Handles
past x live = with_acts live (acts_of x)

-- a set, and the puts of the statements of a list that stand before the first that passes a test
abbrev pub with_until : (Stmt → Bool) → Handles → Body → Handles
with_until test s Done = s
with_until test s (Then x b) = if test x then s else with_until test (with_acts s (acts_of x)) b

-- a set, and what a turn has put as its continuing list begins: it is left at the first Continue that it may come to,
-- or goes on
abbrev pub with_turn : Handles → Body → Handles
with_turn s b = if list_continues b then with_until continues s b else with_body s b

-- a list
then_goes : (x : Stmt) (b : Body) (o : Outcome) (f : Handles → Handles) → StmtWay x Next (past x) → ListWay b o f →
    ListWay (Then x b) o (λ live. f (past x live))
then_goes x b o f v w =
    record {
      bound = v.bound + w.bound;
      used = v.used ++ w.used;
      runs = λ n le part i p cuts live rest.
          subst (λ cs. Gives o (f (past x live)) rest (run_body (Then x b) n part i p cuts live cs))
          (sym (append_assoc v.used w.used rest))
          (go n part i p cuts live rest (v.runs n (omega (arith, le)) _ cuts live (w.used ++ rest))
          (w.runs n (omega (arith, le)) part (suc i) p cuts (past x live) rest));
    }
  where
    go : (n : ℕ) (part : Part) (i : ℕ) (p : Position) (cuts : List (Option ℕ)) (live : Handles) (rest : List ℕ) →
        Gives Next (past x live) (w.used ++ rest)
        (run_stmt x n (p ++ In part i ∷ []) cuts live (v.used ++ (w.used ++ rest))) →
        Gives o (f (past x live)) rest (run_body b n part (suc i) p cuts (past x live) (w.used ++ rest)) →
        Gives o (f (past x live)) rest (run_body (Then x b) n part i p cuts live (v.used ++ (w.used ++ rest)))
    go n part i p cuts live rest g h =
        record {
          events = g.events ++ h.events;
          index = h.index;
          is = ap (λ r. then_rest i r (λ l rest. run_body b n part (suc i) p cuts l rest)) g.is
              ∙ ap (after g.events) h.is;
        }

stops : (o : Outcome) → (o ≡ Next → ⊥) → (i j : ℕ) (es : List Event) (live : Handles) (cs : List ℕ)
    (rest : Handles → List ℕ → Run) → then_rest i (Ran es o j live cs) rest ≡ Ran es o i live cs
stops Next passing i j es live cs rest = absurd (passing refl)
stops Broken passing i j es live cs rest = refl
stops Continued passing i j es live cs rest = refl
stops Returned passing i j es live cs rest = refl
stops Ended passing i j es live cs rest = refl
stops Stopped passing i j es live cs rest = refl
stops Stuck passing i j es live cs rest = refl

then_stops : (x : Stmt) (b : Body) (o : Outcome) → (o ≡ Next → ⊥) → StmtWay x o same → ListWay (Then x b) o same
then_stops x b o passing v =
    record {
      bound = v.bound;
      used = v.used;
      runs = λ n le part i p cuts live rest. go n part i p cuts live rest (v.runs n le _ cuts live rest);
    }
  where
    go : (n : ℕ) (part : Part) (i : ℕ) (p : Position) (cuts : List (Option ℕ)) (live : Handles) (rest : List ℕ) →
        Gives o live rest (run_stmt x n (p ++ In part i ∷ []) cuts live (v.used ++ rest)) →
        Gives o live rest (run_body (Then x b) n part i p cuts live (v.used ++ rest))
    go n part i p cuts live rest g =
        record {
          events = g.events;
          index = i;
          is = ap (λ r. then_rest i r (λ l rest. run_body b n part (suc i) p cuts l rest)) g.is
              ∙ stops o passing i g.index g.events live rest _;
        }

-- a list that ends at the first statement that passes a test
exit_way : (x : Stmt) (b : Body) (o : Outcome) (test : Stmt → Bool) (passes : Bool) → (o ≡ Next → ⊥) →
    (passes ≡ true → StmtWay x o same) →
    (passes ≡ false → StmtWay x Next (past x) × ListWay b o (λ live. with_until test live b)) →
    ListWay (Then x b) o (λ live. if passes then live else with_until test (past x live) b)
exit_way x b o test true passing here later = then_stops x b o passing (here refl)
exit_way x b o test false passing here later =
    then_goes x b o (λ live. with_until test live b) (later refl).0 (later refl).1

-- a statement with parts
block_way : (b : Body) (o : Outcome) (f : Handles → Handles) → ListWay b o f → StmtWay (Block b) o same
block_way b o f w =
    record {
      bound = w.bound;
      used = w.used;
      runs = λ n le p cuts live rest. gives_left o live (f live) rest _ (w.runs n le Inner 0 p cuts live rest);
    }

accept_way : (h : ℕ) (a r : Body) (o : Outcome) (f : Handles → Handles) → ListWay a o f →
    StmtWay (Branch h a r) o same
accept_way h a r o f w =
    record {
      bound = w.bound;
      used = 0 ∷ w.used;
      runs = λ n le p cuts live rest. gives_after (recorded (Use h ∷ []) [] live p cuts) o live rest _
          (gives_left o live (f live) rest _ (w.runs n le Accept 0 p cuts live rest));
    }

reject_way : (h : ℕ) (a r : Body) (o : Outcome) (f : Handles → Handles) → ListWay r o f →
    StmtWay (Branch h a r) o same
reject_way h a r o f w =
    record {
      bound = w.bound;
      used = 1 ∷ w.used;
      runs = λ n le p cuts live rest. gives_after (recorded (Use h ∷ []) [] live p cuts) o live rest _
          (gives_left o live (f live) rest _ (w.runs n le Reject 0 p cuts live rest));
    }

switch_way : (h : ℕ) (cases : Cases) (o : Outcome) → CasesWay cases o → StmtWay (Switch h cases) o same
switch_way h cases o w =
    record {
      bound = w.bound;
      used = w.start ∷ w.used;
      runs = λ n le p cuts live rest. gives_after (recorded (Use h ∷ []) [] live p cuts) o live rest _
          (w.runs n le 0 p cuts live rest);
    }

-- the cases of a Switch
later_way : (v : SwitchValue) (falls : Bool) (b : Body) (more : Cases) (o : Outcome) → CasesWay more o →
    CasesWay (OneCase v falls b more) o
later_way v falls b more o w =
    record {
      bound = w.bound;
      start = suc w.start;
      used = w.used;
      runs = λ n le k p cuts live rest. w.runs n le (suc k) p cuts live rest;
    }

-- a list that is the first case, and what the Switch makes of its end
first_way : (v : SwitchValue) (falls : Bool) (b : Body) (more : Cases) (o o' : Outcome) (f : Handles → Handles) →
    ListWay b o f →
    ((n k : ℕ) (p : Position) (cuts : List (Option ℕ)) (live l : Handles) (rest : List ℕ) (es : List Event) (i : ℕ) →
    then_case falls live (Ran es o i l rest) (λ rest. run_cases more n (suc k) None p cuts live rest)
    ≡ Ran es o' 0 live rest) → CasesWay (OneCase v falls b more) o'
first_way v falls b more o o' f w ends =
    record {
      bound = w.bound;
      start = 0;
      used = w.used;
      runs = λ n le k p cuts live rest. go n k p cuts live rest (w.runs n le (Case k) 0 p cuts live rest);
    }
  where
    go : (n k : ℕ) (p : Position) (cuts : List (Option ℕ)) (live : Handles) (rest : List ℕ) →
        Gives o (f live) rest (run_body b n (Case k) 0 p cuts live (w.used ++ rest)) →
        Gives o' live rest (run_cases (OneCase v falls b more) n k (Some 0) p cuts live (w.used ++ rest))
    go n k p cuts live rest g =
        record {
          events = g.events;
          index = 0;
          is = ap (λ r. then_case falls live r (λ rest. run_cases more n (suc k) None p cuts live rest)) g.is
              ∙ ends n k p cuts live (f live) rest g.events g.index;
        }

-- a body list after which the continuing list begins
pub data TurnWay (b : Body) (f : Handles → Handles) : Type 0 where
  ByNext : ListWay b Next f → TurnWay b f
  ByContinue : ListWay b Continued f → TurnWay b f

pub no_bound : {A : Type 0} (n : ℕ) → suc n ≤ zero → A
no_bound n le = absurd (omega (arith, le))

loop_breaks : (b c : Body) (q : Option ℕ) (f : Handles → Handles) → ListWay b Broken f →
    StmtWay (Loop b c q) Next same
loop_breaks b c q f w =
    record { bound = suc w.bound; used = w.used; runs = λ n le p cuts live rest. go n le p cuts live rest }
  where
    go : (n : ℕ) → suc w.bound ≤ n → (p : Position) (cuts : List (Option ℕ)) (live : Handles) (rest : List ℕ) →
        Gives Next live rest (run_stmt (Loop b c q) n p cuts live (w.used ++ rest))
    go zero le p cuts live rest = no_bound w.bound le
    go (suc n) le p cuts live rest =
        let g = w.runs (suc n) (omega (arith, le)) LoopBody 0 p cuts live rest in
        record {
          events = g.events;
          index = 0;
          is = ap (λ r. turn r (λ cut l rest. run_body c (suc n) Continuing 0 p (cuts ++ cut ∷ []) l rest) q p cuts live
              (λ rest. turns n (λ rest. run_body b (suc n) LoopBody 0 p cuts live rest)
              (λ cut l rest. run_body c (suc n) Continuing 0 p (cuts ++ cut ∷ []) l rest) q p cuts live rest)) g.is;
        }

close_gives : (cut : Option ℕ) (r : Run) (h : ℕ) (p : Position) (cuts : List (Option ℕ)) (live l : Handles)
    (rest : List ℕ) (again : List ℕ → Run) → Gives Next l (0 ∷ rest) r →
    Gives Next live rest (then_close cut r (Some h) p cuts live again)
close_gives cut r h p cuts live l rest again g =
    record {
      events = g.events ++ (recorded (Use h ∷ []) [] l (p ++ In Condition 0 ∷ []) (cuts ++ cut ∷ []) ++ []);
      index = 0;
      is = ap (λ r. then_close cut r (Some h) p cuts live again) g.is;
    }

-- the continuing part of a Loop that stands there, and its turns, of which so many may begin
abbrev pub continuing_run : Body → ℕ → Position → List (Option ℕ) → Option ℕ → Handles → List ℕ → Run
continuing_run c n p cuts cut l cs = run_body c n Continuing 0 p (cuts ++ cut ∷ []) l cs

abbrev pub next_turns : Body → Body → Option ℕ → ℕ → ℕ → Position → List (Option ℕ) → Handles → List ℕ → Run
next_turns b c q m n p cuts live cs =
    turns m (λ rest. run_body b n LoopBody 0 p cuts live rest)
    (λ cut l rest. run_body c n Continuing 0 p (cuts ++ cut ∷ []) l rest) q p cuts live cs

-- the choices of a turn that ends its Loop
turn_choices : (u v rest : List ℕ) → (u ++ (v ++ 0 ∷ [])) ++ rest ≡ u ++ (v ++ (0 ∷ rest))
turn_choices u v rest =
    append_assoc u (v ++ 0 ∷ []) rest ∙ ap (λ t. u ++ t) (append_assoc v (0 ∷ []) rest)

module _ (b c : Body) (h : ℕ) (f g : Handles → Handles) (w : ListWay c Next g) where
  -- what follows a body list, from its run
  turn_next : (n : ℕ) → w.bound ≤ n → (p : Position) (cuts : List (Option ℕ)) (live : Handles) (rest : List ℕ)
      (again : List ℕ → Run) (r : Run) → Gives Next (f live) (w.used ++ (0 ∷ rest)) r →
      Gives Next live rest (turn r (continuing_run c n p cuts) (Some h) p cuts live again)
  turn_next n le p cuts live rest again r v =
      let closed = close_gives None _ h p cuts live (g (f live)) rest again
      (w.runs n le Continuing 0 p (cuts ++ None ∷ []) (f live) (0 ∷ rest)) in
      record {
        events = v.events ++ closed.events;
        index = closed.index;
        is = ap (λ r. turn r (continuing_run c n p cuts) (Some h) p cuts live again) v.is
            ∙ ap (after v.events) closed.is;
      }

  turn_continued : (n : ℕ) → w.bound ≤ n → (p : Position) (cuts : List (Option ℕ)) (live : Handles) (rest : List ℕ)
      (again : List ℕ → Run) (r : Run) → Gives Continued (f live) (w.used ++ (0 ∷ rest)) r →
      Gives Next live rest (turn r (continuing_run c n p cuts) (Some h) p cuts live again)
  turn_continued n le p cuts live rest again r v =
      let closed = close_gives (Some v.index) _ h p cuts live (g (f live)) rest again
      (w.runs n le Continuing 0 p (cuts ++ Some v.index ∷ []) (f live) (0 ∷ rest)) in
      record {
        events = v.events ++ closed.events;
        index = closed.index;
        is = ap (λ r. turn r (continuing_run c n p cuts) (Some h) p cuts live again) v.is
            ∙ ap (after v.events) closed.is;
      }

  module _ (o : Outcome) (v : ListWay b o f)
      (follows : (n : ℕ) → w.bound ≤ n → (p : Position) (cuts : List (Option ℕ)) (live : Handles) (rest : List ℕ)
      (again : List ℕ → Run) (r : Run) → Gives o (f live) (w.used ++ (0 ∷ rest)) r →
      Gives Next live rest (turn r (continuing_run c n p cuts) (Some h) p cuts live again)) where
    closing_run : (n : ℕ) → suc (v.bound + w.bound) ≤ n → (p : Position) (cuts : List (Option ℕ)) (live : Handles)
        (rest : List ℕ) →
        Gives Next live rest (run_stmt (Loop b c (Some h)) n p cuts live (v.used ++ (w.used ++ (0 ∷ rest))))
    closing_run zero le p cuts live rest = no_bound (v.bound + w.bound) le
    closing_run (suc n) le p cuts live rest =
        follows (suc n) (omega (arith, le)) p cuts live rest (next_turns b c (Some h) n (suc n) p cuts live) _
        (v.runs (suc n) (omega (arith, le)) LoopBody 0 p cuts live (w.used ++ (0 ∷ rest)))

    loop_closes : StmtWay (Loop b c (Some h)) Next same
    loop_closes =
        record {
          bound = suc (v.bound + w.bound);
          used = v.used ++ (w.used ++ 0 ∷ []);
          runs = λ n le p cuts live rest.
              subst (λ cs. Gives Next live rest (run_stmt (Loop b c (Some h)) n p cuts live cs))
              (sym (turn_choices v.used w.used rest)) (closing_run n le p cuts live rest);
        }

  loop_way : TurnWay b f → StmtWay (Loop b c (Some h)) Next same
  loop_way (ByNext v) = loop_closes Next v turn_next
  loop_way (ByContinue v) = loop_closes Continued v turn_continued

-- what ends at once
leaf_way : (x : Stmt) (o : Outcome) (f : Handles → Handles) →
    ((n : ℕ) (p : Position) (cuts : List (Option ℕ)) (live : Handles) (rest : List ℕ) →
    Gives o (f live) rest (run_stmt x n p cuts live rest)) → StmtWay x o f
leaf_way x o f gives =
    record { bound = 0; used = []; runs = λ n le p cuts live rest. gives n p cuts live rest }

done_way : ListWay Done Next same
done_way =
    record { bound = 0; used = []; runs = λ n le part i p cuts live rest. record { events = []; index = i; is = refl } }

or_else : (a b : Bool) → (a || b) ≡ true → a ≡ false → b ≡ true
or_else true b e f = cc
or_else false b e f = e

breaks_end : Broken ≡ Next → ⊥
breaks_end e = cc

continues_end : Continued ≡ Next → ⊥
continues_end e = cc

next_of : (f : Bool) (more : Cases) → (not f || has_no_case more) ≡ true → (n k : ℕ) (p : Position)
    (cuts : List (Option ℕ)) (live l : Handles) (rest : List ℕ) (es : List Event) (i : ℕ) →
    then_case f live (Ran es Next i l rest) (λ rest. run_cases more n (suc k) None p cuts live rest)
    ≡ Ran es Next 0 live rest
next_of true NoCase e n k p cuts live l rest es i = ap (λ es. Ran es Next 0 live rest) (append-nil es)
next_of true (OneCase v falls b more) e n k p cuts live l rest es i = absurd (not_true e)
next_of false more e n k p cuts live l rest es i = refl

branch_way : (h : ℕ) (a r : Body) (o : Outcome) (f g : Handles → Handles) (c d : Bool) →
    (c ≡ true → ListWay a o f) → (d ≡ true → ListWay r o g) → (c || d) ≡ true → StmtWay (Branch h a r) o same
branch_way h a r o f g true d v w e = accept_way h a r o f (v refl)
branch_way h a r o f g false d v w e = reject_way h a r o g (w e)

-- a body list that lets its continuing list begin does so by its first Continue, if it may come to one
turn_of : (b : Body) (c : Bool) → (list_goes_on b || c) ≡ true →
    (list_goes_on b ≡ true → ListWay b Next (λ live. with_body live b)) →
    (c ≡ true → ListWay b Continued (λ live. with_until continues live b)) →
    TurnWay b (λ live. if c then with_until continues live b else with_body live b)
turn_of b true e on cut = ByContinue (cut refl)
turn_of b false e on cut = ByNext (on (go (list_goes_on b) e))
  where
    go : (g : Bool) → (g || false) ≡ true → g ≡ true
    go true e = refl
    go false e = e

loop_of : (b c : Body) (q : Option ℕ) →
    (list_breaks b ≡ true → ListWay b Broken (λ live. with_until breaks live b)) →
    (turn_goes_on b ≡ true → TurnWay b (λ live. with_turn live b)) →
    (list_goes_on c ≡ true → ListWay c Next (λ live. with_body live c)) →
    (list_breaks b ≡ true) ⊎ ((turn_goes_on b && (list_goes_on c && is_some q)) ≡ true) →
    StmtWay (Loop b c q) Next same
loop_of b c q br turned on (inl e) = loop_breaks b c q _ (br e)
loop_of b c None br turned on (inr e) =
    absurd (not_true (and_second (list_goes_on c) false (and_second (turn_goes_on b) _ e)))
loop_of b c (Some h) br turned on (inr e) =
    loop_way b c h (λ live. with_turn live b) (λ live. with_body live c)
    (on (and_first (list_goes_on c) true (and_second (turn_goes_on b) _ e)))
    (turned (and_first (turn_goes_on b) _ e))

case_of : (v : SwitchValue) (falls : Bool) (b : Body) (more : Cases) →
    (list_breaks b ≡ true → ListWay b Broken (λ live. with_until breaks live b)) →
    (list_goes_on b ≡ true → ListWay b Next (λ live. with_body live b)) →
    (cases_go_on more ≡ true → CasesWay more Next) →
    (list_breaks b ≡ true)
    ⊎ (((list_goes_on b && (not falls || has_no_case more)) || cases_go_on more) ≡ true) →
    CasesWay (OneCase v falls b more) Next
case_of v falls b more br on later (inl e) =
    first_way v falls b more Broken Next _ (br e) (λ n k p cuts live l rest es i. refl)
case_of v falls b more br on later (inr e) = go (or_either _ _ e)
  where
    go : ((list_goes_on b && (not falls || has_no_case more)) ≡ true) ⊎ (cases_go_on more ≡ true) →
        CasesWay (OneCase v falls b more) Next
    go (inl e) =
        first_way v falls b more Next Next _ (on (and_first _ _ e))
        (next_of falls more (and_second (list_goes_on b) _ e))
    go (inr e) = later_way v falls b more Next (later e)

case_continues : (v : SwitchValue) (falls : Bool) (b : Body) (more : Cases) →
    (list_continues b ≡ true → ListWay b Continued (λ live. with_until continues live b)) →
    (cases_continue more ≡ true → CasesWay more Continued) →
    (list_continues b ≡ true) ⊎ (cases_continue more ≡ true) → CasesWay (OneCase v falls b more) Continued
case_continues v falls b more co later (inl e) =
    first_way v falls b more Continued Continued _ (co e) (λ n k p cuts live l rest es i. refl)
case_continues v falls b more co later (inr e) = later_way v falls b more Continued (later e)

mutual
  pub stmt_goes : (x : Stmt) → goes_on x ≡ true → StmtWay x Next (past x)
  stmt_goes (Leaf acts x' span) e = leaf_way _ _ _ (λ n p cuts live rest.
      record { events = recorded acts [] live p cuts; index = 0; is = refl })
  stmt_goes (Block b) e = block_way b Next (λ live. with_body live b) (list_goes b e)
  stmt_goes (Branch h a r) e =
      branch_way h a r Next (λ live. with_body live a) (λ live. with_body live r) (list_goes_on a) (list_goes_on r)
      (list_goes a) (list_goes r) e
  stmt_goes (Switch h cases) e = switch_way h cases Next (cases_go cases e)
  stmt_goes (Loop b c q) e =
      loop_of b c q (list_break b) (λ turned. turn_of b (list_continues b) turned (list_goes b) (list_continue b))
      (list_goes c) (or_either _ _ e)
  stmt_goes Break e = absurd (not_true e)
  stmt_goes Continue e = absurd (not_true e)
  stmt_goes (Return v) e = absurd (not_true e)
  stmt_goes Kill e =
      record {
        bound = 0;
        used = 1 ∷ [];
        runs = λ n le p cuts live rest. record { events = []; index = 0; is = refl };
      }

  pub list_goes : (b : Body) → list_goes_on b ≡ true → ListWay b Next (λ live. with_body live b)
  list_goes Done e = done_way
  list_goes (Then x b) e =
      then_goes x b Next (λ live. with_body live b)
      (stmt_goes x (and_first _ _ e)) (list_goes b (and_second (goes_on x) _ e))

  pub cases_go : (cases : Cases) → cases_go_on cases ≡ true → CasesWay cases Next
  cases_go NoCase e = absurd (not_true e)
  cases_go (OneCase v falls b more) e =
      case_of v falls b more (list_break b) (list_goes b) (cases_go more) (or_either _ _ e)

  pub stmt_break : (x : Stmt) → breaks x ≡ true → StmtWay x Broken same
  stmt_break (Block b) e = block_way b Broken (λ live. with_until breaks live b) (list_break b e)
  stmt_break (Branch h a r) e =
      branch_way h a r Broken (λ live. with_until breaks live a) (λ live. with_until breaks live r)
      (list_breaks a) (list_breaks r) (list_break a) (list_break r) e
  stmt_break Break e =
      leaf_way _ _ _ (λ n p cuts live rest. record { events = []; index = 0; is = refl })
  stmt_break x e = absurd (not_true e)

  pub list_break : (b : Body) → list_breaks b ≡ true → ListWay b Broken (λ live. with_until breaks live b)
  list_break Done e = absurd (not_true e)
  list_break (Then x b) e =
      exit_way x b Broken breaks (breaks x) breaks_end (stmt_break x) (λ f.
      let later = or_else (breaks x) _ e f in
      (stmt_goes x (and_first _ _ later), list_break b (and_second (goes_on x) _ later)))

  pub stmt_continue : (x : Stmt) → continues x ≡ true → StmtWay x Continued same
  stmt_continue (Block b) e = block_way b Continued (λ live. with_until continues live b) (list_continue b e)
  stmt_continue (Branch h a r) e =
      branch_way h a r Continued (λ live. with_until continues live a) (λ live. with_until continues live r)
      (list_continues a) (list_continues r) (list_continue a) (list_continue r) e
  stmt_continue (Switch h cases) e = switch_way h cases Continued (cases_continued cases e)
  stmt_continue Continue e =
      leaf_way _ _ _ (λ n p cuts live rest. record { events = []; index = 0; is = refl })
  stmt_continue x e = absurd (not_true e)

  pub list_continue : (b : Body) → list_continues b ≡ true → ListWay b Continued (λ live. with_until continues live b)
  list_continue Done e = absurd (not_true e)
  list_continue (Then x b) e =
      exit_way x b Continued continues (continues x) continues_end (stmt_continue x) (λ f.
      let later = or_else (continues x) _ e f in
      (stmt_goes x (and_first _ _ later), list_continue b (and_second (goes_on x) _ later)))

  pub cases_continued : (cases : Cases) → cases_continue cases ≡ true → CasesWay cases Continued
  cases_continued NoCase e = absurd (not_true e)
  cases_continued (OneCase v falls b more) e =
      case_continues v falls b more (list_continue b) (cases_continued more) (or_either _ _ e)

pub turn_way : (b : Body) → turn_goes_on b ≡ true → TurnWay b (λ live. with_turn live b)
turn_way b e = turn_of b (list_continues b) e (list_goes b) (list_continue b)
