-- What every run comes to: the handles of Must are live there, the tree says that it may be come to, and the run is
-- stuck exactly where the last that it comes to is a jump without its ability.
use Rattle.std.specs.List.{AllByRecursion}
use Rattle.std.specs.Prelude.{ℕ, zero, suc, Bool, true, false, not, List, Option, Some, None, ◌≡◌, ◌∷◌, ◌++◌, ◌||◌, ◌&&◌, [], ◌+◌}
use Rattle.std.proofs.Common.{refl, sym, ap, subst, arith, append_assoc, append-nil, ◌∙◌}
use Rattle.ir_statements.specs.Tree.{Stmt, Body, Cases, Use, Leaf, Block, Branch, Switch, Loop, Break, Continue, Return, Kill, Done, Then, NoCase, OneCase}
use Rattle.ir_statements.specs.declared.operations.SwitchValue.{SwitchValue}
use Rattle.naga_runs.specs.Handles.{Handles}
use Rattle.naga_runs.specs.DeadCode.{has_no_case, goes_on, breaks, continues, list_goes_on, list_breaks, list_continues, cases_go_on, turn_goes_on, earlier_go_on, lists_go_on, may_come}
use Rattle.naga_runs.specs.Machine.{Event, Outcome, Run, recorded, after, left, by_choice, at_zero, then_rest, then_case, closing, then_close, turn, turns, run_stmt, run_body, run_cases, Next, Broken, Continued, Returned, Ended, Stopped, Stuck, Ran}
use Rattle.naga_runs.specs.Must.{with_sure}
use Rattle.naga_runs.specs.Positions.{Part, Position, BodyNode, statement_at, case_at, list_below, condition_node, node_at, Root, Inner, Accept, Reject, Case, LoopBody, Continuing, Condition, In, StatementNode, BreakIfNode}
use Rattle.naga_runs.specs.PutsAndUses.{acts_of, node_acts, with_acts, with_body}
use Rattle.naga_runs.specs.Scope.{known_at}
use Rattle.naga_runs.specs.Trail.{Arrival, where_next, where_turned, where_fallen, trail_by_choice, trail_at_zero, trail_closing, trail_turns, trail_stmt, trail_body, trail_cases}
use Rattle.naga_runs.proofs.Bools.{not_true, and_both, or_left, or_right, or_map}
use Rattle.naga_runs.proofs.Contexts.{node_in}
use Rattle.naga_runs.proofs.EachOf.{all_append}
use Rattle.naga_runs.proofs.Settings.{must_in, may_come_in, Setting, past, in_case, in_body, in_continuing, AbleAt, able_of, StmtEnds, ListEnds, CasesEnd, holds}
use Rattle.naga_runs.proofs.Tallies.{Within, within_all, acts_mono, sure_below, sure_cut, sure_on}

module _ (n : ℕ) (Q A : Arrival → Type 0) where
  -- all able, but the last
  pub record LastLacks (t : List Arrival) : Type 0 where
    pub before : List Arrival
    pub last : Arrival
    pub is : t ≡ before ++ last ∷ []
    pub able : AllByRecursion A before
    pub lacks : A last → ⊥

  abbrev pub Settled : Bool → List Arrival → Type 0
  Settled true t = AllByRecursion A t
  Settled false t = LastLacks t

  settled_after : (s : Bool) (t u : List Arrival) → AllByRecursion A t → Settled s u → Settled s (t ++ u)
  settled_after true t u a b = all_append A t u a b
  settled_after false t u a b =
      record {
        before = t ++ b.before;
        last = b.last;
        is = ap (λ v. t ++ v) b.is ∙ sym (append_assoc t b.before (b.last ∷ []));
        able = all_append A t b.before a b.able;
        lacks = b.lacks;
      }

  -- what a run comes to, and how it ends
  abbrev pub Fine : Setting → (Outcome → Handles → Type 0) → Run → List Arrival → Type 0
  Fine S E (Ran es o i live cs) t = AllByRecursion Q t × Settled (able_of S o) t × E o live

  -- what holds of an arrival
  abbrev pub Heard : BodyNode → Setting → Position → Arrival → Type 0
  Heard node S r a = Q a × (A a → AbleAt node S r) × (AbleAt node S r → A a)

  abbrev pub HeardStmt : Stmt → Setting → Position → Type 0
  HeardStmt x S p =
      (r : Position) (a : Arrival) → a.position ≡ p ++ r → a.node ≡ node_in x r → Within (must_in x S.must r) a.live →
      may_come_in x r ≡ true → Heard (node_in x r) S r a

  abbrev pub HeardBody : Body → Setting → Part → ℕ → Position → Type 0
  HeardBody b S part i p =
      (j : ℕ) (r : Position) (a : Arrival) → a.position ≡ p ++ In part (i + j) ∷ r →
      a.node ≡ node_at b (In Root j ∷ r) → Within (known_at with_sure S.must b (In Root j ∷ r)) a.live →
      may_come b (In Root j ∷ r) ≡ true → Heard (node_at b (In Root j ∷ r)) S r a

  abbrev pub HeardCases : Cases → Setting → ℕ → Position → Type 0
  HeardCases cs S k p =
      (m i : ℕ) (r : Position) (a : Arrival) → a.position ≡ p ++ In (Case (k + m)) i ∷ r →
      a.node ≡ node_at (case_at cs m) (In Root i ∷ r) →
      Within (known_at with_sure S.must (case_at cs m) (In Root i ∷ r)) a.live →
      may_come (case_at cs m) (In Root i ∷ r) ≡ true → Heard (node_at (case_at cs m) (In Root i ∷ r)) (in_case S) r a

  after_fine : (S : Setting) (E : Outcome → Handles → Type 0) (es : List Event) (r : Run) (t : List Arrival) →
      Fine S E r t → Fine S E (after es r) t
  after_fine S E es (Ran fs o i live cs) t f = f

  -- one more in front
  cons_fine : (S : Setting) (E : Outcome → Handles → Type 0) (a : Arrival) (r : Run) (t : List Arrival) →
      Q a → A a → Fine S E r t → Fine S E r (a ∷ t)
  cons_fine S E a (Ran fs o i live cs) t q able f =
      ((q, f.0), settled_after (able_of S o) (a ∷ []) t (able, tt) f.1, f.2)

  -- a list that a statement runs, and then leaves
  left_fine : (x : Stmt) (S : Setting) (b : Body) (live : Handles) (r : Run) (t : List Arrival) →
      (list_goes_on b ≡ true → goes_on x ≡ true) → (list_breaks b ≡ true → breaks x ≡ true) →
      (list_continues b ≡ true → continues x ≡ true) → Within S.must live →
      Within (with_acts S.must (acts_of x)) live → Fine S (ListEnds b S) r t → Fine S (StmtEnds x S) (left live r) t
  left_fine x S b live (Ran es Next i l cs) t on br co now then f = (f.0, f.1, (on f.2.0, then))
  left_fine x S b live (Ran es Broken i l cs) t on br co now then f = (f.0, f.1, br f.2)
  left_fine x S b live (Ran es Continued i l cs) t on br co now then f = (f.0, f.1, (co f.2.0, now))
  left_fine x S b live (Ran es Returned i l cs) t on br co now then f = f
  left_fine x S b live (Ran es Ended i l cs) t on br co now then f = f
  left_fine x S b live (Ran es Stopped i l cs) t on br co now then f = f
  left_fine x S b live (Ran es Stuck i l cs) t on br co now then f = f

  -- the rest of a list, behind a statement that gave "next"
  rest_fine : (x : Stmt) (b : Body) (S : Setting) (es : List Event) (r : Run) (t u : List Arrival) →
      goes_on x ≡ true → AllByRecursion Q t → AllByRecursion A t → Fine (past x S) (ListEnds b (past x S)) r u →
      Fine S (ListEnds (Then x b) S) (after es r) (t ++ u)
  rest_fine x b S es (Ran fs Next i l cs) t u on q a f =
      (all_append Q t u q f.0, all_append A t u a f.1, (and_both (goes_on x) _ on f.2.0, f.2.1))
  rest_fine x b S es (Ran fs Broken i l cs) t u on q a f =
      (all_append Q t u q f.0, settled_after S.brk t u a f.1, or_right (breaks x) _ (and_both (goes_on x) _ on f.2))
  rest_fine x b S es (Ran fs Continued i l cs) t u on q a f = (
    all_append Q t u q f.0,
    settled_after S.cont t u a f.1,
    (or_right (continues x) _ (and_both (goes_on x) _ on f.2.0), sure_on x b S.must l f.2.1),
  )
  rest_fine x b S es (Ran fs Returned i l cs) t u on q a f =
      (all_append Q t u q f.0, settled_after S.ret t u a f.1, tt)
  rest_fine x b S es (Ran fs Ended i l cs) t u on q a f = (all_append Q t u q f.0, all_append A t u a f.1, tt)
  rest_fine x b S es (Ran fs Stopped i l cs) t u on q a f = (all_append Q t u q f.0, all_append A t u a f.1, tt)
  rest_fine x b S es (Ran fs Stuck i l cs) t u on q a f =
      (all_append Q t u q f.0, settled_after false t u a f.1, tt)

  -- a statement, and the rest of its list
  then_fine : (x : Stmt) (b : Body) (S : Setting) (i : ℕ) (r : Run) (t : List Arrival)
      (rest : Handles → List ℕ → Run) (there : Handles → List ℕ → List Arrival) → Fine S (StmtEnds x S) r t →
      ((l : Handles) (cs : List ℕ) → goes_on x ≡ true → Within (past x S).must l →
      Fine (past x S) (ListEnds b (past x S)) (rest l cs) (there l cs)) →
      Fine S (ListEnds (Then x b) S) (then_rest i r rest) (where_next t r there)
  then_fine x b S i (Ran es Next k l cs) t rest there f g =
      rest_fine x b S es (rest l cs) t (there l cs) f.2.0 f.0 f.1 (g l cs f.2.0 f.2.1)
  then_fine x b S i (Ran es Broken k l cs) t rest there f g = (f.0, f.1, or_left (breaks x) _ f.2)
  then_fine x b S i (Ran es Continued k l cs) t rest there f g =
      (f.0, f.1, (or_left (continues x) _ f.2.0, sure_cut x b S.must l (holds x f.2.0) f.2.1))
  then_fine x b S i (Ran es Returned k l cs) t rest there f g = f
  then_fine x b S i (Ran es Ended k l cs) t rest there f g = f
  then_fine x b S i (Ran es Stopped k l cs) t rest there f g = f
  then_fine x b S i (Ran es Stuck k l cs) t rest there f g = f

  -- a case, and the next one where it falls through
  fall_on : (br on none more : Bool) → on ≡ true → (none || more) ≡ true → (br || ((on && none) || more)) ≡ true
  fall_on br on none more e f =
      or_right br _ (or_map none more _ _ (λ g. and_both on none e g) (λ g. g) f)

  case_next : (v : SwitchValue) (b : Body) (more : Cases) (S : Setting) (es : List Event) (r : Run)
      (t u : List Arrival) → list_goes_on b ≡ true → AllByRecursion Q t → AllByRecursion A t →
      Fine S (CasesEnd more S) r u → Fine S (CasesEnd (OneCase v true b more) S) (after es r) (t ++ u)
  case_next v b more S es (Ran fs Next i l cs) t u on q a f =
      (all_append Q t u q f.0, all_append A t u a f.1, (fall_on (list_breaks b) _ _ _ on f.2.0, f.2.1))
  case_next v b more S es (Ran fs Broken i l cs) t u on q a f = absurd f.2
  case_next v b more S es (Ran fs Continued i l cs) t u on q a f = (
    all_append Q t u q f.0,
    settled_after S.cont t u a f.1,
    (or_right (list_continues b) _ f.2.0, f.2.1),
  )
  case_next v b more S es (Ran fs Returned i l cs) t u on q a f =
      (all_append Q t u q f.0, settled_after S.ret t u a f.1, tt)
  case_next v b more S es (Ran fs Ended i l cs) t u on q a f = (all_append Q t u q f.0, all_append A t u a f.1, tt)
  case_next v b more S es (Ran fs Stopped i l cs) t u on q a f = (all_append Q t u q f.0, all_append A t u a f.1, tt)
  case_next v b more S es (Ran fs Stuck i l cs) t u on q a f =
      (all_append Q t u q f.0, settled_after false t u a f.1, tt)

  case_fine : (v : SwitchValue) (falls : Bool) (b : Body) (more : Cases) (S : Setting) (live : Handles) (r : Run)
      (t : List Arrival) (next : List ℕ → Run) (there : List ℕ → List Arrival) → Within S.must live →
      Fine (in_case S) (ListEnds b (in_case S)) r t →
      ((cs : List ℕ) → Fine S (CasesEnd more S) (next cs) (there cs)) →
      Fine S (CasesEnd (OneCase v falls b more) S) (then_case falls live r next) (where_fallen t falls r there)
  case_fine v true b more S live (Ran es Next k l cs) t next there w f g =
      case_next v b more S es (next cs) t (there cs) f.2.0 f.0 f.1 (g cs)
  case_fine v false b more S live (Ran es Next k l cs) t next there w f g =
      (f.0, f.1, (or_right (list_breaks b) _ (or_left _ _ (and_both _ true f.2.0 refl)), w))
  case_fine v true b more S live (Ran es Broken k l cs) t next there w f g =
      (f.0, f.1, (or_left (list_breaks b) _ f.2, w))
  case_fine v false b more S live (Ran es Broken k l cs) t next there w f g =
      (f.0, f.1, (or_left (list_breaks b) _ f.2, w))
  case_fine v true b more S live (Ran es Continued k l cs) t next there w f g =
      (f.0, f.1, (or_left (list_continues b) _ f.2.0, w))
  case_fine v false b more S live (Ran es Continued k l cs) t next there w f g =
      (f.0, f.1, (or_left (list_continues b) _ f.2.0, w))
  case_fine v true b more S live (Ran es o k l cs) t next there w f g = f
  case_fine v false b more S live (Ran es o k l cs) t next there w f g = f

  -- a case that is passed over
  more_fine : (v : SwitchValue) (falls : Bool) (b : Body) (more : Cases) (S : Setting) (r : Run) (t : List Arrival) →
      has_no_case more ≡ false → Fine S (CasesEnd more S) r t → Fine S (CasesEnd (OneCase v falls b more) S) r t
  more_fine v falls b more S (Ran es Next i l cs) t none f = (
    f.0,
    f.1,
    (
      or_right (list_breaks b) _ (or_right (list_goes_on b && (not falls || has_no_case more)) _
          (subst (λ c. (c || cases_go_on more) ≡ true) none f.2.0)),
      f.2.1,
    ),
  )
  more_fine v falls b more S (Ran es Broken i l cs) t none f = absurd f.2
  more_fine v falls b more S (Ran es Continued i l cs) t none f =
      (f.0, f.1, (or_right (list_continues b) _ f.2.0, f.2.1))
  more_fine v falls b more S (Ran es Returned i l cs) t none f = f
  more_fine v falls b more S (Ran es Ended i l cs) t none f = f
  more_fine v falls b more S (Ran es Stopped i l cs) t none f = f
  more_fine v falls b more S (Ran es Stuck i l cs) t none f = f

  passed_fine : (v : SwitchValue) (falls : Bool) (b : Body) (more : Cases) (S : Setting) (k c : ℕ) (p : Position)
      (cuts : List (Option ℕ)) (live : Handles) (cs : List ℕ) →
      Fine S (CasesEnd more S) (run_cases more n k (Some c) p cuts live cs)
      (trail_cases more n k (Some c) p cuts live cs) →
      Fine S (CasesEnd (OneCase v falls b more) S) (run_cases more n k (Some c) p cuts live cs)
      (trail_cases more n k (Some c) p cuts live cs)
  passed_fine v falls b NoCase S k c p cuts live cs f = (tt, tt, tt)
  passed_fine v falls b (OneCase v' falls' b' more) S k c p cuts live cs f =
      more_fine v falls b (OneCase v' falls' b' more) S _ _ refl f

  -- a Switch ends as its cases do
  cases_fine : (h : ℕ) (cases : Cases) (S : Setting) (r : Run) (t : List Arrival) → has_no_case cases ≡ false →
      Fine S (CasesEnd cases S) r t → Fine S (StmtEnds (Switch h cases) S) r t
  cases_fine h cases S (Ran es Next i l cs) t none f =
      (f.0, f.1, (subst (λ c. (c || cases_go_on cases) ≡ true) none f.2.0, f.2.1))
  cases_fine h cases S (Ran es Broken i l cs) t none f = absurd f.2
  cases_fine h cases S (Ran es Continued i l cs) t none f = f
  cases_fine h cases S (Ran es Returned i l cs) t none f = f
  cases_fine h cases S (Ran es Ended i l cs) t none f = f
  cases_fine h cases S (Ran es Stopped i l cs) t none f = f
  cases_fine h cases S (Ran es Stuck i l cs) t none f = f

  switch_fine : (h : ℕ) (cases : Cases) (S : Setting) (c : ℕ) (p : Position) (cuts : List (Option ℕ))
      (live : Handles) (cs : List ℕ) →
      Fine S (CasesEnd cases S) (run_cases cases n 0 (Some c) p cuts live cs)
      (trail_cases cases n 0 (Some c) p cuts live cs) →
      Fine S (StmtEnds (Switch h cases) S) (run_cases cases n 0 (Some c) p cuts live cs)
      (trail_cases cases n 0 (Some c) p cuts live cs)
  switch_fine h NoCase S c p cuts live cs f = (tt, tt, tt)
  switch_fine h (OneCase v falls b more) S c p cuts live cs f =
      cases_fine h (OneCase v falls b more) S _ _ refl f

  -- by a choice
  choice_fine : (S : Setting) (E : Outcome → Handles → Type 0) (live : Handles) (cs : List ℕ)
      (go : ℕ → List ℕ → Run) (there : ℕ → List ℕ → List Arrival) → E Stopped live →
      ((c : ℕ) (rest : List ℕ) → Fine S E (go c rest) (there c rest)) →
      Fine S E (by_choice live cs go) (trail_by_choice cs there)
  choice_fine S E live [] go there s f = (tt, tt, s)
  choice_fine S E live (c ∷ cs) go there s f = f c cs

  zero_fine : (S : Setting) (E : Outcome → Handles → Type 0) (c : ℕ) (a b : List ℕ → Run)
      (t u : List ℕ → List Arrival) (cs : List ℕ) → ((cs : List ℕ) → Fine S E (a cs) (t cs)) →
      ((cs : List ℕ) → Fine S E (b cs) (u cs)) → Fine S E (at_zero c a b cs) (trail_at_zero c t u cs)
  zero_fine S E zero a b t u cs f g = f cs
  zero_fine S E (suc c) a b t u cs f g = g cs

  prefix_fine : (S : Setting) (E : Outcome → Handles → Type 0) (r : Run) (t u : List Arrival) → AllByRecursion Q t →
      AllByRecursion A t → Fine S E r u → Fine S E r (t ++ u)
  prefix_fine S E (Ran es o i live cs) t u q a f =
      (all_append Q t u q f.0, settled_after (able_of S o) t u a f.1, f.2)

  -- the turns of a Loop
  module _ (b c : Body) (S : Setting) (p : Position) (cuts : List (Option ℕ)) (live : Handles)
      (lives : Within S.must live) where
    abbrev condition_arrival : ℕ → Option ℕ → Handles → Arrival
    condition_arrival h cut l =
        record { node = BreakIfNode h; position = p ++ In Condition 0 ∷ []; cuts = cuts ++ cut ∷ []; live = l }

    abbrev LoopEnds : Option ℕ → Outcome → Handles → Type 0
    LoopEnds q o l = StmtEnds (Loop b c q) S o l

    closing_fine : (q cut : Option ℕ) (l : Handles) (cs : List ℕ) (again : List ℕ → Run)
        (there : List ℕ → List Arrival) → turn_goes_on b ≡ true → list_goes_on c ≡ true →
        ((h : ℕ) → q ≡ Some h → Q (condition_arrival h cut l) × A (condition_arrival h cut l)) →
        ((cs : List ℕ) → Fine S (LoopEnds q) (again cs) (there cs)) →
        Fine S (LoopEnds q) (closing q live cs again) (trail_closing q p (cuts ++ cut ∷ []) l cs there)
    closing_fine None cut l cs again there turned on heard g = g cs
    closing_fine (Some h) cut l cs again there turned on heard g =
        cons_fine S (LoopEnds (Some h)) (condition_arrival h cut l) _ _ (heard h refl).0 (heard h refl).1
        (choice_fine S (LoopEnds (Some h)) live cs _ _ tt (λ k rest. zero_fine S (LoopEnds (Some h)) k _ again
        (λ over. []) there rest (λ over. (
          tt,
          tt,
          (
            or_right (list_breaks b) _ (and_both (turn_goes_on b) _ turned (and_both (list_goes_on c) true on refl)),
            lives,
          ),
        )) g))

    module _ (q : Option ℕ) (heard : (cut : Option ℕ) (l : Handles) (h : ℕ) → turn_goes_on b ≡ true →
        list_goes_on c ≡ true → Within (with_body (with_sure S.must b) c) l → q ≡ Some h →
        Q (condition_arrival h cut l) × A (condition_arrival h cut l)) where
      close_fine : (cut : Option ℕ) (r : Run) (t : List Arrival) (again : List ℕ → Run)
          (there : List ℕ → List Arrival) → turn_goes_on b ≡ true →
          Fine (in_continuing b S) (ListEnds c (in_continuing b S)) r t →
          ((cs : List ℕ) → Fine S (LoopEnds q) (again cs) (there cs)) →
          Fine S (LoopEnds q) (then_close cut r q p cuts live again)
          (where_next t r (λ l rest. trail_closing q p (cuts ++ cut ∷ []) l rest there))
      close_fine cut (Ran es Next i l cs) t again there turned f g =
          after_fine S (LoopEnds q) es _ _ (after_fine S (LoopEnds q)
          (recorded (node_acts (condition_node q)) [] l (p ++ In Condition 0 ∷ []) (cuts ++ cut ∷ [])) _ _
          (prefix_fine S (LoopEnds q) _ t _ f.0 f.1
          (closing_fine q cut l cs again there turned f.2.0
          (λ h e. heard cut l h turned f.2.0 f.2.1 e) g)))
      close_fine cut (Ran es Broken i l cs) t again there turned f g = (f.0, f.1, tt)
      close_fine cut (Ran es Continued i l cs) t again there turned f g = (f.0, f.1, tt)
      close_fine cut (Ran es Returned i l cs) t again there turned f g = (f.0, f.1, tt)
      close_fine cut (Ran es Ended i l cs) t again there turned f g = (f.0, f.1, tt)
      close_fine cut (Ran es Stopped i l cs) t again there turned f g = (f.0, f.1, tt)
      close_fine cut (Ran es Stuck i l cs) t again there turned f g = (f.0, f.1, tt)

      module _ (continuing : Option ℕ → Handles → List ℕ → Run)
          (behind : Option ℕ → Handles → List ℕ → List Arrival)
          (goes : (cut : Option ℕ) (l : Handles) (cs : List ℕ) → turn_goes_on b ≡ true →
          Within (with_sure S.must b) l →
          Fine (in_continuing b S) (ListEnds c (in_continuing b S)) (continuing cut l cs) (behind cut l cs)) where
        abbrev turn_trail : Run → List Arrival → (List ℕ → List Arrival) → List Arrival
        turn_trail r t there =
            where_turned t r (λ cut l rest. where_next (behind cut l rest) (continuing cut l rest)
            (λ l' rest'. trail_closing q p (cuts ++ cut ∷ []) l' rest' there))

        turn_fine : (r : Run) (t : List Arrival) (again : List ℕ → Run) (there : List ℕ → List Arrival) →
            Fine (in_body S) (ListEnds b (in_body S)) r t →
            ((cs : List ℕ) → Fine S (LoopEnds q) (again cs) (there cs)) →
            Fine S (LoopEnds q) (turn r continuing q p cuts live again) (turn_trail r t there)
        turn_fine (Ran es Next i l cs) t again there f g =
            let turned = or_left (list_goes_on b) (list_continues b) f.2.0 in
            after_fine S (LoopEnds q) es _ _ (prefix_fine S (LoopEnds q) _ t _ f.0 f.1
            (close_fine None (continuing None l cs) (behind None l cs) again there turned
            (goes None l cs turned (within_all _ _ l (sure_below b S.must) f.2.1)) g))
        turn_fine (Ran es Broken i l cs) t again there f g = (f.0, f.1, (or_left (list_breaks b) _ f.2, lives))
        turn_fine (Ran es Continued i l cs) t again there f g =
            let turned = or_right (list_goes_on b) (list_continues b) f.2.0 in
            after_fine S (LoopEnds q) es _ _ (prefix_fine S (LoopEnds q) _ t _ f.0 f.1
            (close_fine (Some i) (continuing (Some i) l cs) (behind (Some i) l cs) again there turned
            (goes (Some i) l cs turned f.2.1) g))
        turn_fine (Ran es Returned i l cs) t again there f g = (f.0, f.1, tt)
        turn_fine (Ran es Ended i l cs) t again there f g = (f.0, f.1, tt)
        turn_fine (Ran es Stopped i l cs) t again there f g = (f.0, f.1, tt)
        turn_fine (Ran es Stuck i l cs) t again there f g = (f.0, f.1, tt)

        turns_fine : (m : ℕ) (body : List ℕ → Run) (there : List ℕ → List Arrival) →
            ((cs : List ℕ) → Fine (in_body S) (ListEnds b (in_body S)) (body cs) (there cs)) →
            (cs : List ℕ) → Fine S (LoopEnds q) (turns m body continuing q p cuts live cs)
            (trail_turns m body there continuing behind q p cuts cs)
        turns_fine zero body there f cs = (tt, tt, tt)
        turns_fine (suc m) body there f cs =
            turn_fine (body cs) (there cs) _ _ (f cs) (λ rest. turns_fine m body there f rest)

  -- of the first statement of a list, and of the others
  first_heard : (x : Stmt) (b : Body) (S : Setting) (part : Part) (i : ℕ) (p : Position) →
      HeardBody (Then x b) S part i p → HeardStmt x S (p ++ In part i ∷ [])
  first_heard x b S part i p heard r a eq en w m =
      let e : i ≡ i + 0 = omega arith in
      heard 0 r a (eq ∙ (append_assoc p (In part i ∷ []) r ∙ ap (λ m. p ++ In part m ∷ r) e)) en w m

  others_heard : (x : Stmt) (b : Body) (S : Setting) (part : Part) (i : ℕ) (p : Position) → goes_on x ≡ true →
      HeardBody (Then x b) S part i p → HeardBody b (past x S) part (suc i) p
  others_heard x b S part i p on heard j r a eq en w m =
      let e : suc i + j ≡ i + suc j = omega arith in
      let come : may_come (Then x b) (In Root (suc j) ∷ r) ≡ true =
      subst (λ g. ((g && earlier_go_on b j) && (lists_go_on (statement_at b j) r
      && may_come (list_below (statement_at b j) r) r)) ≡ true) (sym on) m in
      heard (suc j) r a (eq ∙ ap (λ m. p ++ In part m ∷ r) e) en w come

  -- a list's first index is 0
  pub from_start : (b : Body) (S : Setting) (part : Part) (p : Position) →
      ((j : ℕ) (r : Position) (a : Arrival) → a.position ≡ p ++ In part j ∷ r →
      a.node ≡ node_at b (In Root j ∷ r) → Within (known_at with_sure S.must b (In Root j ∷ r)) a.live →
      may_come b (In Root j ∷ r) ≡ true → Heard (node_at b (In Root j ∷ r)) S r a) → HeardBody b S part 0 p
  from_start b S part p heard j r a eq en w m =
      let e : 0 + j ≡ j = omega arith in heard j r a (eq ∙ ap (λ m. p ++ In part m ∷ r) e) en w m

  -- of the first case, and of the others
  first_case_heard : (v : SwitchValue) (falls : Bool) (b : Body) (more : Cases) (S : Setting) (k : ℕ)
      (p : Position) → HeardCases (OneCase v falls b more) S k p → HeardBody b (in_case S) (Case k) 0 p
  first_case_heard v falls b more S k p heard j r a eq en w m =
      let e : 0 + j ≡ j = omega arith in
      let e' : k ≡ k + 0 = omega arith in
      heard 0 j r a (eq ∙ (ap (λ m. p ++ In (Case k) m ∷ r) e ∙ ap (λ m. p ++ In (Case m) j ∷ r) e')) en w m

  more_heard : (v : SwitchValue) (falls : Bool) (b : Body) (more : Cases) (S : Setting) (k : ℕ) (p : Position) →
      HeardCases (OneCase v falls b more) S k p → HeardCases more S (suc k) p
  more_heard v falls b more S k p heard m i r a eq en w come =
      let e : suc k + m ≡ k + suc m = omega arith in
      heard (suc m) i r a (eq ∙ ap (λ m. p ++ In (Case m) i ∷ r) e) en w come

  -- inside the parts of a statement
  switch_heard : (h : ℕ) (cases : Cases) (S : Setting) (p : Position) → HeardStmt (Switch h cases) S p →
      HeardCases cases S 0 p
  switch_heard h cases S p heard m i r a eq en w come =
      let e : 0 + m ≡ m = omega arith in
      heard (In (Case m) i ∷ r) a (eq ∙ ap (λ k. p ++ In (Case k) i ∷ r) e) en w come

  continuing_heard : (b c : Body) (q : Option ℕ) (S : Setting) (p : Position) → turn_goes_on b ≡ true →
      HeardStmt (Loop b c q) S p → HeardBody c (in_continuing b S) Continuing 0 p
  continuing_heard b c q S p turned heard =
      from_start c (in_continuing b S) Continuing p (λ j r a eq en w come.
      heard (In Continuing j ∷ r) a eq en w (and_both (turn_goes_on b) _ turned come))

  condition_heard : (b c : Body) (q : Option ℕ) (S : Setting) (p : Position) (a : Arrival) (h : ℕ) →
      turn_goes_on b ≡ true → list_goes_on c ≡ true → Within (with_body (with_sure S.must b) c) a.live → q ≡ Some h →
      a.position ≡ p ++ In Condition 0 ∷ [] → a.node ≡ BreakIfNode h → HeardStmt (Loop b c q) S p → Q a × A a
  condition_heard b c None S p a h turned on w e eq en heard = cc
  condition_heard b c (Some g) S p a h turned on w e eq en heard =
      let here = heard (In Condition 0 ∷ []) a eq (en ∙ ap condition_node (sym e)) w
      (and_both (turn_goes_on b && list_goes_on c) true (and_both (turn_goes_on b) _ turned on) refl) in
      (here.0, here.2 tt)

  settle_one : (able : Bool) (a : Arrival) → (A a → able ≡ true) → (able ≡ true → A a) → Settled able (a ∷ [])
  settle_one true a from to = (to refl, tt)
  settle_one false a from to =
      record { before = []; last = a; is = refl; able = tt; lacks = λ y. not_true (from y) }

  kill_fine : (S : Setting) (live : Handles) (cs : List ℕ) → Within S.must live →
      Fine S (StmtEnds Kill S) (by_choice live cs (λ c rest. at_zero c (λ rest. Ran [] Ended 0 live rest)
      (λ rest. Ran [] Next 0 live rest) rest)) []
  kill_fine S live [] w = (tt, tt, tt)
  kill_fine S live (zero ∷ cs) w = (tt, tt, tt)
  kill_fine S live (suc c ∷ cs) w = (tt, tt, (refl, w))

  abbrev arrival : Stmt → Position → List (Option ℕ) → Handles → Arrival
  arrival x p cuts live = record { node = StatementNode x; position = p; cuts = cuts; live = live }

  mutual
    stmt_law : (x : Stmt) (S : Setting) (p : Position) (cuts : List (Option ℕ)) (live : Handles) (cs : List ℕ) →
        Within S.must live → HeardStmt x S p → Fine S (StmtEnds x S) (run_stmt x n p cuts live cs)
        (arrival x p cuts live ∷ trail_stmt x n p cuts live cs)
    stmt_law (Leaf acts x' sp) S p cuts live cs w heard =
        let here = heard [] (arrival (Leaf acts x' sp) p cuts live) (sym (append-nil p)) refl w refl in
        ((here.0, tt), (here.2 tt, tt), (refl, acts_mono acts S.must live w))
    stmt_law (Block b) S p cuts live cs w heard =
        let here = heard [] (arrival (Block b) p cuts live) (sym (append-nil p)) refl w refl in
        cons_fine S (StmtEnds (Block b) S) _ _ _ here.0 (here.2 tt)
        (left_fine (Block b) S b live (run_body b n Inner 0 p cuts live cs) _ (λ e. e) (λ e. e) (λ e. e) w w
        (body_law b S Inner 0 p cuts live cs w (from_start b S Inner p (λ j r. heard (In Inner j ∷ r)))))
    stmt_law (Branch h a r) S p cuts live cs w heard =
        let here = heard [] (arrival (Branch h a r) p cuts live) (sym (append-nil p)) refl w refl in
        let E : Outcome → Handles → Type 0 = StmtEnds (Branch h a r) S in
        after_fine S E (recorded (Use h ∷ []) [] live p cuts) _ _
        (cons_fine S E _ _ _ here.0 (here.2 tt)
        (choice_fine S E live cs _ _ tt (λ c rest. zero_fine S E c _ _ _ _ rest
        (λ rest. left_fine (Branch h a r) S a live (run_body a n Accept 0 p cuts live rest) _
        (or_left _ _) (or_left _ _) (or_left _ _) w w
        (body_law a S Accept 0 p cuts live rest w (from_start a S Accept p (λ j p'. heard (In Accept j ∷ p')))))
        (λ rest. left_fine (Branch h a r) S r live (run_body r n Reject 0 p cuts live rest) _
        (or_right (list_goes_on a) _) (or_right (list_breaks a) _) (or_right (list_continues a) _) w w
        (body_law r S Reject 0 p cuts live rest w (from_start r S Reject p (λ j p'. heard (In Reject j ∷ p'))))))))
    stmt_law (Switch h cases) S p cuts live cs w heard =
        let here = heard [] (arrival (Switch h cases) p cuts live) (sym (append-nil p)) refl w refl in
        let E : Outcome → Handles → Type 0 = StmtEnds (Switch h cases) S in
        after_fine S E (recorded (Use h ∷ []) [] live p cuts) _ _
        (cons_fine S E _ _ _ here.0 (here.2 tt)
        (choice_fine S E live cs _ _ tt (λ c rest. switch_fine h cases S c p cuts live rest
        (cases_law cases S 0 (Some c) p cuts live rest w (switch_heard h cases S p heard)))))
    stmt_law (Loop b c q) S p cuts live cs w heard =
        let here = heard [] (arrival (Loop b c q) p cuts live) (sym (append-nil p)) refl w refl in
        cons_fine S (StmtEnds (Loop b c q) S) _ _ _ here.0 (here.2 tt)
        (turns_fine b c S p cuts live w q
        (λ cut l h turned on within e. condition_heard b c q S p _ h turned on within e refl refl heard)
        (λ cut l rest. run_body c n Continuing 0 p (cuts ++ cut ∷ []) l rest)
        (λ cut l rest. trail_body c n Continuing 0 p (cuts ++ cut ∷ []) l rest)
        (λ cut l rest turned within. body_law c (in_continuing b S) Continuing 0 p (cuts ++ cut ∷ []) l rest within
        (continuing_heard b c q S p turned heard)) n
        (λ rest. run_body b n LoopBody 0 p cuts live rest) (λ rest. trail_body b n LoopBody 0 p cuts live rest)
        (λ rest. body_law b (in_body S) LoopBody 0 p cuts live rest w
        (from_start b (in_body S) LoopBody p (λ j r. heard (In LoopBody j ∷ r)))) cs)
    stmt_law Break S p cuts live cs w heard =
        let here = heard [] (arrival Break p cuts live) (sym (append-nil p)) refl w refl in
        ((here.0, tt), settle_one S.brk _ here.1 here.2, refl)
    stmt_law Continue S p cuts live cs w heard =
        let here = heard [] (arrival Continue p cuts live) (sym (append-nil p)) refl w refl in
        ((here.0, tt), settle_one S.cont _ here.1 here.2, (refl, w))
    stmt_law (Return v) S p cuts live cs w heard =
        let here = heard [] (arrival (Return v) p cuts live) (sym (append-nil p)) refl w refl in
        ((here.0, tt), settle_one S.ret _ here.1 here.2, tt)
    stmt_law Kill S p cuts live cs w heard =
        let here = heard [] (arrival Kill p cuts live) (sym (append-nil p)) refl w refl in
        cons_fine S (StmtEnds Kill S) _ _ _ here.0 (here.2 tt) (kill_fine S live cs w)

    pub body_law : (b : Body) (S : Setting) (part : Part) (i : ℕ) (p : Position) (cuts : List (Option ℕ))
        (live : Handles) (cs : List ℕ) → Within S.must live → HeardBody b S part i p →
        Fine S (ListEnds b S) (run_body b n part i p cuts live cs) (trail_body b n part i p cuts live cs)
    body_law Done S part i p cuts live cs w heard = (tt, tt, (refl, w))
    body_law (Then x b) S part i p cuts live cs w heard =
        then_fine x b S i (run_stmt x n (p ++ In part i ∷ []) cuts live cs) _ _ _
        (stmt_law x S (p ++ In part i ∷ []) cuts live cs w (first_heard x b S part i p heard))
        (λ l rest on within. body_law b (past x S) part (suc i) p cuts l rest within
        (others_heard x b S part i p on heard))

    cases_law : (cases : Cases) (S : Setting) (k : ℕ) (start : Option ℕ) (p : Position) (cuts : List (Option ℕ))
        (live : Handles) (cs : List ℕ) → Within S.must live → HeardCases cases S k p →
        Fine S (CasesEnd cases S) (run_cases cases n k start p cuts live cs)
        (trail_cases cases n k start p cuts live cs)
    cases_law NoCase S k None p cuts live cs w heard = (tt, tt, (refl, w))
    cases_law NoCase S k (Some c) p cuts live cs w heard = (tt, tt, tt)
    cases_law (OneCase v falls b more) S k (Some (suc c)) p cuts live cs w heard =
        passed_fine v falls b more S (suc k) c p cuts live cs
        (cases_law more S (suc k) (Some c) p cuts live cs w (more_heard v falls b more S k p heard))
    cases_law (OneCase v falls b more) S k (Some zero) p cuts live cs w heard =
        case_fine v falls b more S live (run_body b n (Case k) 0 p cuts live cs) _ _ _ w
        (body_law b (in_case S) (Case k) 0 p cuts live cs w (first_case_heard v falls b more S k p heard))
        (λ rest. cases_law more S (suc k) None p cuts live rest w (more_heard v falls b more S k p heard))
    cases_law (OneCase v falls b more) S k None p cuts live cs w heard =
        case_fine v falls b more S live (run_body b n (Case k) 0 p cuts live cs) _ _ _ w
        (body_law b (in_case S) (Case k) 0 p cuts live cs w (first_case_heard v falls b more S k p heard))
        (λ rest. cases_law more S (suc k) None p cuts live rest w (more_heard v falls b more S k p heard))
