-- Every run records what the positions say.
use Rattle.std.proofs.lemmas.List.{append-nil}
use Rattle.std.specs.List.{AllByRecursion}
use Rattle.std.specs.Prelude.{ℕ, zero, suc, Bool, true, false, List, Option, Some, None, ◌≡◌, ◌∷◌, ◌++◌, [], ◌+◌}
use Rattle.std.proofs.Common.{refl, sym, ap, subst, arith, append_assoc, append-nil, ◌∙◌}
use Rattle.ir_statements.specs.Tree.{Act, Stmt, Body, Cases, Use, Put, Leaf, Block, Branch, Switch, Loop, Break, Continue, Return, Kill, Done, Then, NoCase, OneCase}
use Rattle.ir_statements.specs.View.{used_if}
use Rattle.ir_statements.specs.declared.operations.SwitchValue.{SwitchValue}
use Rattle.naga_runs.specs.Handles.{Handles, with_handle}
use Rattle.naga_runs.specs.Machine.{Event, Outcome, Run, recorded, after, left, by_choice, at_zero, then_rest, then_case, closing, then_close, turn, turns, run_stmt, run_body, run_cases, whole, Next, Broken, Continued, Returned, Ended, Stopped, Stuck, Ran}
use Rattle.naga_runs.specs.Must.{holds_continue, body_holds_continue, cases_hold_continue, with_sure}
use Rattle.naga_runs.specs.Positions.{Part, Position, case_at, condition_node, node_at, Root, Inner, Accept, Reject, Case, LoopBody, Continuing, Condition, In}
use Rattle.naga_runs.specs.PutsAndUses.{acts_of, node_acts, with_acts, with_body}
use Rattle.naga_runs.specs.Scope.{known_at}
use Rattle.naga_runs.specs.Skipped.{with_rest, skipped_from}
use Rattle.naga_runs.proofs.Bools.{not_true, or_left, or_right}
use Rattle.naga_runs.proofs.Contexts.{node_in, known_in, skipped_in, Context, At, Lives, in_case, StmtOk, BodyOk, CasesOk, past, in_body, in_continuing, block_ok, accept_ok, reject_ok, switch_ok, loop_body_ok, continuing_ok, first_ok, others_ok, first_case_ok, other_cases_ok, Ends, BodyEnds, quiet, body_cut}
use Rattle.naga_runs.proofs.EachOf.{all_append}
use Rattle.naga_runs.proofs.Tallies.{Tallied, Within, within_all, kept, acts_mono, acts-append, Fresh, acts_tally, sure_below, sure_cut, sure_on}

module _ (n : ℕ) (P : Event → Type 0) where
  -- what is recorded, and how it ends
  abbrev pub Fine : (Outcome → ℕ → Handles → Type 0) → Run → Type 0
  Fine E (Ran es o i live cs) = AllByRecursion P es × E o i live

  abbrev pub StmtFine : Stmt → Context → Run → Type 0
  StmtFine x C r = Fine (λ o i live. Ends C (past x C) (holds_continue x) o live) r

  after_fine : (E : Outcome → ℕ → Handles → Type 0) (es : List Event) (r : Run) → AllByRecursion P es → Fine E r →
      Fine E (after es r)
  after_fine E es (Ran fs o i live cs) a f = (all_append P es fs a f.0, f.1)

  choice_fine : (E : Outcome → ℕ → Handles → Type 0) (live : Handles) (cs : List ℕ) (go : ℕ → List ℕ → Run) →
      E Stopped 0 live → ((c : ℕ) (rest : List ℕ) → Fine E (go c rest)) → Fine E (by_choice live cs go)
  choice_fine E live [] go s f = (tt, s)
  choice_fine E live (c ∷ cs) go s f = f c cs

  zero_fine : (E : Outcome → ℕ → Handles → Type 0) (c : ℕ) (a b : List ℕ → Run) (cs : List ℕ) →
      ((cs : List ℕ) → Fine E (a cs)) → ((cs : List ℕ) → Fine E (b cs)) → Fine E (at_zero c a b cs)
  zero_fine E zero a b cs fa fb = fa cs
  zero_fine E (suc c) a b cs fa fb = fb cs

  -- P holds of each event inside
  abbrev pub Heard : (Position → List (Option ℕ) → Act → List Act → Handles → Type 0) → (Position → Position) →
      List (Option ℕ) → Type 0
  Heard G at cuts =
      (r : Position) (ks : List (Option ℕ)) (q : Position) (qs : List (Option ℕ)) (a : Act) (done : List Act)
      (live : Handles) →
      q ≡ at r → qs ≡ cuts ++ ks → G r ks a done live → P
      (record { act = a; done = done; live = live; position = q; cuts = qs })

  abbrev pub HeardStmt : Stmt → Context → Position → List (Option ℕ) → Type 0
  HeardStmt x C p cuts =
      Heard (λ r ks. At (known_in with_body x C.scope r) (skipped_in x C.skip r ks) (known_in with_sure x C.must r)
      (node_acts (node_in x r))) (λ r. p ++ r) cuts

  abbrev pub HeardBody : Body → Context → Part → ℕ → Position → List (Option ℕ) → Type 0
  HeardBody b C part i p cuts =
      (j : ℕ) →
      Heard (λ r ks. At (known_at with_body C.scope b (In Root j ∷ r)) (skipped_from C.skip b (In Root j ∷ r) ks)
      (known_at with_sure C.must b (In Root j ∷ r)) (node_acts (node_at b (In Root j ∷ r))))
      (λ r. p ++ In part (i + j) ∷ r) cuts

  abbrev pub HeardCases : Cases → Context → ℕ → Position → List (Option ℕ) → Type 0
  HeardCases cs C k p cuts =
      (m i : ℕ) →
      Heard (λ r ks. At (known_at with_body C.scope (case_at cs m) (In Root i ∷ r))
      (skipped_from C.skip (case_at cs m) (In Root i ∷ r) ks)
      (known_at with_sure C.must (case_at cs m) (In Root i ∷ r))
      (node_acts (node_at (case_at cs m) (In Root i ∷ r)))) (λ r. p ++ In (Case (k + m)) i ∷ r) cuts

  -- the acts of a statement
  rec_law : (S K M : Handles) (whole acts done : List Act) (live : Handles) (p : Position)
      (cuts : List (Option ℕ)) → whole ≡ done ++ acts → Tallied live (with_acts S done) K →
      Within (with_acts M done) live → Within K S → Fresh
      (with_acts S done) acts → ((a : Act) (d : List Act) (l : Handles) → At S K M whole a d l → P
      (record { act = a; done = d; live = l; position = p; cuts = cuts })) → AllByRecursion P
      (recorded acts done live p cuts)
  rec_law S K M whole [] done live p cuts e t w k f heard = tt
  rec_law S K M whole (Use h ∷ acts) done live p cuts e t w k f heard = (
    heard (Use h) done live (record { rest = acts; split = e; tally = t; within = k; sure = w }),
    rec_law S K M whole acts (done ++ Use h ∷ []) live p cuts (e ∙ sym (append_assoc done (Use h ∷ []) acts))
        (subst (λ s. Tallied live s K) (sym (acts-append done (Use h ∷ []) S)) t)
        (subst (λ m. Within m live) (sym (acts-append done (Use h ∷ []) M)) w) k
        (subst (λ s. Fresh s acts) (sym (acts-append done (Use h ∷ []) S)) f) heard,
  )
  rec_law S K M whole (Put h ∷ acts) done live p cuts e t w k f heard = (
    heard (Put h) done live (record { rest = acts; split = e; tally = t; within = k; sure = w }),
    rec_law S K M whole acts (done ++ Put h ∷ []) (with_handle live h) p cuts
        (e ∙ sym (append_assoc done (Put h ∷ []) acts))
        (subst (λ s. Tallied (with_handle live h) s K) (sym (acts-append done (Put h ∷ []) S))
        (acts_tally (Put h ∷ []) live (with_acts S done) K (f.0, tt) t))
        (subst (λ m. Within m (with_handle live h)) (sym (acts-append done (Put h ∷ []) M))
        (acts_mono (Put h ∷ []) (with_acts M done) live w)) k
        (subst (λ s. Fresh s acts) (sym (acts-append done (Put h ∷ []) S)) f.1) heard,
  )

  -- those that stand at a statement itself
  own_law : (C : Context) (acts : List Act) (live : Handles) (p : Position) (cuts : List (Option ℕ)) →
      Lives C live → Fresh C.scope acts → ((a : Act) (d : List Act)
      (l : Handles) → At C.scope C.skip C.must acts a d l →
      P (record { act = a; done = d; live = l; position = p; cuts = cuts })) → AllByRecursion P
      (recorded acts [] live p cuts)
  own_law C acts live p cuts l f heard = rec_law C.scope C.skip C.must acts acts [] live p cuts refl l.tally l.sure
      (kept live C.scope C.skip l.tally) f heard

  here : (G : Position → List (Option ℕ) → Act → List Act → Handles →
      Type 0) (p : Position) (cuts : List (Option ℕ)) → Heard G (λ r. p ++ r) cuts → (a : Act) (d : List Act)
      (l : Handles) → G [] [] a d l → P (record { act = a; done = d; live = l; position = p; cuts = cuts })
  here G p cuts heard a d l g = heard [] [] p cuts a d l (sym (append-nil p)) (sym (append-nil cuts)) g

  -- a list that a statement runs, and then leaves
  left_fine : (x : Stmt) (C D : Context) (b : Body) (i : ℕ) (live : Handles) (r : Run) →
      (D.brk ≡ true → C.brk ≡ true) → (D.cont ≡ true → C.cont ≡ true) → (D.ret ≡ true → C.ret ≡ true) →
      (body_holds_continue b ≡ true → holds_continue x ≡ true) → Lives C live → Lives (past x C) live → Fine
      (BodyEnds b D i) r → StmtFine x C (left live r)
  left_fine x C D b i live (Ran es Next k l cs) br co re ho now then f = (f.0, then)
  left_fine x C D b i live (Ran es Broken k l cs) br co re ho now then f = (f.0, br f.1)
  left_fine x C D b i live (Ran es Continued k l cs) br co re ho now then f =
      (f.0, (co f.1.able, ho f.1.holds, now))
  left_fine x C D b i live (Ran es Returned k l cs) br co re ho now then f = (f.0, re f.1)
  left_fine x C D b i live (Ran es Ended k l cs) br co re ho now then f = f
  left_fine x C D b i live (Ran es Stopped k l cs) br co re ho now then f = f
  left_fine x C D b i live (Ran es Stuck k l cs) br co re ho now then f = absurd f.1

  -- the rest of a list, behind a statement that gave "next"
  rest_fine : (x : Stmt) (b : Body) (C : Context) (i : ℕ) (es : List Event) (r : Run) → AllByRecursion P es →
      Fine (BodyEnds b (past x C) (suc i)) r → Fine (BodyEnds (Then x b) C i) (after es r)
  rest_fine x b C i es (Ran fs Next k l cs) a f = (all_append P es fs a f.0, f.1)
  rest_fine x b C i es (Ran fs Broken k l cs) a f = (all_append P es fs a f.0, f.1)
  rest_fine x b C i es (Ran fs Continued k l cs) a f = (
    all_append P es fs a f.0,
    record {
      place = suc f.1.place;
      is = f.1.is ∙ omega arith;
      able = f.1.able;
      holds = or_right (holds_continue x) _ f.1.holds;
      tally = f.1.tally;
      sure = sure_on x b C.must l f.1.sure;
    },
  )
  rest_fine x b C i es (Ran fs Returned k l cs) a f = (all_append P es fs a f.0, f.1)
  rest_fine x b C i es (Ran fs Ended k l cs) a f = (all_append P es fs a f.0, tt)
  rest_fine x b C i es (Ran fs Stopped k l cs) a f = (all_append P es fs a f.0, tt)
  rest_fine x b C i es (Ran fs Stuck k l cs) a f = absurd f.1

  -- a statement, and the rest of its list
  then_fine : (x : Stmt) (b : Body) (C : Context) (i : ℕ) (r : Run) (rest : Handles → List ℕ → Run) →
      BodyOk (Then x b) C → StmtFine x C r → ((l : Handles) (cs : List ℕ) → Lives (past x C) l → Fine
      (BodyEnds b (past x C) (suc i)) (rest l cs)) → Fine (BodyEnds (Then x b) C i) (then_rest i r rest)
  then_fine x b C i (Ran es Next k l cs) rest ok f g = rest_fine x b C i es (rest l cs) f.0 (g l cs f.1)
  then_fine x b C i (Ran es Broken k l cs) rest ok f g = f
  then_fine x b C i (Ran es Continued k l cs) rest ok f g = (
    f.0,
    record {
      place = 0;
      is = omega arith;
      able = f.1.0;
      holds = or_left (holds_continue x) _ f.1.1;
      tally = body_cut b l (with_acts C.scope (acts_of x)) C.skip (λ j p. ok.fresh (suc j) p)
          (subst (λ s. Tallied l s C.skip) (sym (quiet x C.scope f.1.1)) f.1.2.tally);
      sure = sure_cut x b C.must l f.1.1 f.1.2.sure;
    },
  )
  then_fine x b C i (Ran es Returned k l cs) rest ok f g = f
  then_fine x b C i (Ran es Ended k l cs) rest ok f g = f
  then_fine x b C i (Ran es Stopped k l cs) rest ok f g = f
  then_fine x b C i (Ran es Stuck k l cs) rest ok f g = absurd f.1

  -- more that may hold a Continue
  ends_more : (C D : Context) (h h' : Bool) (o : Outcome) (l : Handles) → (h ≡ true → h' ≡ true) → Ends C D h o l →
      Ends C D h' o l
  ends_more C D h h' Next l m e = e
  ends_more C D h h' Broken l m e = e
  ends_more C D h h' Continued l m e = (e.0, m e.1, e.2)
  ends_more C D h h' Returned l m e = e
  ends_more C D h h' Ended l m e = e
  ends_more C D h h' Stopped l m e = e
  ends_more C D h h' Stuck l m e = e

  more_fine : (C D : Context) (h h' : Bool) (r : Run) → (h ≡ true → h' ≡ true) → Fine (λ o i l. Ends C D h o l) r →
      Fine (λ o i l. Ends C D h' o l) r
  more_fine C D h h' (Ran es o i l cs) m f = (f.0, ends_more C D h h' o l m f.1)

  -- a case, and the next one where it falls through
  case_fine : (v : SwitchValue) (falls : Bool) (b : Body) (more : Cases) (C : Context) (live : Handles) (r : Run)
      (next : List ℕ → Run) → Lives C live → Fine (BodyEnds b (in_case C) 0) r →
      ((cs : List ℕ) → Fine (λ o i l. Ends C C (cases_hold_continue more) o l) (next cs)) →
      Fine (λ o i l. Ends C C (cases_hold_continue (OneCase v falls b more)) o l) (then_case falls live r next)
  case_fine v true b more C live (Ran es Next k l cs) next lives f g =
      after_fine (λ o i l. Ends C C (cases_hold_continue (OneCase v true b more)) o l) es (next cs) f.0
      (more_fine C C _ _ (next cs) (λ e. or_right (body_holds_continue b) _ e) (g cs))
  case_fine v false b more C live (Ran es Next k l cs) next lives f g = (f.0, lives)
  case_fine v falls b more C live (Ran es Broken k l cs) next lives f g = (f.0, lives)
  case_fine v falls b more C live (Ran es Continued k l cs) next lives f g =
      (f.0, (f.1.able, or_left (body_holds_continue b) _ f.1.holds, lives))
  case_fine v falls b more C live (Ran es Returned k l cs) next lives f g = f
  case_fine v falls b more C live (Ran es Ended k l cs) next lives f g = f
  case_fine v falls b more C live (Ran es Stopped k l cs) next lives f g = f
  case_fine v falls b more C live (Ran es Stuck k l cs) next lives f g = absurd f.1

  -- the turns of a Loop
  module _ (b c : Body) (q : Option ℕ) (C : Context) (p : Position) (cuts : List (Option ℕ)) (live : Handles)
      (lives : Lives C live) where
    abbrev in_condition : Option ℕ → Context
    in_condition cut = record (in_continuing b cut C)
        { scope = with_body (with_body C.scope b) c; must = with_body (with_sure C.must b) c }

    abbrev LoopEnds : Outcome → ℕ → Handles → Type 0
    LoopEnds o i l = Ends C C false o l

    module _ (heard : (cut : Option ℕ) (l : Handles) → Lives (in_condition cut) l → AllByRecursion P
        (recorded (node_acts (condition_node q)) [] l (p ++ In Condition 0 ∷ []) (cuts ++ cut ∷ []))) where
      closing_fine : (cond : Option ℕ) (cs : List ℕ) (again : List ℕ → Run) →
          ((cs : List ℕ) → Fine LoopEnds (again cs)) → Fine LoopEnds (closing cond live cs again)
      closing_fine None cs again g = g cs
      closing_fine (Some h) cs again g =
          choice_fine LoopEnds live cs _ tt (λ k rest. zero_fine LoopEnds k _ again rest (λ over. (tt, lives)) g)

      close_fine : (cut : Option ℕ) (r : Run) (again : List ℕ → Run) →
          Fine (BodyEnds c (in_continuing b cut C) 0) r → ((cs : List ℕ) → Fine LoopEnds (again cs)) → Fine LoopEnds
          (then_close cut r q p cuts live again)
      close_fine cut (Ran es Next k l cs) again f g =
          after_fine LoopEnds es _ f.0 (after_fine LoopEnds _ (closing q live cs again)
          (heard cut l (record { tally = f.1.0; sure = f.1.1 })) (closing_fine q cs again g))
      close_fine cut (Ran es Broken k l cs) again f g = absurd (not_true f.1)
      close_fine cut (Ran es Continued k l cs) again f g = absurd (not_true f.1.able)
      close_fine cut (Ran es Returned k l cs) again f g = absurd (not_true f.1)
      close_fine cut (Ran es Ended k l cs) again f g = f
      close_fine cut (Ran es Stopped k l cs) again f g = f
      close_fine cut (Ran es Stuck k l cs) again f g = absurd f.1

      module _ (continuing : Option ℕ → Handles → List ℕ → Run)
          (goes_on : (cut : Option ℕ) (l : Handles) (cs : List ℕ) → Lives (in_continuing b cut C) l →
          Fine (BodyEnds c (in_continuing b cut C) 0) (continuing cut l cs)) where
        turn_fine : (r : Run) (again : List ℕ → Run) → Fine (BodyEnds b (in_body C) 0) r →
            ((cs : List ℕ) → Fine LoopEnds (again cs)) → Fine LoopEnds (turn r continuing q p cuts live again)
        turn_fine (Ran es Next k l cs) again f g =
            after_fine LoopEnds es _ f.0 (close_fine None (continuing None l cs) again
            (goes_on None l cs (record { tally = f.1.0; sure = within_all _ _ l (sure_below b C.must) f.1.1 }))
            g)
        turn_fine (Ran es Broken k l cs) again f g = (f.0, lives)
        turn_fine (Ran es Continued k l cs) again f g =
            let place : f.1.place ≡ k = omega (arith, f.1.is) in
            after_fine LoopEnds es _ f.0 (close_fine (Some k) (continuing (Some k) l cs) again
            (goes_on (Some k) l cs
            (record {
              tally = subst (λ j. Tallied l (with_body C.scope b) (with_rest C.skip b j)) place
                  f.1.tally;
              sure = f.1.sure;
            })) g)
        turn_fine (Ran es Returned k l cs) again f g = f
        turn_fine (Ran es Ended k l cs) again f g = f
        turn_fine (Ran es Stopped k l cs) again f g = f
        turn_fine (Ran es Stuck k l cs) again f g = absurd f.1

        turns_fine : (m : ℕ) (body : List ℕ → Run) → ((cs : List ℕ) → Fine (BodyEnds b (in_body C) 0) (body cs)) →
            (cs : List ℕ) → Fine LoopEnds (turns m body continuing q p cuts live cs)
        turns_fine zero body f cs = (tt, tt)
        turns_fine (suc m) body f cs = turn_fine (body cs) _ (f cs) (λ rest. turns_fine m body f rest)

  -- a list's first index is 0
  pub from_start : (b : Body) (C : Context) (part : Part) (p : Position) (cuts : List (Option ℕ)) →
      ((j : ℕ) →
      Heard (λ r ks. At (known_at with_body C.scope b (In Root j ∷ r)) (skipped_from C.skip b (In Root j ∷ r) ks)
      (known_at with_sure C.must b (In Root j ∷ r)) (node_acts (node_at b (In Root j ∷ r))))
      (λ r. p ++ In part j ∷ r) cuts) → HeardBody b C part 0 p cuts
  from_start b C part p cuts heard j r ks q qs a d l eq es at =
      let e : 0 + j ≡ j = omega arith in
      heard j r ks q qs a d l (eq ∙ ap (λ m. p ++ In part m ∷ r) e) es at

  -- the first case, and the others
  first_heard : (v : SwitchValue) (falls : Bool) (b : Body) (more : Cases) (C : Context) (k : ℕ) (p : Position)
      (cuts : List (Option ℕ)) → HeardCases (OneCase v falls b more) C k p cuts →
      HeardBody b (in_case C) (Case k) 0 p cuts
  first_heard v falls b more C k p cuts heard j r ks q qs a d l eq es at =
      let e : 0 + j ≡ j = omega arith in
      let e' : k ≡ k + 0 = omega arith in
      heard 0 j r ks q qs a d l (eq ∙ (ap (λ m. p ++ In (Case k) m ∷ r) e ∙ ap (λ m. p ++ In (Case m) j ∷ r) e')) es
      at

  more_heard : (v : SwitchValue) (falls : Bool) (b : Body) (more : Cases) (C : Context) (k : ℕ) (p : Position)
      (cuts : List (Option ℕ)) → HeardCases (OneCase v falls b more) C k p cuts → HeardCases more C (suc k) p cuts
  more_heard v falls b more C k p cuts heard m i r ks q qs a d l eq es at =
      let e : suc k + m ≡ k + suc m = omega arith in
      heard (suc m) i r ks q qs a d l (eq ∙ ap (λ m. p ++ In (Case m) i ∷ r) e) es at

  -- what is heard inside the parts of a statement
  switch_heard : (h : ℕ) (cases : Cases) (C : Context) (p : Position) (cuts : List (Option ℕ)) →
      HeardStmt (Switch h cases) C p cuts → HeardCases cases C 0 p cuts
  switch_heard h cases C p cuts heard m i r ks q qs a d live eq es at =
      let e : 0 + m ≡ m = omega arith in
      heard (In (Case m) i ∷ r) ks q qs a d live (eq ∙ ap (λ k. p ++ In (Case k) i ∷ r) e) es at

  continuing_heard : (b c : Body) (q cut : Option ℕ) (C : Context) (p : Position) (cuts : List (Option ℕ)) →
      HeardStmt (Loop b c q) C p cuts → HeardBody c (in_continuing b cut C) Continuing 0 p (cuts ++ cut ∷ [])
  continuing_heard b c q cut C p cuts heard =
      from_start c (in_continuing b cut C) Continuing p (cuts ++ cut ∷ [])
      (λ j r ks q' qs a d live eq es at. heard (In Continuing j ∷ r) (cut ∷ ks) q' qs a d live eq
      (es ∙ append_assoc cuts (cut ∷ []) ks) at)

  condition_heard : (b c : Body) (q cut : Option ℕ) (C : Context) (p : Position) (cuts : List (Option ℕ))
      (start live : Handles) (now : Lives C start) → StmtOk (Loop b c q) C → HeardStmt (Loop b c q) C p cuts → Lives
      (in_condition b c q C p cuts start now cut) live → AllByRecursion P
      (recorded (node_acts (condition_node q)) [] live (p ++ In Condition 0 ∷ []) (cuts ++ cut ∷ []))
  condition_heard b c q cut C p cuts start live now ok heard at =
      own_law (in_condition b c q C p cuts start now cut) (node_acts (condition_node q)) live
      (p ++ In Condition 0 ∷ []) (cuts ++ cut ∷ []) at (ok.fresh (In Condition 0 ∷ []))
      (λ a d l g. heard (In Condition 0 ∷ []) (cut ∷ []) _ _ a d l refl refl g)

  -- of the first statement of a list, and of the others
  first_stmt_heard : (x : Stmt) (b : Body) (C : Context) (part : Part) (i : ℕ) (p : Position)
      (cuts : List (Option ℕ)) → HeardBody (Then x b) C part i p cuts → HeardStmt x C (p ++ In part i ∷ []) cuts
  first_stmt_heard x b C part i p cuts heard r ks q qs a d live eq es at =
      let e : i ≡ i + 0 = omega arith in
      heard 0 r ks q qs a d live (eq ∙ (append_assoc p (In part i ∷ []) r ∙ ap (λ m. p ++ In part m ∷ r) e)) es at

  others_heard : (x : Stmt) (b : Body) (C : Context) (part : Part) (i : ℕ) (p : Position) (cuts : List (Option ℕ)) →
      HeardBody (Then x b) C part i p cuts → HeardBody b (past x C) part (suc i) p cuts
  others_heard x b C part i p cuts heard j r ks q qs a d live eq es at =
      let e : suc i + j ≡ i + suc j = omega arith in
      heard (suc j) r ks q qs a d live (eq ∙ ap (λ m. p ++ In part m ∷ r) e) es at

  mutual
    stmt_law : (x : Stmt) (C : Context) (p : Position) (cuts : List (Option ℕ)) (live : Handles) (cs : List ℕ) →
        StmtOk x C → Lives C live → HeardStmt x C p cuts → StmtFine x C (run_stmt x n p cuts live cs)
    stmt_law (Leaf acts x' sp) C p cuts live cs ok l heard = (
      own_law C acts live p cuts l (ok.fresh []) (here _ p cuts heard),
      record {
        tally = acts_tally acts live C.scope C.skip (ok.fresh []) l.tally;
        sure =
            acts_mono acts C.must live l.sure;
      },
    )
    stmt_law (Block b) C p cuts live cs ok l heard =
        let inside : Fine (BodyEnds b C 0) (run_body b n Inner 0 p cuts live cs) =
        body_law b C Inner 0 p cuts live cs (block_ok b C ok) l
        (from_start b C Inner p cuts (λ j r. heard (In Inner j ∷ r))) in
        left_fine (Block b) C C b 0 live (run_body b n Inner 0 p cuts live cs) (λ e. e) (λ e. e) (λ e. e)
        (λ e. e) l l inside
    stmt_law (Branch h a r) C p cuts live cs ok l heard =
        let accepts : (rest : List ℕ) → StmtFine (Branch h a r) C
        (left live (run_body a n Accept 0 p cuts live rest)) =
        λ rest. left_fine (Branch h a r) C C a 0 live (run_body a n Accept 0 p cuts live rest) (λ e. e) (λ e. e)
        (λ e. e) (λ e. or_left _ _ e) l l
        (body_law a C Accept 0 p cuts live rest (accept_ok h a r C ok) l
        (from_start a C Accept p cuts (λ j p'. heard (In Accept j ∷ p')))) in
        let rejects : (rest : List ℕ) → StmtFine (Branch h a r) C
        (left live (run_body r n Reject 0 p cuts live rest)) =
        λ rest. left_fine (Branch h a r) C C r 0 live (run_body r n Reject 0 p cuts live rest) (λ e. e) (λ e. e)
        (λ e. e) (λ e. or_right (body_holds_continue a) _ e) l l
        (body_law r C Reject 0 p cuts live rest (reject_ok h a r C ok) l
        (from_start r C Reject p cuts (λ j p'. heard (In Reject j ∷ p')))) in
        after_fine _ (recorded (Use h ∷ []) [] live p cuts) _
        (own_law C (Use h ∷ []) live p cuts l (ok.fresh []) (here _ p cuts heard))
        (choice_fine _ live cs _ tt (λ c rest. zero_fine _ c _ _ rest accepts rejects))
    stmt_law (Switch h cases) C p cuts live cs ok l heard =
        after_fine _ (recorded (Use h ∷ []) [] live p cuts) _
        (own_law C (Use h ∷ []) live p cuts l (ok.fresh []) (here _ p cuts heard))
        (choice_fine _ live cs _ tt (λ c rest. cases_law cases C 0 (Some c) p cuts live rest
        (switch_ok h cases C ok) l (switch_heard h cases C p cuts heard)))
    stmt_law (Loop b c q) C p cuts live cs ok l heard =
        let bodies : (rest : List ℕ) → Fine (BodyEnds b (in_body C) 0) (run_body b n LoopBody 0 p cuts live rest) =
        λ rest. body_law b (in_body C) LoopBody 0 p cuts live rest (loop_body_ok b c q C ok)
        (record { tally = l.tally; sure = l.sure })
        (from_start b (in_body C) LoopBody p cuts (λ j r. heard (In LoopBody j ∷ r))) in
        let continuings : (cut : Option ℕ) (lv : Handles) (rest : List ℕ) → Lives (in_continuing b cut C) lv → Fine
        (BodyEnds c (in_continuing b cut C) 0) (run_body c n Continuing 0 p (cuts ++ cut ∷ []) lv rest) =
        λ cut lv rest at. body_law c (in_continuing b cut C) Continuing 0 p (cuts ++ cut ∷ []) lv rest
        (continuing_ok b c q cut C ok) at (continuing_heard b c q cut C p cuts heard) in
        turns_fine b c q C p cuts live l (λ cut lv at. condition_heard b c q cut C p cuts live lv l ok heard at)
        (λ cut lv rest. run_body c n Continuing 0 p (cuts ++ cut ∷ []) lv rest) continuings n
        (λ rest. run_body b n LoopBody 0 p cuts live rest) bodies cs
    stmt_law Break C p cuts live cs ok l heard = (tt, ok.able [])
    stmt_law Continue C p cuts live cs ok l heard = (tt, (ok.able [], refl, l))
    stmt_law (Return v) C p cuts live cs ok l heard =
        (own_law C (used_if v) live p cuts l (ok.fresh []) (here _ p cuts heard), ok.able [])
    stmt_law Kill C p cuts live cs ok l heard =
        choice_fine _ live cs _ tt (λ c rest. zero_fine _ c _ _ rest (λ rest. (tt, tt)) (λ rest. (tt, l)))

    pub body_law : (b : Body) (C : Context) (part : Part) (i : ℕ) (p : Position) (cuts : List (Option ℕ))
        (live : Handles) (cs : List ℕ) → BodyOk b C → Lives C live → HeardBody b C part i p cuts →
        Fine (BodyEnds b C i) (run_body b n part i p cuts live cs)
    body_law Done C part i p cuts live cs ok l heard = (tt, (l.tally, l.sure))
    body_law (Then x b) C part i p cuts live cs ok l heard =
        then_fine x b C i _ _ ok (stmt_law x C (p ++ In part i ∷ []) cuts live cs (first_ok x b C ok) l
        (first_stmt_heard x b C part i p cuts heard))
        (λ lv rest at. body_law b (past x C) part (suc i) p cuts lv rest (others_ok x b C ok) at
        (others_heard x b C part i p cuts heard))

    cases_law : (cases : Cases) (C : Context) (k : ℕ) (start : Option ℕ) (p : Position) (cuts : List (Option ℕ))
        (live : Handles) (cs : List ℕ) → CasesOk cases C → Lives C live → HeardCases cases C k p cuts →
        Fine (λ o i l. Ends C C (cases_hold_continue cases) o l) (run_cases cases n k start p cuts live cs)
    cases_law NoCase C k None p cuts live cs ok l heard = (tt, l)
    cases_law NoCase C k (Some c) p cuts live cs ok l heard = (tt, tt)
    cases_law (OneCase v falls b more) C k (Some (suc c)) p cuts live cs ok l heard =
        more_fine C C _ _ _ (λ e. or_right (body_holds_continue b) _ e)
        (cases_law more C (suc k) (Some c) p cuts live cs (other_cases_ok v falls b more C ok) l
        (more_heard v falls b more C k p cuts heard))
    cases_law (OneCase v falls b more) C k (Some zero) p cuts live cs ok l heard =
        case_fine v falls b more C live _ _ l
        (body_law b (in_case C) (Case k) 0 p cuts live cs (first_case_ok v falls b more C ok)
        (record { tally = l.tally; sure = l.sure }) (first_heard v falls b more C k p cuts heard))
        (λ rest. cases_law more C (suc k) None p cuts live rest (other_cases_ok v falls b more C ok) l
        (more_heard v falls b more C k p cuts heard))
    cases_law (OneCase v falls b more) C k None p cuts live cs ok l heard =
        case_fine v falls b more C live _ _ l
        (body_law b (in_case C) (Case k) 0 p cuts live cs (first_case_ok v falls b more C ok)
        (record { tally = l.tally; sure = l.sure }) (first_heard v falls b more C k p cuts heard))
        (λ rest. cases_law more C (suc k) None p cuts live rest (other_cases_ok v falls b more C ok) l
        (more_heard v falls b more C k p cuts heard))
