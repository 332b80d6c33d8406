-- The judgement by positions is the one by the tree, and what it accepts fits.
use Rattle.std.specs.List.{AllByRecursion}
use Rattle.std.specs.Prelude.{ℕ, Bool, true, false, List, Option, Some, None, Result, Ok, Err, map, ◌≡◌, ◌∷◌, ◌++◌, []}
use Rattle.std.proofs.Common.{refl, sym, ap, subst, append-nil, ◌∙◌}
use Rattle.ir_statements.specs.Tree.{Act, Stmt, Body, Cases, Leaf, Block, Branch, Switch, Loop, Break, Continue, Return, Kill, Done, Then, NoCase, OneCase}
use Rattle.ir_statements.specs.View.{body_of}
use Rattle.ir_statements.specs.declared.statements.Statement.{Statement}
use Rattle.ir_statements.specs.declared.operations.SwitchValue.{SwitchValue}
use Rattle.ir_arena.specs.declared.span.Span.{Span}
use Rattle.ir_arena.specs.Points.{and_then, Point, first_fault, answer}
use Rattle.naga_runs.specs.ByTree.{past, in_case, in_loop, in_continuing, at_break_if, break_if_visits, body_visits, part_visits, case_visits, judge, judge_visits, judge_body, judge_stmt, judge_parts, judge_cases, judge_break_if, JudgementIsByTree, Compositional}
use Rattle.naga_runs.specs.Guards.{FitsIn, AcceptedIsSure, IsRead, AcceptedBlockIsSure}
use Rattle.naga_runs.specs.Handles.{Handles}
use Rattle.naga_runs.specs.Judgement.{Rules, state_after, points_after, judgement, by_earlier, Follows, viewed, FollowedAgrees, EarlierAgrees}
use Rattle.naga_runs.specs.Positions.{Position, StatementNode, BreakIfNode}
use Rattle.naga_runs.specs.Soundness.{IsSurelyFit}
use Rattle.naga_runs.specs.VisitOrder.{positions}
use Rattle.naga_runs.specs.Visits.{VisitPlace, Visit, visit_at, visits_of}
use Rattle.naga_runs.proofs.Laws.{surely_fit_is_sure}
use Rattle.naga_runs.proofs.Reading.{blocks_are_read}
use Rattle.naga_runs.proofs.VisitsByTree.{visits_are}

append_one : {A : Type 0} (xs ys : List A) (x : A) → (xs ++ x ∷ []) ++ ys ≡ xs ++ x ∷ ys
append_one [] ys x = refl
append_one (z ∷ xs) ys x = ap (λ l. z ∷ l) (append_one xs ys x)

module _ {State Fault : Type 0} where
  pub then_assoc : (r : Result State Fault) (f g : State → Result State Fault) →
      and_then (and_then r f) g ≡ and_then r (λ s. and_then (f s) g)
  then_assoc (Ok st) f g = refl
  then_assoc (Err e) f g = refl

  -- points in a row
  answer-append : (ps qs : List (Point Fault)) (st next : State) →
      and_then (answer (first_fault ps) st) (λ s. answer (first_fault qs) next) ≡ answer
      (first_fault (ps ++ qs)) next
  answer-append [] qs st next = refl
  answer-append ((true, f) ∷ ps) qs st next = answer-append ps qs st next
  answer-append ((false, f) ∷ ps) qs st next = refl

  none_answer : (o : Option Fault) (st : State) (f : State → Result State Fault) (end : State) →
      and_then (answer o st) f ≡ Ok end → (o ≡ None) × (f st ≡ Ok end)
  none_answer None st f end e = (refl, e)
  none_answer (Some x) st f end e = cc

module _ {State Fault : Type 0} (R : Rules State Fault) where
  pub judge_visits-append : (st : State) (vs ws : List Visit) →
      judge_visits R st (vs ++ ws) ≡ and_then (judge_visits R st vs) (λ s. judge_visits R s ws)
  unfolding judge_visits
  judge_visits-append st [] ws = refl
  judge_visits-append st (v ∷ vs) ws =
      ap (λ (f : State → Result State Fault). and_then (judge R st v) f) (λ i s. judge_visits-append s vs ws i)
      ∙ sym (then_assoc (judge R st v) (λ s. judge_visits R s vs) (λ s. judge_visits R s ws))

  state-append : (st : State) (vs ws : List Visit) →
      state_after R st (vs ++ ws) ≡ state_after R (state_after R st vs) ws
  unfolding state_after
  state-append st [] ws = refl
  state-append st (v ∷ vs) ws = state-append (R.advance st v) vs ws

  -- the state at each visit, from the visits before it
  judge_visits_is : (st : State) (earlier vs : List Visit) →
      judge_visits R (state_after R st earlier) vs ≡ answer (first_fault (points_after R st earlier vs))
      (state_after R (state_after R st earlier) vs)
  unfolding judge_visits judge state_after
  judge_visits_is st earlier [] = refl
  judge_visits_is st earlier (v ∷ vs) =
      let s : State = state_after R st earlier in
      let next : state_after R st (earlier ++ v ∷ []) ≡ R.advance s v = state-append st earlier (v ∷ []) in
      let rest : judge_visits R (R.advance s v) vs ≡ answer (first_fault (points_after R st (earlier ++ v ∷ []) vs))
      (state_after R (R.advance s v) vs) =
      subst (λ t. judge_visits R t vs ≡ answer (first_fault (points_after R st (earlier ++ v ∷ []) vs))
      (state_after R t vs)) next (judge_visits_is st (earlier ++ v ∷ []) vs) in
      go (first_fault (R.points s v)) (R.advance s v) (points_after R st (earlier ++ v ∷ []) vs)
      (state_after R (R.advance s v) vs) (λ t. judge_visits R t vs) rest
      ∙ answer-append (R.points s v) (points_after R st (earlier ++ v ∷ []) vs) (R.advance s v)
      (state_after R (R.advance s v) vs)
    where
      go : (o : Option Fault) (t : State) (qs : List (Point Fault)) (end : State) (f : State → Result State Fault) →
          f t ≡ answer (first_fault qs) end → and_then (answer o t) f ≡ and_then (answer o t)
          (λ s. answer (first_fault qs) end)
      go None t qs end f e = e
      go (Some x) t qs end f e = refl

  pub judgement_is_visits : (st : State) (pre : Handles) (b : Body) →
      judgement R st pre b ≡ judge_visits R st (visits_of pre b)
  unfolding judgement state_after
  judgement_is_visits st pre b = sym (judge_visits_is st [] (visits_of pre b))

  pub by_tree : JudgementIsByTree R
  unfolding judge_body
  by_tree st pre b = judgement_is_visits st pre b ∙ ap (judge_visits R st) (visits_are pre b)

  -- an answer says the state after the visits, or the first fault of the points
  pub ok_is : (st end : State) (pre : Handles) (b : Body) → judgement R st pre b ≡ Ok end →
      end ≡ state_after R st (visits_of pre b)
  unfolding judgement
  ok_is st end pre b e = go (first_fault (points_after R st [] (visits_of pre b)))
      (state_after R st (visits_of pre b)) e
    where
      go : (o : Option Fault) (last : State) → answer o last ≡ Ok end → end ≡ last
      go None last e = cc
      go (Some x) last e = cc

  -- the equations of the tree
  pub judge_done : (st : State) (c : VisitPlace) → judge_body R st c Done ≡ Ok st
  unfolding judge_body judge_visits
  judge_done st c = refl

  pub judge_more : (st : State) (c : VisitPlace) (x : Stmt) (b : Body) →
      judge_body R st c (Then x b) ≡ and_then (judge_stmt R st c x) (λ s. judge_body R s (past x c) b)
  unfolding judge_body judge_stmt
  judge_more st c x b = judge_visits-append st (record { place = c; node = StatementNode x } ∷ part_visits c x)
      (body_visits (past x c) b)

  pub judge_own : (st : State) (c : VisitPlace) (x : Stmt) →
      judge_stmt R st c x ≡ and_then (judge R st (record { place = c; node = StatementNode x }))
      (λ s. judge_parts R s c x)
  unfolding judge_stmt judge_parts judge_visits
  judge_own st c x = refl

  pub judge_leaf : (st : State) (c : VisitPlace) (acts : List Act) (x : Statement) (span : Span) →
      judge_parts R st c (Leaf acts x span) ≡ Ok st
  unfolding judge_parts judge_visits
  judge_leaf st c acts x span = refl

  pub judge_break : (st : State) (c : VisitPlace) → judge_parts R st c Break ≡ Ok st
  unfolding judge_parts judge_visits
  judge_break st c = refl

  pub judge_continue : (st : State) (c : VisitPlace) → judge_parts R st c Continue ≡ Ok st
  unfolding judge_parts judge_visits
  judge_continue st c = refl

  pub judge_return : (st : State) (c : VisitPlace) (value : Option ℕ) → judge_parts R st c (Return value) ≡ Ok st
  unfolding judge_parts judge_visits
  judge_return st c value = refl

  pub judge_kill : (st : State) (c : VisitPlace) → judge_parts R st c Kill ≡ Ok st
  unfolding judge_parts judge_visits
  judge_kill st c = refl

  pub judge_block : (st : State) (c : VisitPlace) (b : Body) → judge_parts R st c (Block b) ≡ judge_body R st c b
  unfolding judge_parts judge_body
  judge_block st c b = refl

  pub judge_branch : (st : State) (c : VisitPlace) (h : ℕ) (a r : Body) →
      judge_parts R st c (Branch h a r) ≡ and_then (judge_body R st c a) (λ s. judge_body R s c r)
  unfolding judge_parts judge_body
  judge_branch st c h a r = judge_visits-append st (body_visits c a) (body_visits c r)

  pub judge_switch : (st : State) (c : VisitPlace) (h : ℕ) (cs : Cases) →
      judge_parts R st c (Switch h cs) ≡ judge_cases R st (in_case c) cs
  unfolding judge_parts judge_cases
  judge_switch st c h cs = refl

  pub judge_loop : (st : State) (c : VisitPlace) (b d : Body) (q : Option ℕ) → judge_parts R st c (Loop b d q)
      ≡ and_then (judge_body R st (in_loop c) b)
      (λ s. and_then (judge_body R s (in_continuing b c) d) (λ t. judge_break_if R t (at_break_if b d c) q))
  unfolding judge_parts judge_body judge_break_if
  judge_loop st c b d q =
      judge_visits-append st (body_visits (in_loop c) b)
      (body_visits (in_continuing b c) d ++ break_if_visits (at_break_if b d c) q)
      ∙ ap (λ (f : State → Result State Fault). and_then (judge_visits R st (body_visits (in_loop c) b)) f)
      (λ i s. judge_visits-append s (body_visits (in_continuing b c) d)
      (break_if_visits (at_break_if b d c) q) i)

  pub judge_no_case : (st : State) (c : VisitPlace) → judge_cases R st c NoCase ≡ Ok st
  unfolding judge_cases judge_visits
  judge_no_case st c = refl

  pub judge_one_case : (st : State) (c : VisitPlace) (v : SwitchValue) (falls : Bool) (b : Body) (cs : Cases) →
      judge_cases R st c (OneCase v falls b cs) ≡ and_then (judge_body R st c b) (λ s. judge_cases R s c cs)
  unfolding judge_cases judge_body
  judge_one_case st c v falls b cs = judge_visits-append st (body_visits c b) (case_visits c cs)

  pub judge_no_break_if : (st : State) (c : VisitPlace) → judge_break_if R st c None ≡ Ok st
  unfolding judge_break_if judge_visits
  judge_no_break_if st c = refl

  pub judge_at_break_if : (st : State) (c : VisitPlace) (h : ℕ) →
      judge_break_if R st c (Some h) ≡ judge R st (record { place = c; node = BreakIfNode h })
  unfolding judge_break_if judge_visits
  judge_at_break_if st c h = go (judge R st (record { place = c; node = BreakIfNode h }))
    where
      go : (r : Result State Fault) → and_then r (λ s. Ok s) ≡ r
      go (Ok s) = refl
      go (Err f) = refl

  pub compositional : Compositional R
  compositional =
      record {
        done = judge_done;
        more = judge_more;
        stmt = judge_own;
        leaf = judge_leaf;
        block = judge_block;
        branch = judge_branch;
        switch = judge_switch;
        loop = judge_loop;
        break = judge_break;
        continue = judge_continue;
        return = judge_return;
        kill = judge_kill;
        no_case = judge_no_case;
        one_case = judge_one_case;
        no_break_if = judge_no_break_if;
        break_if = judge_at_break_if;
      }

  -- what is so where no point fails of such a visit, at each position of which all are such
  all_pass : (Such Q : Visit → Type 0) →
      ((st : State) (v : Visit) → Such v → first_fault (R.points st v) ≡ None → Q v) →
      (st end : State) (G : Position → Visit) (ps : List Position) →
      AllByRecursion (λ p. Such (G p)) ps → judge_visits R st (map G ps) ≡ Ok end → AllByRecursion (λ p. Q (G p)) ps
  unfolding judge_visits judge
  all_pass Such Q says st end G [] such e = tt
  all_pass Such Q says st end G (p ∷ ps) such e =
      let both : (first_fault (R.points st (G p)) ≡ None) × (judge_visits R (R.advance st (G p)) (map G ps) ≡ Ok end) =
      none_answer (first_fault (R.points st (G p))) (R.advance st (G p))
      (λ s. judge_visits R s (map G ps)) end e in
      (says st (G p) such.0 both.0, all_pass Such Q says (R.advance st (G p)) end G ps such.1 both.1)

  -- the same of a body that is accepted
  all_visits_pass : (Such Q : Visit → Type 0) →
      ((st : State) (v : Visit) → Such v → first_fault (R.points st v) ≡ None → Q v) →
      (st end : State) (pre : Handles) (b : Body) →
      AllByRecursion (λ p. Such (visit_at pre b p)) (positions b) → judgement R st pre b ≡ Ok end →
      AllByRecursion (λ p. Q (visit_at pre b p)) (positions b)
  all_visits_pass Such Q says st end pre b such e =
      all_pass Such Q says st end (visit_at pre b) (positions b) such (sym (judgement_is_visits st pre b) ∙ e)

  any_visit : (ps : List Position) → AllByRecursion (λ p. Unit {0}) ps
  any_visit [] = tt
  any_visit (p ∷ ps) = (tt, any_visit ps)

  pub accepted_is_sure : AcceptedIsSure R
  accepted_is_sure guards st end pre b e =
      let fit : IsSurelyFit pre b =
      all_visits_pass (λ v. Unit {0}) FitsIn (λ st v _. guards st v)
      st end pre b (any_visit (positions b)) e in
      (fit, surely_fit_is_sure pre b fit)

  pub accepted_block_is_sure : AcceptedBlockIsSure R
  accepted_block_is_sure operands guards st end pre block e =
      let fit : IsSurelyFit pre (body_of operands block) =
      all_visits_pass (λ v. IsRead operands v.node) FitsIn guards
      st end pre (body_of operands block) (blocks_are_read operands block) e in
      (fit, surely_fit_is_sure pre (body_of operands block) fit)

module _ {State Seen Fault : Type 0} (R : Rules State Fault) (S : Rules Seen Fault) (view : State → Seen)
    (f : Follows R S view) where
  visits_follow : (st : State) (vs : List Visit) → judge_visits S (view st) vs ≡ viewed view (judge_visits R st vs)
  unfolding judge_visits judge
  visits_follow st [] = refl
  visits_follow st (v ∷ vs) =
      ap (λ ps. and_then (answer (first_fault ps) (S.advance (view st) v)) (λ s. judge_visits S s vs))
      (sym (f.points st v))
      ∙ go (first_fault (R.points st v)) (ap (λ s. judge_visits S s vs) (sym (f.advance st v)) ∙ visits_follow
      (R.advance st v) vs)
    where
      go : (o : Option Fault) →
          judge_visits S (S.advance (view st) v) vs ≡ viewed view (judge_visits R (R.advance st v) vs) → and_then
          (answer o (S.advance (view st) v)) (λ s. judge_visits S s vs) ≡ viewed view
          (and_then (answer o (R.advance st v)) (λ s. judge_visits R s vs))
      go None e = e
      go (Some x) e = refl

pub followed_agrees : {State Seen Fault : Type 0} → FollowedAgrees State Seen Fault
followed_agrees R S view f st pre b =
    judgement_is_visits S (view st) pre b
    ∙ visits_follow R S view f st (visits_of pre b)
    ∙ ap (viewed view) (sym (judgement_is_visits R st pre b))

module _ {Fault : Type 0} (points : List Visit → Visit → List (Point Fault)) where
  earlier-append : (earlier vs : List Visit) → state_after (by_earlier points) earlier vs ≡ earlier ++ vs
  unfolding state_after
  earlier-append earlier [] = sym (append-nil earlier)
  earlier-append earlier (v ∷ vs) = earlier-append (earlier ++ v ∷ []) vs ∙ append_one earlier vs v

  pub earlier_is_all : (end : List Visit) (pre : Handles) (b : Body) →
      judgement (by_earlier points) [] pre b ≡ Ok end → end ≡ visits_of pre b
  earlier_is_all end pre b e = ok_is (by_earlier points) [] end pre b e ∙ earlier-append [] (visits_of pre b)

pub earlier_agrees : {Seen Fault : Type 0} → EarlierAgrees Seen Fault
earlier_agrees points S view f pre b = followed_agrees (by_earlier points) S view f [] pre b
