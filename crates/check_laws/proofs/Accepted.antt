-- An accepted body fills each result once, and leaves stages of all its statements.
use Rattle.std.proofs.Common.{◌≡◌, ◌↔◌, ℕ, zero, suc, ◌+◌, ◌<◌, ◌==◌, Bool, true, false, not, ◌&&◌, ◌||◌, List, [], ◌∷◌, ◌++◌, Option, None, Some, Result, Ok, Err, length, slice_get, subst, refl, sym, ap, ◌∙◌, arith}
use Rattle.std.proofs.lemmas.Bool.Decides.{nat_tests}
use Rattle.std.proofs.lemmas.Nat.{and_assoc, and_comm}
use Rattle.std.proofs.lemmas.Option.{slice_get_within}
use Rattle.std.specs.Int.Bits.{and_self}
use Rattle.std.specs.List.{AllByRecursion}
use Rattle.std.specs.Prelude.{map, if◌then◌else◌}
use Rattle.ir_statements.specs.Tree.{Body, Leaf}
use Rattle.ir_module.specs.declared.expressions.Expression.{Expression}
use Rattle.ir_module.specs.declared.expressions.Expression.TheVariants as e
use Rattle.ir_statements.specs.declared.statements.Statement as ir
use Rattle.ir_flags.specs.declared.valid.ShaderStages.{ShaderStages}
use Rattle.ir_errors.specs.declared.function.FunctionError.{FunctionError}
use Rattle.ir_errors.specs.declared.function.FunctionError.TheVariants.{UnvisitedExpression}
use Rattle.naga_runs.proofs.Judgements.{judgement_is_visits, earlier_is_all}
use Rattle.ir_arena.proofs.Points.{first_holds, not_holds}
use Rattle.ir_arena.specs.Points.{and_then, first_fault, answer}
use Rattle.naga_runs.specs.ByTree.{judge_visits}
use Rattle.naga_runs.specs.Handles.{Handles}
use Rattle.naga_runs.specs.Judgement.{viewed}
use Rattle.naga_runs.specs.Positions.{BodyNode, NoNode, StatementNode, BreakIfNode, Position, node_at}
use Rattle.naga_runs.specs.VisitOrder.{positions}
use Rattle.naga_runs.specs.Visits.{Visit, VisitPlace, visit_at, visits_of}
use Rattle.check_laws.specs.Accepted.{nodes_of, callee_filling, callees_filling, atomic_filling, atomics_filling, ResultsAreFilledOnce, AreAmong, AreOfStatement, AreOfCallee, StagesAreOfAll, AreOfStartAndAll}
use Rattle.check_memory.specs.Atomic.{is_atomic_result}
use Rattle.check_scope.specs.BodyTrees.{body_of}
use Rattle.check_flow.specs.Call.{is_call_result_of, has_result}
use Rattle.check_scope.specs.Context.{Context, pre_emitted}
use Rattle.ir_facts.specs.WhatIsChecked.{checks_blocks, checks_expressions}
use Rattle.check_statement.specs.FunctionJudgement.{FunctionOutcome, body_judgement, judged_with, outcome_left}
use Rattle.check_statement.specs.Past.{Past, past_of}
use Rattle.check_scope.specs.Results.{is_to_fill, result_of, fills, filled_before, is_unfilled, filled_points_from, filled_points}
use Rattle.check_statement.specs.Rules.{points_at, stages_of, stages_behind, stages_left}
use Rattle.check_statement.specs.StageSets.{meet}
use Rattle.check_statement.specs.walk.State.{State, seen, kept_rules, begin_state, state_behind, state_left}
use Rattle.check_scope.specs.ExpressionTypes.{expression_at}
use Rattle.check_memory.proofs.Atomics.{NamedHolds, atomic_named}
use Rattle.check_flow.proofs.Calls.{call_holds}
use Rattle.check_statement.proofs.Fillings.{or_false, with_is, unfilled}
use Rattle.check_statement.proofs.Judged.{kept}

-- stages

meet_assoc : (a b c : ShaderStages) → meet (meet a b) c ≡ meet a (meet b c)
meet_assoc a b c i = record { 0 = and_assoc c.0 a.0 b.0 i }

among_itself : (a : ShaderStages) → AreAmong a a
among_itself a i = record { 0 = and_self a.0 i }

pub among_all : (a b c : ShaderStages) → AreAmong a b → AreAmong b c → AreAmong a c
among_all a b c p q = ap (λ z. meet z c) (sym p) ∙ meet_assoc a b c ∙ ap (meet a) q ∙ p

pub meet_among_second : (a b : ShaderStages) → AreAmong (meet a b) b
meet_among_second a b = meet_assoc a b b ∙ ap (meet a) (among_itself b)

meet_comm : (a b : ShaderStages) → meet a b ≡ meet b a
meet_comm a b i = record { 0 = and_comm a.0 b.0 i }

pub meet_among_first : (a b : ShaderStages) → AreAmong (meet a b) a
meet_among_first a b =
    ap (λ z. meet z a) (meet_comm a b) ∙ meet_assoc b a a ∙ ap (meet b) (among_itself a) ∙ meet_comm b a

module _ (context : Context) where
  behind_among : (s : ShaderStages) (node : BodyNode) → AreAmong (stages_behind context s node) s
  behind_among s NoNode = among_itself s
  behind_among s (StatementNode x) = meet_among_first s (stages_of context.settings.subgroup_stages context.earlier x)
  behind_among s (BreakIfNode h) = among_itself s

  left_among : (s : ShaderStages) (visits : List Visit) → AreAmong (stages_left context s visits) s
  left_among s [] = among_itself s
  left_among s (v ∷ visits) =
      among_all (stages_left context (stages_behind context s v.node) visits) (stages_behind context s v.node) s (left_among (stages_behind context s v.node) visits) (behind_among s v.node)

  of_statement : (s t : ShaderStages) (node : BodyNode) → AreAmong t (stages_behind context s node) → AreOfStatement context.settings.subgroup_stages context.earlier t node
  of_statement s t NoNode e = tt
  of_statement s t (StatementNode x) e =
      among_all t (meet s (stages_of context.settings.subgroup_stages context.earlier x)) (stages_of context.settings.subgroup_stages context.earlier x) e (meet_among_second s (stages_of context.settings.subgroup_stages context.earlier x))
  of_statement s t (BreakIfNode h) e = tt

  of_callee : (t : ShaderStages) (node : BodyNode) → AreOfStatement context.settings.subgroup_stages context.earlier t node → AreOfCallee context.earlier t node
  of_callee t (StatementNode (Leaf acts (ir.Call f arguments result) span)) e = e
  of_callee t _ e = tt

  of_all : (s : ShaderStages) (visits : List Visit) → AllByRecursion (AreOfStatement context.settings.subgroup_stages context.earlier (stages_left context s visits)) (map (λ v. v.node) visits)
  of_all s [] = tt
  of_all s (v ∷ visits) =
      let next = stages_behind context s v.node in
      (of_statement s (stages_left context next visits) v.node (left_among next visits), of_all next visits)

  callees_of_all : (t : ShaderStages) (nodes : List BodyNode) → AllByRecursion (AreOfStatement context.settings.subgroup_stages context.earlier t) nodes → AllByRecursion (AreOfCallee context.earlier t) nodes
  callees_of_all t [] a = tt
  callees_of_all t (node ∷ nodes) a = (of_callee t node a.0, callees_of_all t nodes a.1)

-- the stages that are left are the greatest that are among those at the start and among the mask of every statement
pub among_meet : (some a b : ShaderStages) → AreAmong some a → AreAmong some b → AreAmong some (meet a b)
among_meet some a b p q = sym (meet_assoc some a b) ∙ ap (λ z. meet z b) p ∙ q

module _ (context : Context) (some : ShaderStages) where
  among_behind : (s : ShaderStages) (node : BodyNode) → AreAmong some s → AreOfStatement context.settings.subgroup_stages context.earlier some node → AreAmong some (stages_behind context s node)
  among_behind s NoNode p q = p
  among_behind s (StatementNode x) p q = among_meet some s (stages_of context.settings.subgroup_stages context.earlier x) p q
  among_behind s (BreakIfNode h) p q = p

  left_is_met : (s : ShaderStages) (visits : List Visit) →
      AreAmong some (stages_left context s visits) ↔ (AreAmong some s × AllByRecursion (AreOfStatement context.settings.subgroup_stages context.earlier some) (map (λ v. v.node) visits))
  left_is_met s [] = (λ p. (p, tt), λ p. p.0)
  left_is_met s (v ∷ visits) =
      let next = stages_behind context s v.node in
      let rest = left_is_met next visits in (
        λ p. let q = rest.0 p in (among_all some next s q.0 (behind_among context s v.node), (of_statement context s some v.node q.0, q.1)),
        λ p. rest.1 (among_behind s v.node p.0 p.1.0, p.1.1),
      )

-- the nodes of the visits are what stands at the positions
pub nodes_are : (pre : Handles) (b : Body) (ps : List Position) → map (λ v. v.node) (map (visit_at pre b) ps) ≡ map (node_at b) ps
nodes_are pre b [] = refl
nodes_are pre b (p ∷ ps) = ap (λ l. node_at b p ∷ l) (nodes_are pre b ps)

-- results

-- what a visit does with a result
data Filling (context : Context) (filled : Handles) (r : ℕ) (node : BodyNode) : Type 0 where
  Other : fills r node ≡ false → callee_filling r node ≡ [] → atomic_filling r node ≡ 0 → Filling context filled r node
  ByCall : (f : ℕ) → filled r ≡ false → fills r node ≡ true → expression_at context r ≡ Some (e.CallResult f) → callee_filling r node ≡ f ∷ [] → atomic_filling r node ≡ 0 → Filling context filled r node
  ByAtomic : filled r ≡ false → fills r node ≡ true → is_atomic_result (expression_at context r) ≡ true → callee_filling r node ≡ [] → atomic_filling r node ≡ 1 → Filling context filled r node

both_hold : (a b : Bool) → (a && b) ≡ true → (a ≡ true) × (b ≡ true)
both_hold true b h = (refl, h)
both_hold false b h = cc

call_result : (f : ℕ) (o : Option Expression) → is_call_result_of f o ≡ true → o ≡ Some (e.CallResult f)
call_result f (Some (e.CallResult g)) h = let same : g ≡ f = grind (arith, nat_tests) in ap (λ k. Some (e.CallResult k)) same
call_result f _ h = cc

same_handle : (q r : ℕ) → (q == r) ≡ true → q ≡ r
same_handle q r h = grind (arith, nat_tests)

module _ (context : Context) (past : Past) (place : VisitPlace) (r : ℕ) where
  filling : (node : BodyNode) → first_fault (points_at context past place node) ≡ None → Filling context past.filled r node
  filling (StatementNode (Leaf acts (ir.Call f xs None) span)) h = Other refl refl refl
  filling (StatementNode (Leaf acts (ir.Call f xs (Some q)) span)) h = go (q == r) refl
    where
      holds : (past.filled q ≡ false) × (expression_at context q ≡ Some (e.CallResult f))
      holds =
          let all = call_holds context past.filled place f xs q h in
          (unfilled context past.filled q all.2, call_result f (expression_at context q) (both_hold _ (has_result (slice_get context.program.functions f)) all.1).0)

      go : (b : Bool) → (q == r) ≡ b → Filling context past.filled r (StatementNode (Leaf acts (ir.Call f xs (Some q)) span))
      go true is =
          let same = same_handle q r is in
          ByCall f (ap past.filled (sym same) ∙ holds.0) is (ap (expression_at context) (sym same) ∙ holds.1) (ap (λ b. if b then f ∷ [] else []) is) refl
      go false is = Other is (ap (λ b. if b then f ∷ [] else []) is) refl
  filling (StatementNode (Leaf acts (ir.Atomic p f v None) span)) h = Other refl refl refl
  filling (StatementNode (Leaf acts (ir.Atomic p f v (Some q)) span)) h = go (q == r) refl
    where
      holds : NamedHolds context past.filled place q
      holds = atomic_named context past.filled place p f v (Some q) h

      go : (b : Bool) → (q == r) ≡ b → Filling context past.filled r (StatementNode (Leaf acts (ir.Atomic p f v (Some q)) span))
      go true is =
          let same = same_handle q r is in
          ByAtomic (ap past.filled (sym same) ∙ unfilled context past.filled q holds.fresh) is (ap (λ k. is_atomic_result (expression_at context k)) (sym same) ∙ holds.kind) refl (ap (λ b. if b then 1 else 0) is)
      go false is = Other is refl (ap (λ b. if b then 1 else 0) is)
  filling _ h = Other refl refl refl

-- what visits do with it, where it is filled before them or not, and is filled behind them or not
data Filled (context : Context) (r : ℕ) (nodes : List BodyNode) : Bool → Bool → Type 0 where
  Before : callees_filling r nodes ≡ [] → atomics_filling r nodes ≡ 0 → Filled context r nodes true true
  Never : callees_filling r nodes ≡ [] → atomics_filling r nodes ≡ 0 → Filled context r nodes false false
  OnceByCall : (f : ℕ) → expression_at context r ≡ Some (e.CallResult f) → callees_filling r nodes ≡ f ∷ [] → atomics_filling r nodes ≡ 0 → Filled context r nodes false true
  OnceByAtomic : is_atomic_result (expression_at context r) ≡ true → callees_filling r nodes ≡ [] → atomics_filling r nodes ≡ 1 → Filled context r nodes false true

module _ (context : Context) (r : ℕ) where
  others : (node : BodyNode) (nodes : List BodyNode) (b a : Bool) → callee_filling r node ≡ [] → atomic_filling r node ≡ 0 → Filled context r nodes b a → Filled context r (node ∷ nodes) b a
  others node nodes true false c n rest = elim rest [ ]
  others node nodes true true c n (Before cs ns) =
      Before (ap (λ l. l ++ callees_filling r nodes) c ∙ cs) (omega (arith, n, ns))
  others node nodes false false c n (Never cs ns) =
      Never (ap (λ l. l ++ callees_filling r nodes) c ∙ cs) (omega (arith, n, ns))
  others node nodes false true c n (OnceByCall f is cs ns) =
      OnceByCall f is (ap (λ l. l ++ callees_filling r nodes) c ∙ cs) (omega (arith, n, ns))
  others node nodes false true c n (OnceByAtomic is cs ns) =
      OnceByAtomic is (ap (λ l. l ++ callees_filling r nodes) c ∙ cs) (omega (arith, n, ns))

  was_before : (nodes : List BodyNode) (b a : Bool) → b ≡ true → Filled context r nodes b a → (a ≡ true) × (callees_filling r nodes ≡ []) × (atomics_filling r nodes ≡ 0)
  was_before nodes true true is (Before cs ns) = (refl, cs, ns)
  was_before nodes true false is h = elim h [ ]
  was_before nodes false a is h = cc

  by_call : (node : BodyNode) (nodes : List BodyNode) (f : ℕ) (b after a : Bool) → b ≡ false → after ≡ true → expression_at context r ≡ Some (e.CallResult f) → callee_filling r node ≡ f ∷ [] → atomic_filling r node ≡ 0 → Filled context r nodes after a → Filled context r (node ∷ nodes) b a
  by_call node nodes f b after a free full is c n h =
      let rest = was_before nodes after a full h in
      let once : Filled context r (node ∷ nodes) false true = OnceByCall f is (ap (λ l. l ++ callees_filling r nodes) c ∙ ap (λ l. f ∷ l) rest.1) (omega (arith, n, rest.2)) in
      subst (λ x. Filled context r (node ∷ nodes) x a) (sym free) (subst (λ y. Filled context r (node ∷ nodes) false y) (sym rest.0) once)

  by_atomic : (node : BodyNode) (nodes : List BodyNode) (b after a : Bool) → b ≡ false → after ≡ true → is_atomic_result (expression_at context r) ≡ true → callee_filling r node ≡ [] → atomic_filling r node ≡ 1 → Filled context r nodes after a → Filled context r (node ∷ nodes) b a
  by_atomic node nodes b after a free full is c n h =
      let rest = was_before nodes after a full h in
      let once : Filled context r (node ∷ nodes) false true = OnceByAtomic is (ap (λ l. l ++ callees_filling r nodes) c ∙ rest.1) (omega (arith, n, rest.2)) in
      subst (λ x. Filled context r (node ∷ nodes) x a) (sym free) (subst (λ y. Filled context r (node ∷ nodes) false y) (sym rest.0) once)

  step : (filled : Handles) (node : BodyNode) (nodes : List BodyNode) (a : Bool) → Filling context filled r node → Filled context r nodes (filled r || fills r node) a → Filled context r (node ∷ nodes) (filled r) a
  step filled node nodes a (Other free c n) rest =
      others node nodes (filled r) a c n (subst (λ b. Filled context r nodes b a) (ap (λ b. filled r || b) free ∙ or_false (filled r)) rest)
  step filled node nodes a (ByCall f free full is c n) rest =
      by_call node nodes f (filled r) (filled r || fills r node) a free (ap (λ b. b || fills r node) free ∙ full) is c n rest
  step filled node nodes a (ByAtomic free full is c n) rest =
      by_atomic node nodes (filled r) (filled r || fills r node) a free (ap (λ b. b || fills r node) free ∙ full) is c n rest

  behind_is : (st : State) (node : BodyNode) → (state_behind context st node).filled r ≡ (st.filled r || fills r node)
  behind_is st NoNode = sym (or_false (st.filled r))
  behind_is st (StatementNode x) = with_is (result_of (StatementNode x)) st.filled r
  behind_is st (BreakIfNode h) = sym (or_false (st.filled r))

  passes : (o : Option FunctionError) (st : State) (f : State → Result State FunctionError) (end : State) → and_then (answer o st) f ≡ Ok end → (o ≡ None) × (f st ≡ Ok end)
  passes None st f end h = (refl, h)
  passes (Some x) st f end h = cc

  nothing : (b : Bool) → Filled context r [] b b
  nothing true = Before refl refl
  nothing false = Never refl refl

  along : (st end : State) (visits : List Visit) → judge_visits (kept_rules context) st visits ≡ Ok end → Filled context r (map (λ v. v.node) visits) (st.filled r) (end.filled r)
  unfolding judge_visits Rattle.naga_runs.specs.ByTree.judge
  along st end [] h =
      let same : st ≡ end = cc in
      subst (λ z. Filled context r [] (st.filled r) (z.filled r)) same (nothing (st.filled r))
  along st end (v ∷ visits) h =
      let next = state_behind context st v.node in
      let both = passes (first_fault (points_at context (seen st) v.place v.node)) next (λ s. judge_visits (kept_rules context) s visits) end h in
      let nodes = map (λ w. w.node) visits in
      step (st.filled) v.node nodes (end.filled r) (filling context (seen st) v.place r v.node both.0) (subst (λ b. Filled context r nodes b (end.filled r)) (behind_is st v.node) (along next end visits both.1))

  called_once : (f : ℕ) (nodes : List BodyNode) (b a : Bool) → b ≡ false → a ≡ true → expression_at context r ≡ Some (e.CallResult f) → Filled context r nodes b a → (callees_filling r nodes ≡ f ∷ []) × (atomics_filling r nodes ≡ 0)
  called_once f nodes true false free full is rest = elim rest [ ]
  called_once f nodes true true free full is (Before cs ns) = cc
  called_once f nodes false false free full is (Never cs ns) = cc
  called_once f nodes false true free full is (OnceByCall g was cs ns) =
      let both : Some (e.CallResult g) ≡ Some (e.CallResult f) = sym was ∙ is in
      let same : g ≡ f = cc in
      (cs ∙ ap (λ k. k ∷ []) same, ns)
  called_once f nodes false true free full is (OnceByAtomic was cs ns) =
      let no_result : false ≡ true = ap is_atomic_result (sym is) ∙ was in cc

  done_once : (ty : ℕ) (comparison : Bool) (nodes : List BodyNode) (b a : Bool) → b ≡ false → a ≡ true → expression_at context r ≡ Some (e.AtomicResult ty comparison) → Filled context r nodes b a → (callees_filling r nodes ≡ []) × (atomics_filling r nodes ≡ 1)
  done_once ty comparison nodes true false free full is rest = elim rest [ ]
  done_once ty comparison nodes true true free full is (Before cs ns) = cc
  done_once ty comparison nodes false false free full is (Never cs ns) = cc
  done_once ty comparison nodes false true free full is (OnceByCall g was cs ns) =
      let both : Some (e.CallResult g) ≡ Some (e.AtomicResult ty comparison) = sym was ∙ is in cc
  done_once ty comparison nodes false true free full is (OnceByAtomic was cs ns) = (cs, ns)

-- behind a body: no expression is left unfilled
none_left : (context : Context) (filled : Handles) (first n k : ℕ) → k < n → first_fault (filled_points_from context filled first n) ≡ None → is_unfilled context filled (first + k) ≡ false
none_left context filled first zero k lt h = absurd (grind arith)
none_left context filled first (suc n) zero lt h =
    let same : first + 0 ≡ first = omega arith in
    ap (is_unfilled context filled) same ∙ not_holds (is_unfilled context filled first) (first_holds (not (is_unfilled context filled first)) (UnvisitedExpression first) (filled_points_from context filled (suc first) n) h).0
none_left context filled first (suc n) (suc k) lt h =
    let same : first + suc k ≡ suc first + k = omega arith in
    ap (is_unfilled context filled) same ∙ none_left context filled (suc first) n k (omega arith) (first_holds (not (is_unfilled context filled first)) (UnvisitedExpression first) (filled_points_from context filled (suc first) n) h).1

must_be : (a b : Bool) → a ≡ true → (a && not b) ≡ false → b ≡ true
must_be true true p q = refl
must_be true false p q = cc
must_be false b p q = cc

module _ (context : Context) (visits : List Visit) (is : body_judgement context ≡ Ok visits) where
  pub all_visits : visits ≡ visits_of (pre_emitted context) (body_of context.fun)
  unfolding body_judgement
  all_visits =
      earlier_is_all (λ earlier v. points_at context (past_of context earlier) v.place v.node) visits (pre_emitted context) (body_of context.fun) is

  nodes_of_visits : map (λ v. v.node) visits ≡ nodes_of (body_of context.fun)
  nodes_of_visits =
      ap (map (λ v. v.node)) all_visits ∙ nodes_are (pre_emitted context) (body_of context.fun) (positions (body_of context.fun))

  of_body : StagesAreOfAll context.settings.subgroup_stages context.earlier (body_of context.fun) (stages_left context context.info.available_stages visits)
  of_body =
      let stages = stages_left context context.info.available_stages visits in
      let statements = subst (AllByRecursion (AreOfStatement context.settings.subgroup_stages context.earlier stages)) nodes_of_visits (of_all context context.info.available_stages visits) in
      record {
        statements = statements;
        callees = callees_of_all context stages (nodes_of (body_of context.fun)) statements;
      }

  pub walked : judge_visits (kept_rules context) (begin_state context) visits ≡ Ok (state_left context visits)
  walked =
      ap (judge_visits (kept_rules context) (begin_state context)) all_visits
      ∙ sym (judgement_is_visits (kept_rules context) (begin_state context) (pre_emitted context) (body_of context.fun))
      ∙ kept context
      ∙ ap (viewed (state_left context)) is

  filled_of : (r : ℕ) → Filled context r (nodes_of (body_of context.fun)) false (filled_before visits r)
  filled_of r =
      subst (λ nodes. Filled context r nodes false (filled_before visits r)) nodes_of_visits (along context r (begin_state context) (state_left context visits) visits walked)

  module _ (on : checks_expressions context.settings.flags ≡ true) (all : first_fault (filled_points context (filled_before visits)) ≡ None) where
    each : first_fault (filled_points_from context (filled_before visits) 0 (length context.fun.expressions)) ≡ None
    each =
        ap (λ b. first_fault (if b then filled_points_from context (filled_before visits) 0 (length context.fun.expressions) else [])) (sym on) ∙ all

    is_filled : (r : ℕ) (x : Expression) → expression_at context r ≡ Some x → is_to_fill (Some x) ≡ true → filled_before visits r ≡ true
    is_filled r x at kind =
        let same : 0 + r ≡ r = omega arith in
        let none = ap (is_unfilled context (filled_before visits)) (sym same) ∙ none_left context (filled_before visits) 0 (length context.fun.expressions) r (slice_get_within context.fun.expressions r x at) each in
        must_be (is_to_fill (expression_at context r)) (filled_before visits r) (ap is_to_fill at ∙ kind) none

    once : ResultsAreFilledOnce context.fun
    once = record {
      calls = λ r f at. called_once context r f (nodes_of (body_of context.fun)) false (filled_before visits r) refl (is_filled r (e.CallResult f) at refl) at (filled_of r);
      atomics = λ r ty comparison at. done_once context r ty comparison (nodes_of (body_of context.fun)) false (filled_before visits r) refl (is_filled r (e.AtomicResult ty comparison) at refl) at (filled_of r);
    }

-- what a judgement that accepts says of its visits
pub record IsAccepted (context : Context) (outcome : FunctionOutcome) : Type 0 where
  pub visits : List Visit
  pub judged : body_judgement context ≡ Ok visits
  pub filled : first_fault (filled_points context (filled_before visits)) ≡ None
  pub left : outcome_left context visits ≡ outcome

module _ (context : Context) (outcome : FunctionOutcome) where
  answered : (o : Option FunctionError) (l : FunctionOutcome) → answer o l ≡ Ok outcome → (o ≡ None) × (l ≡ outcome)
  answered None l h = let same : l ≡ outcome = cc in (refl, same)
  answered (Some f) l h = cc

  by_visits : (judged : Result (List Visit) FunctionError) → body_judgement context ≡ judged →
      and_then judged (λ visits. answer (first_fault (filled_points context (filled_before visits))) (outcome_left context visits)) ≡ Ok outcome → IsAccepted context outcome
  by_visits (Ok visits) is h =
      let both = answered _ _ h in
      record { visits = visits; judged = is; filled = both.0; left = both.1 }
  by_visits (Err f) is h = cc

-- where bodies are looked at
pub with_blocks : (context : Context) → checks_blocks context.settings.flags ≡ true →
    judged_with context ≡ and_then (body_judgement context) (λ visits. answer (first_fault (filled_points context (filled_before visits))) (outcome_left context visits))
with_blocks context on =
    ap (λ b. and_then (if b then body_judgement context else Ok []) (λ visits. answer (first_fault (if b then filled_points context (filled_before visits) else [])) (outcome_left context visits))) on

pub accepted : (context : Context) (outcome : FunctionOutcome) → checks_blocks context.settings.flags ≡ true → judged_with context ≡ Ok outcome → IsAccepted context outcome
accepted context outcome on e = by_visits context outcome (body_judgement context) refl (sym (with_blocks context on) ∙ e)

module _ (context : Context) (outcome : FunctionOutcome) (of : IsAccepted context outcome) where
  pub accepted_fills_once : checks_expressions context.settings.flags ≡ true → ResultsAreFilledOnce context.fun
  accepted_fills_once on = once context of.visits of.judged on of.filled

  pub accepted_stages_of_all : StagesAreOfAll context.settings.subgroup_stages context.earlier (body_of context.fun) outcome.info.available_stages
  accepted_stages_of_all =
      subst (λ (l : FunctionOutcome). StagesAreOfAll context.settings.subgroup_stages context.earlier (body_of context.fun) l.info.available_stages) of.left (of_body context of.visits of.judged)

  pub accepted_stages_are_met : (some : ShaderStages) → AreAmong some outcome.info.available_stages ↔ AreOfStartAndAll context.settings.subgroup_stages context.earlier context.info.available_stages (body_of context.fun) some
  accepted_stages_are_met some =
      subst (λ (l : FunctionOutcome). AreAmong some l.info.available_stages ↔ AreOfStartAndAll context.settings.subgroup_stages context.earlier context.info.available_stages (body_of context.fun) some) of.left (
      subst (λ nodes. AreAmong some (stages_left context context.info.available_stages of.visits) ↔ (AreAmong some context.info.available_stages × AllByRecursion (AreOfStatement context.settings.subgroup_stages context.earlier some) nodes)) (nodes_of_visits context of.visits of.judged) (left_is_met context some context.info.available_stages of.visits)
      )
