-- What vetted infos give along chains of calls: by induction on how a body reaches a function.
use Rattle.std.proofs.Common.{◌≡◌, ◌<◌, ◌≤◌, ◌++◌, ◌⊎◌, inl, inr, ℕ, zero, suc, Bool, true, false, List, [], ◌∷◌, Option, None, Some, Ok, length, slice_get, refl, sym, ap, ◌∙◌, subst, arith}
use Rattle.std.proofs.lemmas.List.{length-append}
use Rattle.std.proofs.lemmas.Option.{slice_get_within}
use Rattle.std.specs.List.{AllByRecursion}
use Rattle.std.specs.Prelude.{Contains, map, take, if◌then◌else◌}
use Rattle.ir_facts.specs.Fits.{FitsFunction}
use Rattle.ir_facts.specs.FitsBody.{StatementFits, BodyFits, CasesFit}
use Rattle.ir_statements.specs.Tree.{Stmt, Body, Cases, Leaf, Block, Branch, Switch, Loop, Done, Then, NoCase, OneCase}
use Rattle.ir_statements.specs.View.{no_operands}
use Rattle.ir_module.specs.declared.functions.Function.{Function}
use Rattle.ir_module.specs.declared.module.Module.{Module}
use Rattle.ir_statements.specs.declared.statements.Statement.{Statement}
use Rattle.ir_statements.specs.declared.statements.Statement as ir
use Rattle.ir_arena.specs.declared.span.Span.{Span}
use Rattle.ir_flags.specs.declared.valid.ShaderStages.{ShaderStages}
use Rattle.ir_facts.specs.declared.valid.info.FunctionInfo.{FunctionInfo}
use Rattle.ir_facts.specs.declared.valid.info.ModuleInfo.{ModuleInfo}
use Rattle.ir_facts.specs.declared.valid.settings.Settings.{Settings}
use Rattle.ir_types.specs.declared.type_info.TypeInfo.{TypeInfo}
use Rattle.ir_statements.specs.Tree.{Act}
use Rattle.ir_facts.proofs.OtherOperands.{body_fits-other}
use Rattle.ir_facts.specs.Meaning.{Meaning}
use Rattle.naga_runs.proofs.Laws.{all_listed}
use Rattle.naga_runs.proofs.EachOf.{all_append}
use Rattle.naga_runs.proofs.VisitsByTree.{visits_are}
use Rattle.naga_runs.specs.ByTree.{past, in_case, in_loop, in_continuing, at_break_if, break_if_visits, body_visits, part_visits, case_visits}
use Rattle.naga_runs.specs.Handles.{Handles}
use Rattle.naga_runs.specs.Positions.{BodyNode, NoNode, StatementNode, BreakIfNode}
use Rattle.naga_runs.specs.VisitOrder.{positions}
use Rattle.naga_runs.specs.Visits.{VisitPlace, Visit, at_begin}
use Rattle.check_laws.specs.Accepted.{nodes_of, AreAmong, AreOfStatement, AreOfCallee, StagesAreOfAll}
use Rattle.check_scope.specs.BodyTrees.{body_of, emitted_operands}
use Rattle.check_laws.specs.Chains.{Reaches, Calls, Through, CallsBelow, infos_below, IsVettedInfo, AreVetted, masks_of, KeepsTo, ChainsAreKept, NoneIsVetted, OneMoreIsVetted, CallsOfFittingAreBelow}
use Rattle.check_scope.specs.Context.{Context}
use Rattle.check_statement.specs.ExpressionStages.{mask_at, mask_and, masks_from}
use Rattle.check_laws.specs.InOrder.{callee_of, callees_of, called_by, with_info}
use Rattle.check_statement.specs.FunctionJudgement.{FunctionOutcome, context_with, function_judgement}
use Rattle.check_statement.specs.ValidatorParts.{no_traces}
use Rattle.check_statement.specs.Rules.{recorded_stages, callee_stages, leaf_stages, stages_of}
use Rattle.check_statement.specs.StageSets.{meet}
use Rattle.ir_facts.specs.WhatIsChecked.{checks_blocks, checks_expressions}
use Rattle.check_scope.specs.declared.trace.TraceState.{TraceState}
use Rattle.check_laws.proofs.Accepted.{among_all, nodes_are}
use Rattle.check_laws.proofs.FunctionLaw.{is_of_all_stages, has_every_mask, stages_are_met}
use Rattle.check_flow.proofs.Lists.{in_first, in_second, of_each, taken, present}

-- masks of statements: those with the infos below k are those with all infos, where what is called is below k
module _ (subgroups : ShaderStages) (infos : ModuleInfo) (k : ℕ) where
  recorded : (f : ℕ) → f < k → callee_stages (infos_below k infos) f ≡ callee_stages infos f
  recorded f h = ap recorded_stages (taken infos.functions k f h)

  leaf_same : (acts : List Act) (x : Statement) (span : Span) → AllByRecursion (λ f. f < k) (callee_of (StatementNode (Leaf acts x span))) →
      leaf_stages subgroups (infos_below k infos) x ≡ leaf_stages subgroups infos x
  leaf_same acts (ir.Call f arguments result) span h = recorded f h.0
  leaf_same acts _ span h = refl

  mask_same : (x : Stmt) → AllByRecursion (λ f. f < k) (callee_of (StatementNode x)) →
      stages_of subgroups (infos_below k infos) x ≡ stages_of subgroups infos x
  mask_same (Leaf acts x span) h = leaf_same acts x span h
  mask_same _ h = refl

  node_same : (stages : ShaderStages) (node : BodyNode) → AllByRecursion (λ f. f < k) (callee_of node) →
      AreOfStatement subgroups (infos_below k infos) stages node → AreOfStatement subgroups infos stages node
  node_same stages (StatementNode x) h e = subst (λ (s : ShaderStages). AreAmong stages s) (mask_same x h) e
  node_same stages NoNode h e = tt
  node_same stages (BreakIfNode c) h e = tt

  nodes_same : (stages : ShaderStages) (nodes : List BodyNode) → AllByRecursion (λ f. f < k) (callees_of nodes) →
      AllByRecursion (AreOfStatement subgroups (infos_below k infos) stages) nodes → AllByRecursion (AreOfStatement subgroups infos stages) nodes
  nodes_same stages [] h a = tt
  nodes_same stages (node ∷ nodes) h a =
      (node_same stages node (in_first (λ f. f < k) (callee_of node) (callees_of nodes) h) a.0, nodes_same stages nodes (in_second (λ f. f < k) (callee_of node) (callees_of nodes) h) a.1)

  callee_same : (stages : ShaderStages) (node : BodyNode) → AllByRecursion (λ f. f < k) (callee_of node) →
      AreOfCallee (infos_below k infos) stages node → AreOfCallee infos stages node
  callee_same stages (StatementNode (Leaf acts (ir.Call f arguments result) span)) h e = subst (λ (s : ShaderStages). AreAmong stages s) (recorded f h.0) e
  callee_same stages _ h e = tt

  callees_same : (stages : ShaderStages) (nodes : List BodyNode) → AllByRecursion (λ f. f < k) (callees_of nodes) →
      AllByRecursion (AreOfCallee (infos_below k infos) stages) nodes → AllByRecursion (AreOfCallee infos stages) nodes
  callees_same stages [] h a = tt
  callees_same stages (node ∷ nodes) h a =
      (callee_same stages node (in_first (λ f. f < k) (callee_of node) (callees_of nodes) h) a.0, callees_same stages nodes (in_second (λ f. f < k) (callee_of node) (callees_of nodes) h) a.1)

  -- stages of all by the infos below k are so by all infos, where what is called is below k
  pub of_all_infos : (b : Body) (stages : ShaderStages) → CallsBelow k b → StagesAreOfAll subgroups (infos_below k infos) b stages →
      StagesAreOfAll subgroups infos b stages
  of_all_infos b stages calls a =
      let lower = all_listed (λ g. g < k) (called_by b) calls in
      record {
        statements = nodes_same stages (nodes_of b) lower a.statements;
        callees = callees_same stages (nodes_of b) lower a.callees;
      }

-- stages of all don't depend on the infos of entry points
pub of_other_entries : (subgroups : ShaderStages) (infos : ModuleInfo) (entries : List FunctionInfo) (b : Body) (stages : ShaderStages) →
    StagesAreOfAll subgroups (record infos { entry_points = entries }) b stages → StagesAreOfAll subgroups infos b stages
of_other_entries subgroups infos entries b stages a = record { statements = a.statements; callees = a.callees }

-- stages that are among those of every statement
module _ (subgroups : ShaderStages) (infos : ModuleInfo) where
  fewer_of : (some all : ShaderStages) → AreAmong some all → (node : BodyNode) → AreOfStatement subgroups infos all node → AreOfStatement subgroups infos some node
  fewer_of some all p (StatementNode x) e = among_all some all (stages_of subgroups infos x) p e
  fewer_of some all p NoNode e = tt
  fewer_of some all p (BreakIfNode c) e = tt

  fewer : (some all : ShaderStages) → AreAmong some all → (nodes : List BodyNode) →
      AllByRecursion (AreOfStatement subgroups infos all) nodes → AllByRecursion (AreOfStatement subgroups infos some) nodes
  fewer some all p [] a = tt
  fewer some all p (node ∷ nodes) a = (fewer_of some all p node a.0, fewer some all p nodes a.1)

  callee_among : (stages : ShaderStages) (node : BodyNode) → AreOfStatement subgroups infos stages node →
      AllByRecursion (λ f. AreAmong stages (callee_stages infos f)) (callee_of node)
  callee_among stages (StatementNode (Leaf acts (ir.Call f arguments result) span)) e = (e, tt)
  callee_among stages _ e = tt

  callees_among : (stages : ShaderStages) (nodes : List BodyNode) → AllByRecursion (AreOfStatement subgroups infos stages) nodes →
      AllByRecursion (λ f. AreAmong stages (callee_stages infos f)) (callees_of nodes)
  callees_among stages [] a = tt
  callees_among stages (node ∷ nodes) a =
      all_append (λ f. AreAmong stages (callee_stages infos f)) (callee_of node) (callees_of nodes) (callee_among stages node a.0) (callees_among stages nodes a.1)

-- masks of expressions don't depend on what ray traces left
module _ (below : Meaning) (settings : Settings) (types : List TypeInfo) (m : Module) (earlier : ModuleInfo) (fun : Function) (entry_point : Bool) (info : FunctionInfo) where
  abbrev tracing : TraceState → Context
  tracing trace = context_with below settings types trace m earlier fun entry_point info

  masks_same : (t u : TraceState) (s : ShaderStages) (h n : ℕ) → masks_from below (tracing t) s h n ≡ masks_from below (tracing u) s h n
  unfolding masks_from
  masks_same t u s h zero = refl
  masks_same t u s h (suc n) =
      λ i. mask_and below (tracing t) (mask_at below (tracing t) s h) (λ mask. masks_same t u (meet s mask) (suc h) n i)

-- a function that was accepted with these infos keeps to the stages that are left
module _ (below : Meaning) (settings : Settings) (types : List TypeInfo) (trace : TraceState) (m : Module) (earlier : ModuleInfo) (fun : Function) (entry_point : Bool) (outcome : FunctionOutcome)
    (e : function_judgement below settings types trace m earlier fun entry_point ≡ Ok outcome) (on : checks_blocks settings.flags ≡ true) (stages : ShaderStages) (p : AreAmong stages outcome.info.available_stages) where
  statements_keep : AllByRecursion (AreOfStatement settings.subgroup_stages earlier stages) (nodes_of (body_of fun))
  statements_keep =
      fewer settings.subgroup_stages earlier stages outcome.info.available_stages p (nodes_of (body_of fun)) ((is_of_all_stages below settings types trace m earlier fun entry_point outcome e on).statements)

  expressions_keep : (info : FunctionInfo) → below.function_info fun m earlier settings.flags settings.capabilities ≡ Ok info →
      AllByRecursion (AreAmong stages) (masks_of below settings types m earlier fun info)
  expressions_keep info is =
      let met = (stages_are_met below settings types trace m earlier fun entry_point outcome info e on is stages).0 p in
      subst (λ (l : List ShaderStages). AllByRecursion (AreAmong stages) (if checks_expressions settings.flags then l else []))
      (masks_same below settings types m earlier fun entry_point info trace no_traces info.available_stages 0 (length fun.expressions)) met.1

  every_keeps : (info : FunctionInfo) → below.function_info fun m earlier settings.flags settings.capabilities ≡ Ok info → checks_expressions settings.flags ≡ true →
      length (masks_of below settings types m earlier fun info) ≡ length fun.expressions
  every_keeps info is looked =
      subst (λ (l : List ShaderStages). length (if checks_expressions settings.flags then l else []) ≡ length fun.expressions)
      (masks_same below settings types m earlier fun entry_point info trace no_traces info.available_stages 0 (length fun.expressions))
      (has_every_mask below settings types trace m earlier fun entry_point outcome info e on is looked)

-- along chains
module _ (below : Meaning) (settings : Settings) (types : List TypeInfo) (m : Module) (infos : ModuleInfo)
    (on : checks_blocks settings.flags ≡ true) (vetted : AreVetted below settings types m infos) (stages : ShaderStages) where
  -- each function that a body calls has an info, and the stages are among those that it records
  record IsGood (b : Body) : Type 0 where
    known : CallsBelow (length infos.functions) b
    kept : (f : ℕ) → Contains (called_by b) f → AreAmong stages (callee_stages infos f)

  abbrev Keeps : ℕ → Function → Type 0
  Keeps f callee = KeepsTo below settings types m infos (infos_below f infos) callee stages

  good : (b : Body) → CallsBelow (length infos.functions) b → AllByRecursion (AreOfStatement settings.subgroup_stages infos stages) (nodes_of b) → IsGood b
  good b known a =
      record {
        known = known;
        kept = λ f c.
            of_each (λ g. AreAmong stages (callee_stages infos g)) (called_by b) f (callees_among settings.subgroup_stages infos stages (nodes_of b) a) c;
      }

  callee_keeps : (f : ℕ) (callee : Function) (info : FunctionInfo) → slice_get m.functions f ≡ Some callee → slice_get infos.functions f ≡ Some info →
      f < length infos.functions → AreAmong stages info.available_stages → Keeps f callee × IsGood (body_of callee)
  callee_keeps f callee info is known within p =
      let v = vetted.each f callee info is known in
      let own = statements_keep below settings types v.trace m (infos_below f infos) callee false _ v.judged on stages p in
      let lower = all_listed (λ g. g < f) (called_by (body_of callee)) v.calls in
      let all = nodes_same settings.subgroup_stages infos f stages (nodes_of (body_of callee)) lower own in (
        record {
          statements = all;
          expressions = expressions_keep below settings types v.trace m (infos_below f infos) callee false _ v.judged on stages p;
          every = every_keeps below settings types v.trace m (infos_below f infos) callee false _ v.judged on stages p;
        },
        good (body_of callee) (λ g c. let less = v.calls g c in omega arith) all,
      )

  behind_call : (b : Body) (f : ℕ) (callee : Function) → IsGood b → Contains (called_by b) f → slice_get m.functions f ≡ Some callee →
      Keeps f callee × IsGood (body_of callee)
  behind_call b f callee g c is =
      let within = g.known f c in
      let found = present infos.functions f within in
      callee_keeps f callee found.0 is found.1 within (subst (λ o. AreAmong stages (recorded_stages o)) found.1 (g.kept f c))

  along : {b : Body} {f : ℕ} → Reaches m b f → IsGood b → (callee : Function) → slice_get m.functions f ≡ Some callee → Keeps f callee
  along {b = b} {f = f} (Calls c) g callee is = (behind_call b f callee g c is).0
  along {b = b} {f = f} (Through h between c at more) g callee is =
      along more (behind_call b h between g c at).1 callee is

pub chains_are_kept : ChainsAreKept
chains_are_kept below settings types trace m infos fun entry_point outcome stages e on vetted known p =
    let own = statements_keep below settings types trace m infos fun entry_point outcome e on stages p in
    record {
      own =
          record {
            statements = own;
            expressions = expressions_keep below settings types trace m infos fun entry_point outcome e on stages p;
            every = every_keeps below settings types trace m infos fun entry_point outcome e on stages p;
          };
      reached = λ f callee r is.
          along below settings types m infos on vetted stages r (good below settings types m infos on vetted stages (body_of fun) known own) callee is;
    }

-- a function that fits calls only functions that have an info
module _ (m : Module) (n k : ℕ) where
  abbrev Low : List Visit → Type 0
  Low visits = AllByRecursion (λ f. f < k) (callees_of (map (λ v. v.node) visits))

  both_low : (xs ys : List Visit) → Low xs → Low ys → Low (xs ++ ys)
  both_low [] ys a b = b
  both_low (v ∷ xs) ys a b =
      let P : ℕ → Type 0 = λ (f : ℕ). f < k in
      let rest = callees_of (map (λ (w : Visit). w.node) xs) in
      all_append P (callee_of v.node) _ (in_first P (callee_of v.node) rest a) (both_low xs ys (in_second P (callee_of v.node) rest a) b)

  own_low : (c : VisitPlace) (x : Stmt) → StatementFits m n k x → AllByRecursion (λ f. f < k) (callee_of (StatementNode x))
  own_low c (Leaf acts (ir.Call f arguments result) span) h = (h.0, tt)
  own_low c _ h = tt

  condition_low : (c : VisitPlace) (q : Option ℕ) → Low (break_if_visits c q)
  condition_low c None = tt
  condition_low c (Some h) = tt

  mutual
    body_low : (c : VisitPlace) (b : Body) → BodyFits m n k b → Low (body_visits c b)
    body_low c Done h = tt
    body_low c (Then x b) h =
        all_append (λ (f : ℕ). f < k) (callee_of (StatementNode x)) _ (own_low c x h.0) (both_low (part_visits c x) (body_visits (past x c) b) (parts_low c x h.0) (body_low (past x c) b h.1))

    parts_low : (c : VisitPlace) (x : Stmt) → StatementFits m n k x → Low (part_visits c x)
    parts_low c (Block b) h = body_low c b h
    parts_low c (Branch q a r) h = both_low (body_visits c a) (body_visits c r) (body_low c a h.1) (body_low c r h.2)
    parts_low c (Switch q cs) h = cases_low (in_case c) cs h.1
    parts_low c (Loop b d q) h =
        both_low (body_visits (in_loop c) b) (body_visits (in_continuing b c) d ++ break_if_visits (at_break_if b d c) q) (body_low (in_loop c) b h.0)
        (both_low (body_visits (in_continuing b c) d) (break_if_visits (at_break_if b d c) q) (body_low (in_continuing b c) d h.1) (condition_low (at_break_if b d c) q))
    parts_low c _ h = tt

    cases_low : (c : VisitPlace) (cs : Cases) → CasesFit m n k cs → Low (case_visits c cs)
    cases_low c NoCase h = tt
    cases_low c (OneCase v falls b cs) h = both_low (body_visits c b) (case_visits c cs) (body_low c b h.0) (cases_low c cs h.1)

no_handle : Handles
no_handle h = false

pub fits_calls_below : CallsOfFittingAreBelow
fits_calls_below fun m k fits f c =
    let b = body_of fun in
    let fit = body_fits-other m (length fun.expressions) k (emitted_operands fun) no_operands fun.body fits.body in
    let nodes : map (λ v. v.node) (body_visits (at_begin no_handle) b) ≡ nodes_of b =
    ap (map (λ (v : Visit). v.node)) (sym (visits_are no_handle b)) ∙ nodes_are no_handle b (positions b) in
    let low = subst (λ (l : List BodyNode). AllByRecursion (λ g. g < k) (callees_of l)) nodes (body_low m (length fun.expressions) k (at_begin no_handle) b fit) in
    of_each (λ g. g < k) (called_by b) f low c

-- infos one by one

either : {A B C : Type 0} → (A → C) → (B → C) → A ⊎ B → C
either f g (inl a) = f a
either f g (inr b) = g b

module _ {A : Type 0} where
  cut : (xs ys : List A) (k : ℕ) → k ≤ length xs → take k (xs ++ ys) ≡ take k xs
  cut xs ys zero h = refl
  cut [] ys (suc k) h = absurd (omega arith)
  cut (x ∷ xs) ys (suc k) h = ap (λ l. x ∷ l) (cut xs ys k (omega arith))

  cut_all : (xs ys : List A) → take (length xs) (xs ++ ys) ≡ xs
  cut_all [] ys = refl
  cut_all (x ∷ xs) ys = ap (λ l. x ∷ l) (cut_all xs ys)

  -- an item of a list with one item more is one of the list, or that item
  last_or : (xs : List A) (y x : A) (k : ℕ) → slice_get (xs ++ y ∷ []) k ≡ Some x →
      ((k < length xs) × (slice_get xs k ≡ Some x)) ⊎ ((k ≡ length xs) × (y ≡ x))
  last_or [] y x zero e = inr (refl, cc)
  last_or [] y x (suc k) e = cc
  last_or (z ∷ xs) y x zero e = inl (omega arith, e)
  last_or (z ∷ xs) y x (suc k) e = either (λ p. let l = p.0 in inl (omega arith, p.1)) (λ p. inr (ap suc p.0, p.1)) (last_or xs y x k e)

pub none_is_vetted : NoneIsVetted
none_is_vetted below settings types m infos none =
    record {
      few = subst (λ (l : List FunctionInfo). length l ≤ length m.functions) (sym none) (omega arith);
      each = λ k fun info is known. let no = ap (λ (l : List FunctionInfo). slice_get l k) (sym none) ∙ known in cc;
    }

module _ (below : Meaning) (settings : Settings) (types : List TypeInfo) (m : Module) (infos : ModuleInfo) (more : FunctionInfo) where
  -- the info of an earlier function is vetted as before
  earlier_vetted : (k : ℕ) (fun : Function) (info : FunctionInfo) → k ≤ length infos.functions →
      IsVettedInfo below settings types m infos k fun info → IsVettedInfo below settings types m (with_info infos more) k fun info
  earlier_vetted k fun info within v =
      record {
        calls = v.calls;
        trace = v.trace;
        left = v.left;
        judged =
            subst (λ (l : List FunctionInfo). function_judgement below settings types v.trace m (record infos { functions = l; entry_points = [] }) fun false ≡ Ok (record { info = info; trace = v.left }))
            (sym (cut infos.functions (more ∷ []) k within)) v.judged;
      }

-- and so is that of the function that was judged with the infos before it
newest : (below : Meaning) (settings : Settings) (types : List TypeInfo) (trace : TraceState) (m : Module) (infos : ModuleInfo) (fun : Function) (left : FunctionOutcome) →
    infos.entry_points ≡ [] → FitsFunction fun m (length infos.functions) → function_judgement below settings types trace m infos fun false ≡ Ok left →
    (k : ℕ) (f : Function) (info : FunctionInfo) → slice_get m.functions k ≡ Some f → slice_get m.functions (length infos.functions) ≡ Some fun →
    k ≡ length infos.functions → left.info ≡ info → IsVettedInfo below settings types m (with_info infos left.info) k f info
newest below settings types trace m infos fun left none fits e k f info is at last same =
    let one : f ≡ fun = let same_at = sym is ∙ ap (slice_get m.functions) last ∙ at in cc in
    let cut_to = ap (λ n. take n (infos.functions ++ left.info ∷ [])) last ∙ cut_all infos.functions (left.info ∷ []) in
    let known : infos ≡ infos_below k (with_info infos left.info) = λ i. record infos { functions = sym cut_to i; entry_points = none i } in
    record {
      calls = subst (λ (g : Function). CallsBelow k (body_of g)) (sym one) (subst (λ n. CallsBelow n (body_of fun)) (sym last) (fits_calls_below fun m (length infos.functions) fits));
      trace = trace;
      left = left.trace;
      judged =
          subst (λ (g : Function). function_judgement below settings types trace m (infos_below k (with_info infos left.info)) g false ≡ Ok (record { info = info; trace = left.trace })) (sym one)
          (subst (λ (i : ModuleInfo). function_judgement below settings types trace m i fun false ≡ Ok (record { info = info; trace = left.trace })) known
          (e ∙ ap (λ (i : FunctionInfo). Ok (record { info = i; trace = left.trace })) same));
    }

pub one_more_is_vetted : OneMoreIsVetted
one_more_is_vetted below settings types trace m infos fun left v none at fits e =
    let below_m = slice_get_within m.functions (length infos.functions) fun at in
    record {
      few = let one = length-append infos.functions (left.info ∷ []) in omega arith;
      each = λ k f info is known.
          either
          (λ p. let within = p.0 in earlier_vetted below settings types m infos left.info k f info (omega arith) (v.each k f info is p.1))
          (λ p. newest below settings types trace m infos fun left none fits e k f info is at p.0 p.1)
          (last_or infos.functions left.info info k known);
    }
