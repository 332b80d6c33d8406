-- What the benches name is there, and so is what a body of the notation names.
use Rattle.std.proofs.Common.{◌≡◌, ℕ, zero, suc, ◌++◌, ◌<◌, Bool, true, false, ◌&&◌, List, [], ◌∷◌, All, Option, Some, None, length, sym, subst, refl, arith}
use Rattle.std.proofs.lemmas.Bool.{ltb-true, leb-true}
use Rattle.std.proofs.lemmas.List.Elements.{All-nil, All-from_recursion}
use Rattle.std.specs.Prelude.{IfSome, IfErr, Ok, Err, nat_lt}
use Rattle.ir_facts.proofs.Each.{EachFrom, each_from}
use Rattle.ir_facts.specs.Each.{EachAt}
use Rattle.ir_facts.specs.Fits.{FitsTypes, FitsGlobals, GlobalFits, FitsFunction, MemberCountFits, NameEarlierExpressions, ReferencesFit, LocalFits}
use Rattle.ir_facts.specs.FitsBody.{LeafFits, StatementFits, BodyFits, CasesFit, CalleeFits, SignatureFits}
use Rattle.ir_module.specs.Operands.{operands_of}
use Rattle.ir_statements.specs.View.{body_of, no_operands}
use Rattle.ir_statements.specs.declared.statements.Block.{Block}
use Rattle.ir_statements.specs.Tree.{Stmt, Leaf, Block as Nested, Branch, Switch, Loop, Break, Continue, Return, Kill, Body, Done, Then, Cases, NoCase, OneCase}
use Rattle.ir_types.specs.Types.{NamesTypesBelow, ResolutionFits}
use Rattle.ir_module.specs.declared.expressions.Expression.{Expression}
use Rattle.ir_module.specs.declared.expressions.Expression.TheVariants.{CallResult, Unary}
use Rattle.ir_module.specs.declared.functions.FunctionArgument.{FunctionArgument}
use Rattle.ir_module.specs.declared.module.Constant.{Constant}
use Rattle.ir_module.specs.declared.module.Module.{Module}
use Rattle.ir_module.specs.declared.module.Override.{Override}
use Rattle.ir_statements.specs.declared.statements.Statement.{Statement}
use Rattle.ir_statements.specs.declared.statements.Statement as statement
use Rattle.ir_types.specs.declared.types.Type.{«Type» as IrType}
use Rattle.case_notation.specs.Bench.{names_of, callees_of}
use Rattle.case_reply.specs.BenchModule.{bench_types, shared_expressions, bench_expressions, bench_locals, bench_function, bench_functions, bench_module, callee_block, callee_function}
use Rattle.case_notation.specs.CaseBlocks.{list_of}
use Rattle.check_entry.specs.GivenInfos.{NamesTypes, AreInfosOf}
use Rattle.ir_facts.specs.declared.valid.settings.Settings.{Settings}
use Rattle.case_reply.specs.CaseJudgement.{bench_infos, IsPlainAnswer}
use Rattle.naga_module.specs.ModuleJudgement.{ModuleAnswer, Fits, first_infos}
use Rattle.naga_module.specs.ModuleLaw.{IsReportedOfFunctions, FunctionsAloneAreReported}
use Rattle.naga_layers.specs.Plain.Meaning.{plain_meaning, plain_layer}
use Rattle.case_notation.specs.Sayable.{is_sayable, is_sayable_statement, are_sayable_cases, is_below_if_any, is_sayable_leaf, is_empty}
use Rattle.case_notation.specs.declared.bench.Bench.{Bench}
use Rattle.case_notation.specs.declared.bench.Bench.TheVariants.{P, C, D}
use Rattle.case_notation.proofs.Reading.Trees.{block_tree}

both_hold : (a b : Bool) → (a && b) ≡ true → (a ≡ true) × (b ≡ true)
both_hold true b e = (refl, e)
both_hold false b e = cc

types_fit : (bench : Bench) (block : Block) → FitsTypes (bench_module bench block)
types_fit bench block =
    let m = bench_module bench block in
    record {
      earlier = (each_from (λ k (t : IrType). NamesTypesBelow k t.inner) bench_types).1 (tt, (tt, (tt, tt)));
      counts = All-from_recursion (λ (t : IrType). MemberCountFits t.inner) bench_types (tt, (tt, (tt, tt)));
      ray_desc = tt;
      constants = All-nil (λ (c : Constant). c.ty < length m.types);
      overrides = All-nil (λ (o : Override). o.ty < length m.types);
    }

none_of : {A : Type 0} (xs : List A) → is_empty xs ≡ true → xs ≡ []
none_of [] e = refl
none_of (x ∷ xs) e = cc

-- n expressions and so many functions to call, each of which is there
module _ (m : Module) (n callees : ℕ) (there : (f : ℕ) → f < callees → CalleeFits m f) where
  below_if_any : (q : Option ℕ) → is_below_if_any n q ≡ true → IfSome q (λ h. h < n)
  below_if_any None e = tt
  below_if_any (Some h) e = ltb-true h n e

  sayable_leaf_fits : (x : Statement) → is_sayable_leaf n callees x ≡ true → LeafFits m n callees x
  sayable_leaf_fits (statement.Emit r) e =
      let both = both_hold _ _ e in (leb-true r.start r.end both.0, leb-true r.end n both.1)
  sayable_leaf_fits (statement.Store p v) e =
      let both = both_hold (nat_lt p n) _ e in (ltb-true p n both.0, ltb-true v n both.1)
  sayable_leaf_fits (statement.Call f xs r) e =
      let first = both_hold (nat_lt f callees) _ e in
      let rest = both_hold (is_empty xs) _ first.1 in
      let below = ltb-true f callees first.0 in
      (below, there f below, subst (All (λ h. h < n)) (sym (none_of xs rest.0)) (All-nil (λ h. h < n)), below_if_any r rest.1)
  sayable_leaf_fits (statement.ControlBarrier b) e = tt
  sayable_leaf_fits x e = absurd cc

  mutual
    unfolding is_sayable

    -- what a body of the notation names is there
    pub sayable_fits : (b : Body) → is_sayable n callees b ≡ true → BodyFits m n callees b
    sayable_fits Done e = tt
    sayable_fits (Then x rest) e =
        let both = both_hold (is_sayable_statement n callees x) _ e in (sayable_statement_fits x both.0, sayable_fits rest both.1)

    sayable_statement_fits : (x : Stmt) → is_sayable_statement n callees x ≡ true → StatementFits m n callees x
    sayable_statement_fits (Leaf acts x span) e = sayable_leaf_fits x e
    sayable_statement_fits (Nested b) e = sayable_fits b e
    sayable_statement_fits (Branch h p q) e =
        let first = both_hold (nat_lt h n) _ e in
        let both = both_hold (is_sayable n callees p) _ first.1 in
        (ltb-true h n first.0, sayable_fits p both.0, sayable_fits q both.1)
    sayable_statement_fits (Switch h cs) e =
        let both = both_hold (nat_lt h n) _ e in (ltb-true h n both.0, sayable_cases_fit cs both.1)
    sayable_statement_fits (Loop b d q) e =
        let first = both_hold (is_below_if_any n q) _ e in
        let both = both_hold (is_sayable n callees b) _ first.1 in
        (sayable_fits b both.0, sayable_fits d both.1, below_if_any q first.0)
    sayable_statement_fits Break e = tt
    sayable_statement_fits Continue e = tt
    sayable_statement_fits (Return v) e = below_if_any v e
    sayable_statement_fits Kill e = tt

    sayable_cases_fit : (cs : Cases) → are_sayable_cases n callees cs ≡ true → CasesFit m n callees cs
    sayable_cases_fit NoCase e = tt
    sayable_cases_fit (OneCase v f b cs) e =
        let both = both_hold (is_sayable n callees b) _ e in (sayable_fits b both.0, sayable_cases_fit cs both.1)

-- the expressions of a bench name earlier ones alone
shared_operands : (rest : List Expression) → EachFrom (λ k x. All (λ h. h < k) (operands_of x)) 6 rest → NameEarlierExpressions (shared_expressions ++ rest)
shared_operands rest more =
    let none = λ (k : ℕ). All-nil (λ h. h < k) in
    (each_from (λ k x. All (λ h. h < k) (operands_of x)) (shared_expressions ++ rest)).1 (
      none 0,
      (none 1, (none 2, (All-from_recursion (λ h. h < 3) (0 ∷ []) (omega arith, tt), (none 4, (All-from_recursion (λ h. h < 5) (4 ∷ []) (omega arith, tt), more))))),
    )

operands_fit : (bench : Bench) → NameEarlierExpressions (bench_expressions bench)
operands_fit P = shared_operands [] tt
operands_fit C = shared_operands (CallResult 0 ∷ []) (All-nil (λ h. h < 6), tt)
operands_fit D = shared_operands (Unary 0 (5 ∷ []) ∷ []) (All-from_recursion (λ h. h < 6) (5 ∷ []) (omega arith, tt), tt)

-- each name stands for an expression
named : (bench : Bench) → length (bench_expressions bench) ≡ length (names_of bench)
named P = refl
named C = refl
named D = refl

-- in a bench's module whose functions to call are there
module _ (block : Block) where
  -- what the expressions name besides is there
  references_fit : (bench : Bench) → ((g : ℕ) → g < callees_of bench → CalleeFits (bench_module bench block) g) → All (ReferencesFit (bench_module bench block) (bench_function bench block)) (bench_expressions bench)
  references_fit P callees =
      All-from_recursion (ReferencesFit (bench_module P block) (bench_function P block)) (bench_expressions P) (tt, (tt, (tt, (tt, (omega arith, (tt, tt))))))
  references_fit C callees =
      All-from_recursion (ReferencesFit (bench_module C block) (bench_function C block)) (bench_expressions C) (tt, (tt, (tt, (tt, (omega arith, (tt, (callees 0 (omega arith), tt)))))))
  references_fit D callees =
      All-from_recursion (ReferencesFit (bench_module D block) (bench_function D block)) (bench_expressions D) (tt, (tt, (tt, (tt, (omega arith, (tt, (tt, tt)))))))

  -- the bench's own function fits
  function_fits : (bench : Bench) → ((g : ℕ) → g < callees_of bench → CalleeFits (bench_module bench block) g) → is_sayable (length (names_of bench)) (callees_of bench) (body_of no_operands block) ≡ true → FitsFunction (bench_function bench block) (bench_module bench block) (callees_of bench)
  function_fits bench callees sayable =
      let m = bench_module bench block in
      let f = bench_function bench block in
      let signature : SignatureFits m f = record { count = omega arith; arguments = All-nil (λ (a : FunctionArgument). a.ty < length m.types); result_type = tt } in
      record {
        signature = signature;
        locals = All-from_recursion (LocalFits m f) bench_locals ((omega arith, tt), tt);
        operands = operands_fit bench;
        references = references_fit bench callees;
        body = subst (λ n. BodyFits m n (callees_of bench) (body_of no_operands block)) (sym (named bench)) (sayable_fits m (length (names_of bench)) (callees_of bench) callees (body_of no_operands block) sayable);
      }

  callee_signature : SignatureFits (bench_module C block) callee_function
  callee_signature =
      record { count = omega arith; arguments = All-nil (λ (a : FunctionArgument). a.ty < 3); result_type = omega arith }

  callee_tree : body_of no_operands callee_block ≡ Then (Return (Some 0)) Done
  unfolding list_of
  callee_tree = block_tree (list_of (Then (Return (Some 0)) Done))

  -- the function to call fits
  callee_fits : FitsFunction callee_function (bench_module C block) 0
  callee_fits =
      let m = bench_module C block in
      record {
        signature = callee_signature;
        locals = All-nil (LocalFits m callee_function);
        operands = (each_from (λ k x. All (λ h. h < k) (operands_of x)) callee_function.expressions).1 (All-nil (λ h. h < 0), tt);
        references = All-from_recursion (ReferencesFit m callee_function) callee_function.expressions (tt, tt);
        body = subst (BodyFits m 1 0) (sym callee_tree) (omega arith, tt);
      }

  callee_there : (h : ℕ) → h < 1 → CalleeFits (bench_module C block) h
  callee_there zero lt = callee_signature
  callee_there (suc h) lt = absurd (omega arith)

-- each function of a bench's module fits
functions_fit : (bench : Bench) (block : Block) → is_sayable (length (names_of bench)) (callees_of bench) (body_of no_operands block) ≡ true → EachAt (λ k f. FitsFunction f (bench_module bench block) k) (bench_module bench block).functions
functions_fit P block sayable =
    (each_from (λ k f. FitsFunction f (bench_module P block) k) (bench_functions P block)).1 (function_fits block P (λ g lt. absurd (omega arith)) sayable, tt)
functions_fit D block sayable =
    (each_from (λ k f. FitsFunction f (bench_module D block) k) (bench_functions D block)).1 (function_fits block D (λ g lt. absurd (omega arith)) sayable, tt)
functions_fit C block sayable =
    (each_from (λ k f. FitsFunction f (bench_module C block) k) (bench_functions C block)).1 (callee_fits block, (function_fits block C (callee_there block) sayable, tt))

globals_fit : (bench : Bench) (block : Block) → FitsGlobals (bench_module bench block) (first_infos [])
globals_fit bench block =
    let m = bench_module bench block in
    record {
      globals = All-nil (GlobalFits m);
      count = refl;
      types = All-nil (ResolutionFits (length m.types));
      earlier = (each_from (λ k x. All (λ h. h < k) (operands_of x)) m.global_expressions).1 tt;
    }

-- there is an info for each type of a bench
infos_fit : (bench : Bench) (block : Block) → AreInfosOf (bench_module bench block) bench_infos
infos_fit bench block =
    record { one_each = refl; named = All-from_recursion (NamesTypes 3) bench_infos ((tt, tt), ((tt, tt), ((tt, tt), tt))) }

-- all that is asked before a bench is judged
bench_fits : (settings : Settings) (bench : Bench) (block : Block) → Fits (plain_meaning plain_layer) settings bench_infos (bench_module bench block) []
bench_fits settings bench block =
    record { infos = infos_fit bench block; types_fit = types_fit bench block; globals = globals_fit bench block }

-- what can be told of a bench, by what is known of modules without globals and entry points
pub reported_of_bench : FunctionsAloneAreReported → (settings : Settings) (bench : Bench) (block : Block) → is_sayable (length (names_of bench)) (callees_of bench) (body_of no_operands block) ≡ true →
    (r : ModuleAnswer) → IsPlainAnswer settings (bench_module bench block) r → IfErr r IsReportedOfFunctions
reported_of_bench law settings bench block sayable (Ok infos) a = tt
reported_of_bench law settings bench block sayable (Err told) a =
    law (plain_meaning plain_layer) settings bench_infos [] (bench_module bench block) told (bench_fits settings bench block) refl refl (functions_fit bench block sayable) a
