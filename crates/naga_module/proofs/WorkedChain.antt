-- The judgements of a chain of two calls, by computation.
use Rattle.std.proofs.Common.{◌≡◌, ◌<◌, ◌∙◌, ℕ, zero, suc, false, [], ◌∷◌, None, Some, Result, Ok, refl, sym, ap, subst, arith}
use Rattle.std.proofs.lemmas.List.Elements.{All-contains, All-from_recursion}
use Rattle.std.specs.List.{AllByRecursion}
use Rattle.std.specs.Prelude.{Contains, slice_get}
use Rattle.ir_statements.proofs.Rows.{body_of-list}
use Rattle.ir_flags.specs.Bits.{ALL_STAGES}
use Rattle.ir_arena.specs.Points.{and_then, answer, first_fault}
use Rattle.ir_statements.specs.Tree.{Body}
use Rattle.ir_statements.specs.View.{list_body}
use Rattle.ir_module.specs.declared.functions.Function.{Function}
use Rattle.ir_statements.specs.declared.statements.Block.{out-roll-Block}
use Rattle.ir_statements.specs.declared.statements.Statement.{Statement}
use Rattle.ir_statements.specs.declared.statements.Statement as ir
use Rattle.ir_facts.specs.declared.valid.info.FunctionInfo.{FunctionInfo}
use Rattle.ir_errors.specs.declared.function.FunctionError.{FunctionError}
use Rattle.naga_runs.specs.Judgement.{judgement, state_after}
use Rattle.check_scope.specs.BodyTrees.{body_of, emitted_operands}
use Rattle.check_laws.specs.Chains.{Calls, Through, CallsBelow, infos_below, IsVettedInfo}
use Rattle.check_scope.specs.Context.{Context, pre_emitted}
use Rattle.check_statement.specs.ExpressionStages.{stages_from}
use Rattle.check_laws.specs.InOrder.{called_by}
use Rattle.check_statement.specs.FunctionJudgement.{FunctionOutcome, body_judgement, context_with, function_judgement, unfilled_points, outcome_left}
use Rattle.check_statement.specs.ValidatorParts.{no_traces}
use Rattle.check_statement.specs.Rules.{body_rules}
use Rattle.naga_layers.specs.Plain.Meaning.{plain_meaning, plain_layer}
use Rattle.naga_layers.specs.Plain.Types.{types_from}
use Rattle.naga_layers.specs.Plain.Uses.{with_all_named}
use Rattle.naga_module.specs.WorkedChain.{one, function_of, chain_module, chain_infos, chain_settings, of_fragments, placed, ChainRows}

abbrev tree : Statement → Body
tree x = list_body (emitted_operands (function_of x)) (placed x ∷ [])

tree_is : (x : Statement) → body_of (function_of x) ≡ tree x
tree_is x =
    body_of-list (emitted_operands (function_of x)) (one x)
    ∙ ap (λ block. list_body (emitted_operands (function_of x)) block.list) (out-roll-Block (record { list = placed x ∷ [] }))

-- what function k is judged with, where it is this statement
abbrev at : ℕ → Statement → Context
at k x =
    context_with (plain_meaning plain_layer) chain_settings [] no_traces chain_module (infos_below k chain_infos) (function_of x) false
    (record { expression_types = []; global_uses = []; available_stages = ALL_STAGES; dual_source_blending = false })

abbrev behind : ℕ → Statement → Body → Result FunctionOutcome FunctionError
behind k x b =
    and_then (judgement (body_rules (at k x)) [] (pre_emitted (at k x)) b)
    (λ visits. answer (first_fault (unfilled_points (at k x) visits)) (outcome_left (at k x) visits))

abbrev judged : ℕ → Statement → Result FunctionOutcome FunctionError
judged k x = function_judgement (plain_meaning plain_layer) chain_settings [] no_traces chain_module (infos_below k chain_infos) (function_of x) false

by_body : (k : ℕ) (x : Statement) → judged k x ≡ behind k x (body_of (function_of x))
unfolding function_judgement body_judgement judgement stages_from types_from with_all_named
by_body k x = refl

abbrev left : FunctionOutcome
left = record { info = of_fragments; trace = no_traces }

ending : behind 0 ir.Kill (tree ir.Kill) ≡ Ok left
unfolding judgement state_after
ending = refl

calling : behind 1 (ir.Call 0 [] None) (tree (ir.Call 0 [] None)) ≡ Ok left
unfolding judgement state_after
calling = refl

calling_on : behind 2 (ir.Call 1 [] None) (tree (ir.Call 1 [] None)) ≡ Ok left
unfolding judgement state_after
calling_on = refl

judged_by : (k : ℕ) (x : Statement) → behind k x (tree x) ≡ Ok left → judged k x ≡ Ok left
judged_by k x e = by_body k x ∙ ap (behind k x) (tree_is x) ∙ e

-- the functions that are called, by the tree
calls_by_tree : (k : ℕ) (x : Statement) → AllByRecursion (λ f. f < k) (called_by (tree x)) → CallsBelow k (body_of (function_of x))
calls_by_tree k x all =
    subst (CallsBelow k) (sym (tree_is x)) (λ f c. All-contains (λ g. g < k) (called_by (tree x)) f (All-from_recursion (λ g. g < k) (called_by (tree x)) all) c)

abbrev Vetted : ℕ → Function → FunctionInfo → Type 0
Vetted k f info = IsVettedInfo (plain_meaning plain_layer) chain_settings [] chain_module chain_infos k f info

vetted_by : (k : ℕ) (x : Statement) → AllByRecursion (λ f. f < k) (called_by (tree x)) → behind k x (tree x) ≡ Ok left → Vetted k (function_of x) of_fragments
vetted_by k x all e =
    record { calls = calls_by_tree k x all; trace = no_traces; left = no_traces; judged = judged_by k x e }

-- of the function and the info that stand at a place
at_place : (k : ℕ) (x : Statement) (f : Function) (info : FunctionInfo) → Some (function_of x) ≡ Some f → Some of_fragments ≡ Some info → Vetted k (function_of x) of_fragments → Vetted k f info
at_place k x f info is known v =
    let same : function_of x ≡ f = cc in
    let alike : of_fragments ≡ info = cc in
    subst (λ (g : Function). Vetted k g info) same (subst (λ (i : FunctionInfo). Vetted k (function_of x) i) alike v)

vetted : (k : ℕ) (f : Function) (info : FunctionInfo) → slice_get chain_module.functions k ≡ Some f → slice_get chain_infos.functions k ≡ Some info → Vetted k f info
vetted zero f info is known = at_place 0 ir.Kill f info is known (vetted_by 0 ir.Kill tt ending)
vetted (suc zero) f info is known =
    at_place 1 (ir.Call 0 [] None) f info is known (vetted_by 1 (ir.Call 0 [] None) (omega arith, tt) calling)
vetted (suc (suc zero)) f info is known =
    at_place 2 (ir.Call 1 [] None) f info is known (vetted_by 2 (ir.Call 1 [] None) (omega arith, tt) calling_on)
vetted (suc (suc (suc k))) f info is known = cc

-- the first function that a body of one call names
names : (g : ℕ) → Contains (called_by (body_of (function_of (ir.Call g [] None)))) g
names g = subst (λ b. Contains (called_by b) g) (sym (tree_is (ir.Call g [] None))) (0, omega arith, refl)

pub chain_rows : ChainRows
chain_rows =
    record {
      vetted = record { few = omega arith; each = vetted };
      reached = Through 1 (function_of (ir.Call 0 [] None)) (names 1) refl (Calls (names 0));
    }
