-- A part of a body that is ready to be judged is ready.
use Rattle.std.proofs.Common.{◌≡◌, ℕ, ◌+◌, ◌<◌, Bool, Option, IfSome, List, ◌∷◌, drop, get_or, length, subst, sym, ap, ◌∙◌}
use Rattle.std.proofs.lemmas.List.{at_drop_more}
use Rattle.ir_facts.specs.Fits.{FitsFunction}
use Rattle.ir_facts.specs.FitsBody.{LeafFits}
use Rattle.ir_statements.specs.Tree.{Act, Stmt, Leaf, Block, Branch, Switch, Loop, Body, Then, Cases, OneCase}
use Rattle.ir_statements.specs.declared.statements.Located.{Located}
use Rattle.ir_statements.specs.declared.statements.Statement as ir
use Rattle.ir_statements.specs.declared.statements.Statement.{Statement}
use Rattle.ir_arena.specs.declared.span.Span.{Span}
use Rattle.ir_statements.specs.declared.statements.SwitchCase.{SwitchCase, out-SwitchCase}
use Rattle.ir_statements.specs.declared.operations.SwitchValue.{SwitchValue}
use Rattle.naga_runs.specs.Positions.{StatementNode}
use Rattle.check_scope.specs.Results.{result_of}
use Rattle.ir_facts.proofs.OtherOperands.{body_fits-other}
use Rattle.ir_statements.specs.View.{no_operands}
use Rattle.check_scope.specs.BodyTrees.{emitted_operands, tree_of, body_of, block_of, list_of, cases_of}
use Rattle.check_scope.specs.Context.{Context}
use Rattle.check_statement.specs.Ready.{IsStatementReady, IsBodyReady, AreCasesReady}

module _ (context : Context) where
  pub in_block : (b : Body) → IsStatementReady context (Block b) → IsBodyReady context b
  unfolding IsStatementReady IsBodyReady
  in_block b r = r

  pub in_branch : (h : ℕ) (p q : Body) → IsStatementReady context (Branch h p q) → IsBodyReady context p × IsBodyReady context q
  unfolding IsStatementReady IsBodyReady
  in_branch h p q r = (r.1, r.2)

  pub in_switch : (h : ℕ) (cs : Cases) → IsStatementReady context (Switch h cs) → AreCasesReady context cs
  unfolding IsStatementReady AreCasesReady
  in_switch h cs r = r.1

  pub in_lists : (b d : Body) (q : Option ℕ) → IsStatementReady context (Loop b d q) → IsBodyReady context b × IsBodyReady context d
  unfolding IsStatementReady IsBodyReady
  in_lists b d q r = (r.0, r.1)

  pub in_leaf : (acts : List Act) (statement : Statement) (span : Span) → IsStatementReady context (Leaf acts statement span) → LeafFits context.program (length context.fun.expressions) (length context.earlier.functions) statement
  unfolding IsStatementReady
  in_leaf acts statement span ready = ready

  -- the result that it fills is there
  pub in_result : (x : Stmt) → IsStatementReady context x → IfSome (result_of (StatementNode x)) (λ r. r < length context.fun.expressions)
  unfolding IsStatementReady
  in_result (Leaf acts (ir.Call f xs r) span) ready = ready.3
  in_result (Leaf acts (ir.Atomic p fun v r) span) ready = ready.3
  in_result _ ready = tt

  first_and_rest : (x : Stmt) (b : Body) → IsBodyReady context (Then x b) → IsStatementReady context x × IsBodyReady context b
  unfolding IsStatementReady IsBodyReady
  first_and_rest x b r = (r.0, r.1)

  first_case_and_rest : (v : SwitchValue) (f : Bool) (b : Body) (cs : Cases) → AreCasesReady context (OneCase v f b cs) → IsBodyReady context b × AreCasesReady context cs
  unfolding IsBodyReady AreCasesReady
  first_case_and_rest v f b cs r = (r.0, r.1)

  pub in_list : (xs : List Located) (i : ℕ) (x : Located) → i < length xs → x ≡ get_or xs i x → IsBodyReady context (list_of context (drop i xs)) →
      IsStatementReady context (tree_of context x) × IsBodyReady context (list_of context (drop (i + 1) xs))
  in_list xs i x lt is r =
      let same = at_drop_more (list_of context) xs i x lt ∙ ap (λ z. list_of context (z ∷ drop (i + 1) xs)) (sym is) in
      first_and_rest (tree_of context x) (list_of context (drop (i + 1) xs)) (subst (IsBodyReady context) same r)

  pub in_cases : (cs : List SwitchCase) (i : ℕ) (c : SwitchCase) → i < length cs → c ≡ get_or cs i c → AreCasesReady context (cases_of context (drop i cs)) →
      IsBodyReady context (block_of context (out-SwitchCase c).body) × AreCasesReady context (cases_of context (drop (i + 1) cs))
  in_cases cs i c lt is r =
      let same = at_drop_more (cases_of context) cs i c lt ∙ ap (λ z. cases_of context (z ∷ drop (i + 1) cs)) (sym is) in
      first_case_and_rest _ _ _ _ (subst (AreCasesReady context) same r)

-- the body of a function that fits
pub ready : (context : Context) → FitsFunction context.fun context.program (length context.earlier.functions) → IsBodyReady context (body_of context.fun)
unfolding IsBodyReady
ready context fits =
    body_fits-other context.program (length context.fun.expressions) (length context.earlier.functions) (emitted_operands context.fun) no_operands context.fun.body fits.body
