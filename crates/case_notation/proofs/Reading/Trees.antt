-- The blocks that are read and the trees that the grammar spells: each is what the other stands for.
use Rattle.std.proofs.Common.{◌≡◌, ℕ, List, refl, ap, sym, ◌∙◌, inl, inr}
use Rattle.ir_statements.proofs.Rows.{body_of-list, tree_of-switch}
use Rattle.ir_statements.specs.Tree.{Act, Stmt, Leaf, Block, Branch, Switch, Loop, Break, Continue, Return, Kill, Body, Done, Then, Cases, NoCase, OneCase}
use Rattle.ir_statements.specs.View.{tree_of, list_body, list_cases, no_operands}
use Rattle.ir_statements.specs.View as view
use Rattle.ir_statements.specs.declared.statements.Block as b
use Rattle.ir_statements.specs.declared.statements.Block.{roll-Block, out-roll-Block}
use Rattle.ir_statements.specs.declared.statements.Located.{Located}
use Rattle.ir_statements.specs.declared.statements.Statement.{Statement}
use Rattle.ir_statements.specs.declared.statements.Statement as ir
use Rattle.ir_statements.specs.declared.statements.SwitchCase as case
use Rattle.ir_statements.specs.declared.statements.SwitchCase.{SwitchCase}
use Rattle.ir_arena.specs.declared.span.Span.{Span}
use Rattle.case_notation.specs.declared.token.Token.{Token}
use Rattle.case_notation.specs.CaseBlocks.{block_from, block_of, list_of, located_of, cases_of}
use Rattle.case_notation.specs.Grammar.{Spells, SpellsStatement, SpellsCases, no_span, emitting, call_of, store_of, control_barrier}

-- the trees of a block, of statements, of one that stands in a list, and of cases
abbrev pub body_of : b.Block → Body
body_of block = view.body_of no_operands block

abbrev pub body_in : List Located → Body
body_in xs = list_body no_operands xs

abbrev pub stmt_of : Located → Stmt
stmt_of x = tree_of no_operands x.statement x.span

abbrev pub cases_in : List SwitchCase → Cases
cases_in cs = list_cases no_operands cs

-- the tree of a block of these statements
pub block_tree : (xs : List Located) → body_of (block_from xs) ≡ body_in xs
unfolding block_from
block_tree xs =
    body_of-list no_operands (roll-Block (record { list = xs }))
    ∙ ap (λ block. body_in block.list) (out-roll-Block (record { list = xs }))

-- the tree of a Switch over these cases
pub switch_tree : (h : ℕ) (cs : List SwitchCase) → tree_of no_operands (ir.Switch h cs) no_span ≡ Switch h (cases_in cs)
switch_tree h cs = tree_of-switch no_operands h cs no_span

leaf_tree : (acts : List Act) (x : Statement) (span : Span) (y : Statement) → x ≡ y → span ≡ no_span → Leaf acts x span ≡ tree_of no_operands y no_span → tree_of no_operands x span ≡ Leaf acts x span
leaf_tree acts x span y is at same = (λ i. tree_of no_operands (is i) (at i)) ∙ sym same

mutual
  unfolding Spells list_of case.out-SwitchCase denote.Hole.Carrier.out

  -- the statements of what is spelled have its tree
  list_tree : (body : Body) (ts : List Token) → Spells body ts → body_in (list_of body) ≡ body
  list_tree Done ts e = refl
  list_tree (Then x rest) ts (first, more, one, others, e) =
      λ i. Then (statement_tree x first one i) (list_tree rest more others i)

  statement_tree : (x : Stmt) (ts : List Token) → SpellsStatement x ts → stmt_of (located_of x) ≡ x
  statement_tree (Leaf acts x span) ts (inl (first, last, same, how)) =
      leaf_tree acts x span (emitting first last) (cc) (cc) same
  statement_tree (Leaf acts x span) ts (inr (inl (result, same, e))) =
      leaf_tree acts x span (call_of result) (cc) (cc) same
  statement_tree (Leaf acts x span) ts (inr (inr (inl (pointer, value, same, e)))) =
      leaf_tree acts x span (store_of pointer value) (cc) (cc) same
  statement_tree (Leaf acts x span) ts (inr (inr (inr (same, e)))) =
      leaf_tree acts x span control_barrier (cc) (cc) same
  statement_tree (Block inner) ts (within, spelled, e) = ap Block (block_tree (list_of inner) ∙ list_tree inner within spelled)
  statement_tree (Branch c accept reject) ts (taken, other, one, two, e) =
      λ i. Branch c ((block_tree (list_of accept) ∙ list_tree accept taken one) i) ((block_tree (list_of reject) ∙ list_tree reject other two) i)
  statement_tree (Switch h cases) ts (within, spelled, e) =
      switch_tree h (cases_of cases) ∙ ap (Switch h) (cases_tree cases within spelled)
  statement_tree (Loop turn continuing condition) ts (first, second, one, two, e) =
      λ i. Loop ((block_tree (list_of turn) ∙ list_tree turn first one) i) ((block_tree (list_of continuing) ∙ list_tree continuing second two) i) condition
  statement_tree Break ts e = refl
  statement_tree Continue ts e = refl
  statement_tree (Return value) ts e = refl
  statement_tree Kill ts e = refl

  cases_tree : (cs : Cases) (ts : List Token) → SpellsCases cs ts → cases_in (cases_of cs) ≡ cs
  cases_tree NoCase ts e = refl
  cases_tree (OneCase v f inner rest) ts (within, more, spelled, others, e) =
      λ i. OneCase v f ((block_tree (list_of inner) ∙ list_tree inner within spelled) i) (cases_tree rest more others i)

-- the block of what is spelled has its tree
pub same_tree : (body : Body) (ts : List Token) → Spells body ts → body_of (block_of body) ≡ body
same_tree body ts spelled = block_tree (list_of body) ∙ list_tree body ts spelled
