-- The trees of the IR's recursive lists, as their generated rows and as lists of items.
use Rattle.std.proofs.Common.{rules, ◌≡◌, ℕ, List, refl, ap}
use Rattle.ir_statements.specs.declared.statements.Block.{Block, Block', out-Block, the_lemmas, Row_of-Located, end_of-Located, more_of-Located, items-the_row-Located}
use Rattle.ir_statements.specs.declared.statements.Statement.{Switch, Row_of-SwitchCase, end_of-SwitchCase, more_of-SwitchCase, items-the_row-SwitchCase}
use Rattle.ir_statements.specs.declared.statements.SwitchCase as case
use Rattle.ir_statements.specs.declared.statements.SwitchCase.{SwitchCase, SwitchCase'}
use Rattle.ir_arena.specs.declared.span.Span.{Span}
use Rattle.ir_statements.specs.View.{tree_of, body_of, row_body, row_cases, list_body, list_cases}
use Rattle.ir_statements.specs.Tree as tree
use Rattle.ir_statements.specs.Tree.{Then, OneCase}

module _ (operands : ℕ → List ℕ) where
  pub row_body-items : {m : _} (row : Row_of-Located m) → row_body operands row ≡ list_body operands (items-the_row-Located m row)
  row_body-items end_of-Located = refl
  row_body-items (more_of-Located x span rest) = ap (Then (tree_of operands x span)) (row_body-items rest)

  -- the tree of a block is that of its list
  pub body_of-list : (b : Block) → body_of operands b ≡ list_body operands (out-Block b).list
  body_of-list (Block' k row) = search (rules, the_lemmas, row_body-items)

  pub row_cases-items : {m : _} (row : Row_of-SwitchCase m) → row_cases operands row ≡ list_cases operands (items-the_row-SwitchCase m row)
  unfolding case.out-SwitchCase denote.Hole.Carrier.out
  row_cases-items end_of-SwitchCase = refl
  row_cases-items (more_of-SwitchCase (SwitchCase' v b f) rest) = ap (OneCase v f (body_of operands b)) (row_cases-items rest)

  -- the tree of a switch is that of its list of cases
  pub tree_of-switch : (h : ℕ) (v : List SwitchCase) (span : Span) → tree_of operands (Switch h v) span ≡ tree.Switch h (list_cases operands v)
  tree_of-switch h v span = search (rules, the_lemmas, row_cases-items)
