-- A block of the IR has a tree in which every leaf has the acts that are read off its statement.
use Rattle.ir_statements.specs.declared.statements.Statement.{Switch', Row_of-SwitchCase, end_of-SwitchCase, more_of-SwitchCase}
use Rattle.ir_statements.specs.declared.statements.Statement as s
use Rattle.ir_statements.specs.declared.statements.Block as b
use Rattle.ir_statements.specs.declared.statements.Block.{Block', Row_of-Located, end_of-Located, more_of-Located}
use Rattle.ir_statements.specs.declared.statements.SwitchCase.{SwitchCase, SwitchCase'}
use Rattle.ir_statements.specs.View.{tree_of, body_of, row_body, row_cases, case_with, statement_acts}
use Rattle.std.specs.List.{AllByRecursion}
use Rattle.std.specs.Prelude.{⊤, ℕ, List, Option, Some, None, ◌≡◌, ◌++◌}
use Rattle.std.proofs.Common.{refl, sym, subst}
use Rattle.ir_statements.specs.Tree.{Stmt, Body, Cases, Leaf, Block, Branch, Switch, Loop, Break, Continue, Return, Kill, Done, Then, NoCase, OneCase}
use Rattle.ir_statements.specs.declared.statements.Statement.{Statement}
use Rattle.ir_arena.specs.declared.span.Span.{Span}
use Rattle.naga_runs.specs.ByTree.{past, in_case, in_loop, in_continuing, at_break_if, break_if_visits, body_visits, part_visits, case_visits}
use Rattle.naga_runs.specs.Guards.{IsRead, BlocksAreRead}
use Rattle.naga_runs.specs.Handles.{no_handles}
use Rattle.naga_runs.specs.Positions.{StatementNode}
use Rattle.naga_runs.specs.VisitOrder.{positions}
use Rattle.naga_runs.specs.Visits.{VisitPlace, Visit, at_begin, visit_at}
use Rattle.naga_runs.proofs.EachOf.{all_append}
use Rattle.naga_runs.proofs.VisitOrders.{unmap}
use Rattle.naga_runs.proofs.VisitsByTree.{visits_are}

module _ (operands : ℕ → List ℕ) where
  -- every leaf of a tree has them
  abbrev mutual
    StmtRead : Stmt → Type 0
    StmtRead (Leaf acts x span) = acts ≡ statement_acts operands x
    StmtRead (Block b) = BodyRead b
    StmtRead (Branch h a r) = BodyRead a × BodyRead r
    StmtRead (Switch h cs) = CasesRead cs
    StmtRead (Loop b c q) = BodyRead b × BodyRead c
    StmtRead _ = ⊤

    BodyRead : Body → Type 0
    BodyRead Done = ⊤
    BodyRead (Then x b) = StmtRead x × BodyRead b

    CasesRead : Cases → Type 0
    CasesRead NoCase = ⊤
    CasesRead (OneCase v falls b cs) = BodyRead b × CasesRead cs

  mutual
    tree_read : (x : Statement) (span : Span) → StmtRead (tree_of operands x span)
    tree_read (s.Block b) span = body_read b
    tree_read (s.If c a r) span = (body_read a, body_read r)
    tree_read (Switch' h k row) span = row_cases_read row
    tree_read (s.Loop b c q) span = (body_read b, body_read c)
    tree_read s.Break span = tt
    tree_read s.Continue span = tt
    tree_read (s.Return v) span = tt
    tree_read s.Kill span = tt
    tree_read x span = refl

    body_read : (block : b.Block) → BodyRead (body_of operands block)
    body_read (Block' k row) = row_read row

    row_read : {m : _} (row : Row_of-Located m) → BodyRead (row_body operands row)
    row_read end_of-Located = tt
    row_read (more_of-Located x span rest) = (tree_read x span, row_read rest)

    row_cases_read : {m : _} (row : Row_of-SwitchCase m) → CasesRead (row_cases operands row)
    row_cases_read end_of-SwitchCase = tt
    row_cases_read (more_of-SwitchCase c rest) = case_read c (row_cases operands rest) (row_cases_read rest)

    case_read : (c : SwitchCase) (rest : Cases) → CasesRead rest → CasesRead (case_with operands c rest)
    case_read (SwitchCase' v body falls) rest r = (body_read body, r)

  abbrev NodeRead : Visit → Type 0
  NodeRead v = IsRead operands v.node

  own_read : (x : Stmt) → StmtRead x → IsRead operands (StatementNode x)
  own_read (Leaf acts x span) r = r
  own_read (Block b) r = tt
  own_read (Branch h a e) r = tt
  own_read (Switch h cs) r = tt
  own_read (Loop b c q) r = tt
  own_read Break r = tt
  own_read Continue r = tt
  own_read (Return v) r = tt
  own_read Kill r = tt

  condition_read : (c : VisitPlace) (q : Option ℕ) → AllByRecursion NodeRead (break_if_visits c q)
  condition_read c None = tt
  condition_read c (Some h) = (tt, tt)

  -- so has every visit
  mutual
    visits_read : (b : Body) (c : VisitPlace) → BodyRead b → AllByRecursion NodeRead (body_visits c b)
    visits_read Done c r = tt
    visits_read (Then x b) c r = (
      own_read x r.0,
      all_append NodeRead (part_visits c x) (body_visits (past x c) b)
          (parts_read x c r.0) (visits_read b (past x c) r.1),
    )

    parts_read : (x : Stmt) (c : VisitPlace) → StmtRead x → AllByRecursion NodeRead (part_visits c x)
    parts_read (Block b) c r = visits_read b c r
    parts_read (Branch h a e) c r =
        all_append NodeRead (body_visits c a) (body_visits c e) (visits_read a c r.0) (visits_read e c r.1)
    parts_read (Switch h cs) c r = cases_read cs (in_case c) r
    parts_read (Loop b d q) c r =
        all_append NodeRead (body_visits (in_loop c) b)
        (body_visits (in_continuing b c) d ++ break_if_visits (at_break_if b d c) q)
        (visits_read b (in_loop c) r.0)
        (all_append NodeRead (body_visits (in_continuing b c) d) (break_if_visits (at_break_if b d c) q)
        (visits_read d (in_continuing b c) r.1) (condition_read (at_break_if b d c) q))
    parts_read (Leaf acts x span) c r = tt
    parts_read Break c r = tt
    parts_read Continue c r = tt
    parts_read (Return v) c r = tt
    parts_read Kill c r = tt

    cases_read : (cs : Cases) (c : VisitPlace) → CasesRead cs → AllByRecursion NodeRead (case_visits c cs)
    cases_read NoCase c r = tt
    cases_read (OneCase v falls b cs) c r =
        all_append NodeRead (body_visits c b) (case_visits c cs) (visits_read b c r.0) (cases_read cs c r.1)

pub blocks_are_read : BlocksAreRead
blocks_are_read operands block =
    let body : Body = body_of operands block in
    unmap (λ v. IsRead operands v.node) (visit_at no_handles body) (positions body)
    (subst (λ vs. AllByRecursion (λ v. IsRead operands v.node) vs) (sym (visits_are no_handles body))
    (visits_read operands body (at_begin no_handles) (body_read operands block)))
