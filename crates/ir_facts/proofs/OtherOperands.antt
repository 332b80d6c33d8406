-- A body's tree with the operands of other expressions: only the acts of an Emit differ.
use Rattle.std.proofs.Common.{◌≡◌, ℕ, List, refl, ap, sym, ◌∙◌, subst}
use Rattle.ir_statements.specs.declared.statements.Statement.{Statement, Switch', Row_of-SwitchCase, end_of-SwitchCase, more_of-SwitchCase}
use Rattle.ir_statements.specs.declared.statements.Statement as s
use Rattle.ir_statements.specs.declared.statements.Block as b
use Rattle.ir_statements.specs.declared.statements.Block.{Block', Row_of-Located, end_of-Located, more_of-Located}
use Rattle.ir_statements.specs.declared.statements.SwitchCase.{SwitchCase'}
use Rattle.ir_module.specs.declared.module.Module.{Module}
use Rattle.ir_arena.specs.declared.span.Span.{Span}
use Rattle.ir_statements.specs.View.{statement_acts, tree_of, body_of, row_body, row_cases}
use Rattle.ir_facts.specs.FitsBody.{StatementFits, BodyFits, CasesFit}
use Rattle.ir_statements.specs.Tree.{Stmt, Leaf, Block, Branch, Switch, Loop, Break, Continue, Return, Kill, Body, Done, Then, Cases, NoCase, OneCase}

-- the same tree with the acts that these operands give
abbrev mutual
  pub statement_with : (ℕ → List ℕ) → Stmt → Stmt
  statement_with f (Leaf acts x span) = Leaf (statement_acts f x) x span
  statement_with f (Block b) = Block (body_with f b)
  statement_with f (Branch c a r) = Branch c (body_with f a) (body_with f r)
  statement_with f (Switch h cs) = Switch h (cases_with f cs)
  statement_with f (Loop b c q) = Loop (body_with f b) (body_with f c) q
  statement_with f Break = Break
  statement_with f Continue = Continue
  statement_with f (Return v) = Return v
  statement_with f Kill = Kill

  pub body_with : (ℕ → List ℕ) → Body → Body
  body_with f Done = Done
  body_with f (Then x rest) = Then (statement_with f x) (body_with f rest)

  pub cases_with : (ℕ → List ℕ) → Cases → Cases
  cases_with f NoCase = NoCase
  cases_with f (OneCase v falls b rest) = OneCase v falls (body_with f b) (cases_with f rest)

module _ (f g : ℕ → List ℕ) where
  mutual
    pub tree_of-with : (x : Statement) (span : Span) → statement_with f (tree_of g x span) ≡ tree_of f x span
    tree_of-with (s.Block b) span = ap Block (body_of-with b)
    tree_of-with (s.If c a r) span = λ i. Branch c (body_of-with a i) (body_of-with r i)
    tree_of-with (Switch' h k row) span = ap (Switch h) (row_cases-with row)
    tree_of-with (s.Loop b c q) span = λ i. Loop (body_of-with b i) (body_of-with c i) q
    tree_of-with s.Break span = refl
    tree_of-with s.Continue span = refl
    tree_of-with (s.Return v) span = refl
    tree_of-with s.Kill span = refl
    tree_of-with (s.Emit r) span = refl
    tree_of-with (s.ControlBarrier x) span = refl
    tree_of-with (s.MemoryBarrier x) span = refl
    tree_of-with (s.Store p v) span = refl
    tree_of-with (s.ImageStore i c a v) span = refl
    tree_of-with (s.Atomic p x v r) span = refl
    tree_of-with (s.ImageAtomic i c a x v) span = refl
    tree_of-with (s.WorkGroupUniformLoad p r) span = refl
    tree_of-with (s.Call x xs r) span = refl
    tree_of-with (s.RayQuery q x) span = refl
    tree_of-with (s.SubgroupBallot r p) span = refl
    tree_of-with (s.SubgroupCollectiveOperation o c a r) span = refl
    tree_of-with (s.SubgroupGather m a r) span = refl
    tree_of-with (s.CooperativeStore t d) span = refl
    tree_of-with (s.RayPipelineFunction x) span = refl

    pub body_of-with : (x : b.Block) → body_with f (body_of g x) ≡ body_of f x
    body_of-with (Block' k row) = row_body-with row

    row_body-with : {m : _} (row : Row_of-Located m) → body_with f (row_body g row) ≡ row_body f row
    row_body-with end_of-Located = refl
    row_body-with (more_of-Located x span rest) = λ i. Then (tree_of-with x span i) (row_body-with rest i)

    row_cases-with : {m : _} (row : Row_of-SwitchCase m) → cases_with f (row_cases g row) ≡ row_cases f row
    row_cases-with end_of-SwitchCase = refl
    row_cases-with (more_of-SwitchCase (SwitchCase' v x falls) rest) = λ i. OneCase v falls (body_of-with x i) (row_cases-with rest i)

-- two blocks of the same tree have the same tree with any operands
pub same_with : (f g : ℕ → List ℕ) (x y : b.Block) → body_of g x ≡ body_of g y → body_of f x ≡ body_of f y
same_with f g x y e = sym (body_of-with f g x) ∙ ap (body_with f) e ∙ body_of-with f g y

module _ (m : Module) (n earlier : ℕ) (f : ℕ → List ℕ) where
  mutual
    statement_fits-with : (x : Stmt) → StatementFits m n earlier x → StatementFits m n earlier (statement_with f x)
    statement_fits-with (Leaf acts x span) h = h
    statement_fits-with (Block b) h = body_fits-with b h
    statement_fits-with (Branch c a r) h = (h.0, body_fits-with a h.1, body_fits-with r h.2)
    statement_fits-with (Switch k cs) h = (h.0, cases_fit-with cs h.1)
    statement_fits-with (Loop b c q) h = (body_fits-with b h.0, body_fits-with c h.1, h.2)
    statement_fits-with Break h = tt
    statement_fits-with Continue h = tt
    statement_fits-with (Return v) h = h
    statement_fits-with Kill h = tt

    pub body_fits-with : (x : Body) → BodyFits m n earlier x → BodyFits m n earlier (body_with f x)
    body_fits-with Done h = tt
    body_fits-with (Then x rest) h = (statement_fits-with x h.0, body_fits-with rest h.1)

    cases_fit-with : (x : Cases) → CasesFit m n earlier x → CasesFit m n earlier (cases_with f x)
    cases_fit-with NoCase h = tt
    cases_fit-with (OneCase v falls b rest) h = (body_fits-with b h.0, cases_fit-with rest h.1)

-- what a block names is there whatever its expressions' operands are
pub body_fits-other : (m : Module) (n earlier : ℕ) (f g : ℕ → List ℕ) (x : b.Block) → BodyFits m n earlier (body_of g x) → BodyFits m n earlier (body_of f x)
body_fits-other m n earlier f g x h =
    let P : Body → Type 0 = λ y. BodyFits m n earlier y in
    subst P (body_of-with f g x) (body_fits-with m n earlier f (body_of g x) h)
