-- A body as a tree: its statements, what they contain, and what each does with handles, in order.
use Rattle.std.specs.Prelude.{ℕ, Bool, List, Option}
use Rattle.ir_statements.specs.declared.statements.Statement.{Statement}
use Rattle.ir_statements.specs.declared.operations.SwitchValue.{SwitchValue}
use Rattle.ir_arena.specs.declared.span.Span.{Span}

-- what a statement does with an expression: it reads its value, or puts it in scope
pub data Act : Type 0 where
  Use : (handle : ℕ) → Act
  Put : (handle : ℕ) → Act

mutual
  -- a statement; one that is neither a jump nor holds others is a leaf, with its acts in order, itself and its span
  pub data Stmt : Type 0 where
    Leaf : (acts : List Act) (statement : Statement) (span : Span) → Stmt
    Block : (inner : Body) → Stmt
    Branch : (condition : ℕ) (accept reject : Body) → Stmt
    Switch : (selector : ℕ) (cases : Cases) → Stmt
    Loop : (body continuing : Body) (break_if : Option ℕ) → Stmt
    Break : Stmt
    Continue : Stmt
    Return : (value : Option ℕ) → Stmt
    Kill : Stmt

  -- a list of statements
  pub data Body : Type 0 where
    Done : Body
    Then : (first : Stmt) (rest : Body) → Body

  -- the cases of a switch, in order
  pub data Cases : Type 0 where
    NoCase : Cases
    OneCase : (value : SwitchValue) (falls_through : Bool) (inner : Body) (rest : Cases) → Cases
