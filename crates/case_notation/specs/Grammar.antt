-- Which tokens spell which statements.
use Rattle.std.specs.Prelude.{◌≡◌, ◌≤◌, ◌+◌, ◌⊎◌, ℕ, suc, Bool, true, false, List, [], ◌∷◌, ◌++◌, Option, Some, None, max}
use Rattle.ir_arena.specs.declared.span.Span.{Span}
use Rattle.ir_statements.specs.declared.statements.Statement.{Statement}
use Rattle.ir_statements.specs.declared.statements.Statement as statement
use Rattle.ir_statements.specs.Tree.{Stmt, Leaf, Block, Branch, Switch, Loop, Break, Continue, Return, Kill, Body, Done, Then, Cases, NoCase, OneCase}
use Rattle.ir_statements.specs.View.{tree_of, no_operands}
use Rattle.ir_flags.specs.Bits.{NO_MEMORY}
use Rattle.case_notation.specs.declared.token.Token.{Token}
use Rattle.case_notation.specs.declared.token.Token.TheVariants as token

-- the span of every statement that is read
abbrev pub no_span : Span
no_span = record { start = 0; end = 0 }

-- the tree of a statement that is read
abbrev pub tree_at : Statement → Stmt
tree_at x = tree_of no_operands x no_span

-- the Emit of the expressions from `first` to `last`, both included
abbrev pub emitting : ℕ → ℕ → Statement
emitting first last = statement.Emit (record { start = first; end = last + 1 })

-- its tree
abbrev pub emission : ℕ → ℕ → Stmt
emission first last = tree_at (emitting first last)

-- one expression, or a range of them
abbrev pub SpellsEmit : ℕ → ℕ → List Token → Type 0
SpellsEmit first last ts =
    ((first ≡ last) × (ts ≡ token.Emit ∷ token.Name first ∷ []))
    ⊎ ((first ≤ last) × (ts ≡ token.Emit ∷ token.Name first ∷ token.To ∷ token.Name last ∷ []))

-- the call of `f`, the first function of the module, without arguments
abbrev pub call_of : Option ℕ → Statement
call_of result = statement.Call 0 [] result

-- its tree
abbrev pub calling : Option ℕ → Stmt
calling result = tree_at (call_of result)

-- the store of a value where a pointer points
abbrev pub store_of : ℕ → ℕ → Statement
store_of pointer value = statement.Store pointer value

-- its tree
abbrev pub storing : ℕ → ℕ → Stmt
storing pointer value = tree_at (store_of pointer value)

-- the control barrier that names no memory
abbrev pub control_barrier : Statement
control_barrier = statement.ControlBarrier NO_MEMORY

-- its tree
abbrev pub waiting : Stmt
waiting = tree_at control_barrier

abbrev pub arrow_if_any : Option ℕ → List Token
arrow_if_any None = []
arrow_if_any (Some h) = token.Arrow ∷ token.Name h ∷ []

-- a list in braces
abbrev pub in_braces : List Token → List Token
in_braces ts = token.Open ∷ (ts ++ token.Close ∷ [])

abbrev pub name_if_any : Option ℕ → List Token
name_if_any None = []
name_if_any (Some h) = token.Name h ∷ []

abbrev pub break_if_any : Option ℕ → List Token
break_if_any None = []
break_if_any (Some h) = token.BreakIf ∷ token.Name h ∷ []

abbrev pub fall_if : Bool → List Token
fall_if true = token.Fall ∷ []
fall_if false = []

unfoldable mutual
  -- the tokens spell a list of statements
  pub Spells : Body → List Token → Type 0
  Spells Done ts = ts ≡ []
  Spells (Then x rest) ts =
      (first : List Token) × (more : List Token) × SpellsStatement x first × Spells rest more × (ts ≡ first ++ more)

  -- the tokens spell a statement
  pub SpellsStatement : Stmt → List Token → Type 0
  SpellsStatement (Leaf acts x span) ts =
      ((first : ℕ) × (last : ℕ) × (Leaf acts x span ≡ emission first last) × SpellsEmit first last ts)
      ⊎ (((result : Option ℕ) × (Leaf acts x span ≡ calling result) × (ts ≡ token.Call ∷ token.Callee ∷ arrow_if_any result))
      ⊎ (((pointer : ℕ) × (value : ℕ) × (Leaf acts x span ≡ storing pointer value)
      × (ts ≡ token.Store ∷ token.Name pointer ∷ token.Name value ∷ []))
      ⊎ ((Leaf acts x span ≡ waiting) × (ts ≡ token.Barrier ∷ []))))
  SpellsStatement (Block body) ts = (inner : List Token) × Spells body inner × (ts ≡ token.Block ∷ in_braces inner)
  SpellsStatement (Branch condition accept reject) ts =
      (taken : List Token) × (other : List Token) × Spells accept taken × Spells reject other
      × (ts ≡ token.If ∷ token.Name condition ∷ (in_braces taken ++ in_braces other))
  SpellsStatement (Switch selector cases) ts =
      (inner : List Token) × SpellsCases cases inner × (ts ≡ token.Switch ∷ token.Name selector ∷ in_braces inner)
  SpellsStatement (Loop body continuing condition) ts =
      (turn : List Token) × (after : List Token) × Spells body turn × Spells continuing after
      × (ts ≡ token.Loop ∷ (in_braces turn ++ (in_braces after ++ break_if_any condition)))
  SpellsStatement Break ts = ts ≡ token.Break ∷ []
  SpellsStatement Continue ts = ts ≡ token.Continue ∷ []
  SpellsStatement (Return value) ts = ts ≡ token.Return ∷ name_if_any value
  SpellsStatement Kill ts = ts ≡ token.Kill ∷ []

  -- the tokens spell the cases of a Switch
  pub SpellsCases : Cases → List Token → Type 0
  SpellsCases NoCase ts = ts ≡ []
  SpellsCases (OneCase value falls body rest) ts =
      (inner : List Token) × (more : List Token) × Spells body inner × SpellsCases rest more
      × (ts ≡ token.Value value ∷ (fall_if falls ++ (in_braces inner ++ more)))

unfoldable mutual
  -- how many braces are open at once, at most, in a list of statements
  pub depth : Body → ℕ
  depth Done = 0
  depth (Then x rest) = max (statement_depth x) (depth rest)

  pub statement_depth : Stmt → ℕ
  statement_depth (Block body) = suc (depth body)
  statement_depth (Branch condition accept reject) = suc (max (depth accept) (depth reject))
  statement_depth (Switch selector cases) = suc (cases_depth cases)
  statement_depth (Loop body continuing condition) = suc (max (depth body) (depth continuing))
  statement_depth (Leaf acts statement span) = 0
  statement_depth Break = 0
  statement_depth Continue = 0
  statement_depth (Return value) = 0
  statement_depth Kill = 0

  pub cases_depth : Cases → ℕ
  cases_depth NoCase = 0
  cases_depth (OneCase value falls body rest) = max (suc (depth body)) (cases_depth rest)
