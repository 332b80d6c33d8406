-- Lemma-level work for proofs about code, no promise of its own: the visits and the judgement once more, along the
-- tree instead of the positions, with one equation for each form of statement. The law says that they are the same.
use Rattle.std.specs.Prelude.{ℕ, Bool, true, false, List, Option, Some, None, Result, Ok, ◌≡◌, ◌∷◌, ◌++◌, []}
use Rattle.ir_statements.specs.Tree.{Act, Stmt, Body, Cases, Leaf, Block, Branch, Switch, Loop, Break, Continue, Return, Kill, Done, Then, NoCase, OneCase}
use Rattle.ir_statements.specs.declared.statements.Statement.{Statement}
use Rattle.ir_statements.specs.declared.operations.SwitchValue.{SwitchValue}
use Rattle.ir_arena.specs.declared.span.Span.{Span}
use Rattle.naga_runs.specs.Handles.{Handles}
use Rattle.ir_arena.specs.Points.{first_fault, answer, and_then}
use Rattle.naga_runs.specs.Judgement.{Rules, judgement}
use Rattle.naga_runs.specs.Must.{with_sure}
use Rattle.naga_runs.specs.Positions.{StatementNode, BreakIfNode}
use Rattle.naga_runs.specs.PutsAndUses.{acts_of, with_acts, with_body}
use Rattle.naga_runs.specs.Visits.{VisitPlace, Visit, at_begin, visits_of}
use Rattle.naga_runs.specs.declared.Abilities.{Abilities}

-- after a statement
abbrev pub past : Stmt → VisitPlace → VisitPlace
past x c = record c { scope = with_acts c.scope (acts_of x); must = with_acts c.must (acts_of x) }

abbrev pub body_abilities : Abilities
body_abilities = record { can_return = true; can_break = false; can_continue = false }

abbrev pub case_abilities : Abilities → Abilities
case_abilities a = record { can_return = a.can_return; can_break = true; can_continue = a.can_continue }

abbrev pub loop_abilities : Abilities → Abilities
loop_abilities a = record { can_return = a.can_return; can_break = true; can_continue = true }

abbrev pub continuing_abilities : Abilities
continuing_abilities = record { can_return = false; can_break = false; can_continue = false }

-- in a case of a Switch
abbrev pub in_case : VisitPlace → VisitPlace
in_case c = record c { abilities = case_abilities c.abilities }

-- in the body list of a Loop
abbrev pub in_loop : VisitPlace → VisitPlace
in_loop c = record c { abilities = loop_abilities c.abilities }

-- in the continuing list of a Loop with the body list b
abbrev pub in_continuing : Body → VisitPlace → VisitPlace
in_continuing b c =
    record { abilities = continuing_abilities; scope = with_body c.scope b; must = with_sure c.must b }

-- at the break condition of a Loop with the body list b and the continuing list d
abbrev pub at_break_if : Body → Body → VisitPlace → VisitPlace
at_break_if b d c =
    record {
      abilities = c.abilities;
      scope = with_body (with_body c.scope b) d;
      must = with_body (with_sure c.must b) d;
    }

abbrev pub break_if_visits : VisitPlace → Option ℕ → List Visit
break_if_visits c None = []
break_if_visits c (Some h) = record { place = c; node = BreakIfNode h } ∷ []

-- the visits of a list of statements, of the parts of a statement, and of the cases of a Switch
abbrev mutual
  pub body_visits : VisitPlace → Body → List Visit
  body_visits c Done = []
  body_visits c (Then x b) =
      record { place = c; node = StatementNode x } ∷ (part_visits c x ++ body_visits (past x c) b)

  pub part_visits : VisitPlace → Stmt → List Visit
  part_visits c (Block b) = body_visits c b
  part_visits c (Branch h a r) = body_visits c a ++ body_visits c r
  part_visits c (Switch h cs) = case_visits (in_case c) cs
  part_visits c (Loop b d q) =
      body_visits (in_loop c) b ++ (body_visits (in_continuing b c) d ++ break_if_visits (at_break_if b d c) q)
  part_visits c (Leaf acts statement span) = []
  part_visits c Break = []
  part_visits c Continue = []
  part_visits c (Return v) = []
  part_visits c Kill = []

  pub case_visits : VisitPlace → Cases → List Visit
  case_visits c NoCase = []
  case_visits c (OneCase v falls b cs) = body_visits c b ++ case_visits c cs

-- The visits read off the positions are those along the tree.
abbrev pub VisitsAreByTree : Type 0
VisitsAreByTree = (pre : Handles) (b : Body) → visits_of pre b ≡ body_visits (at_begin pre) b

-- one visit
unfoldable pub judge : {State Fault : Type 0} → Rules State Fault → State → Visit → Result State Fault
judge R st v = answer (first_fault (R.points st v)) (R.advance st v)

-- visits one by one
unfoldable pub judge_visits : {State Fault : Type 0} → Rules State Fault → State → List Visit → Result State Fault
judge_visits R st [] = Ok st
judge_visits R st (v ∷ vs) = and_then (judge R st v) (λ s. judge_visits R s vs)

-- a list of statements
unfoldable pub judge_body : {State Fault : Type 0} → Rules State Fault → State → VisitPlace → Body → Result State Fault
judge_body R st c b = judge_visits R st (body_visits c b)

-- a statement with its parts
unfoldable pub judge_stmt : {State Fault : Type 0} → Rules State Fault → State → VisitPlace → Stmt → Result State Fault
judge_stmt R st c x = judge_visits R st (record { place = c; node = StatementNode x } ∷ part_visits c x)

-- the parts of a statement
unfoldable pub judge_parts : {State Fault : Type 0} → Rules State Fault → State → VisitPlace → Stmt → Result State Fault
judge_parts R st c x = judge_visits R st (part_visits c x)

-- the cases of a Switch
unfoldable pub judge_cases : {State Fault : Type 0} → Rules State Fault → State → VisitPlace → Cases → Result State Fault
judge_cases R st c cs = judge_visits R st (case_visits c cs)

-- a break condition, if there is one
unfoldable pub judge_break_if : {State Fault : Type 0} →
    Rules State Fault → State → VisitPlace → Option ℕ → Result State Fault
judge_break_if R st c q = judge_visits R st (break_if_visits c q)

-- The judgement by positions is the one along the tree.
abbrev pub JudgementIsByTree : {State Fault : Type 0} → Rules State Fault → Type 0
JudgementIsByTree {State} {Fault} R =
    (st : State) (pre : Handles) (b : Body) → judgement R st pre b ≡ judge_body R st (at_begin pre) b

-- The judgement along the tree, one equation for each form. A statement without parts is its own visit alone.
pub record Compositional {State Fault : Type 0} (R : Rules State Fault) : Type 0 where
  pub done : (st : State) (c : VisitPlace) → judge_body R st c Done ≡ Ok st
  pub more : (st : State) (c : VisitPlace) (x : Stmt) (b : Body) →
      judge_body R st c (Then x b) ≡ and_then (judge_stmt R st c x) (λ s. judge_body R s (past x c) b)
  pub stmt : (st : State) (c : VisitPlace) (x : Stmt) →
      judge_stmt R st c x
      ≡ and_then (judge R st (record { place = c; node = StatementNode x })) (λ s. judge_parts R s c x)
  pub leaf : (st : State) (c : VisitPlace) (acts : List Act) (x : Statement) (span : Span) →
      judge_parts R st c (Leaf acts x span) ≡ Ok st
  pub block : (st : State) (c : VisitPlace) (b : Body) → judge_parts R st c (Block b) ≡ judge_body R st c b
  pub branch : (st : State) (c : VisitPlace) (h : ℕ) (a r : Body) →
      judge_parts R st c (Branch h a r) ≡ and_then (judge_body R st c a) (λ s. judge_body R s c r)
  pub switch : (st : State) (c : VisitPlace) (h : ℕ) (cs : Cases) →
      judge_parts R st c (Switch h cs) ≡ judge_cases R st (in_case c) cs
  pub loop : (st : State) (c : VisitPlace) (b d : Body) (q : Option ℕ) →
      judge_parts R st c (Loop b d q)
      ≡ and_then (judge_body R st (in_loop c) b)
      (λ s. and_then (judge_body R s (in_continuing b c) d)
      (λ t. judge_break_if R t (at_break_if b d c) q))
  pub break : (st : State) (c : VisitPlace) → judge_parts R st c Break ≡ Ok st
  pub continue : (st : State) (c : VisitPlace) → judge_parts R st c Continue ≡ Ok st
  pub return : (st : State) (c : VisitPlace) (value : Option ℕ) → judge_parts R st c (Return value) ≡ Ok st
  pub kill : (st : State) (c : VisitPlace) → judge_parts R st c Kill ≡ Ok st
  pub no_case : (st : State) (c : VisitPlace) → judge_cases R st c NoCase ≡ Ok st
  pub one_case : (st : State) (c : VisitPlace) (v : SwitchValue) (falls : Bool) (b : Body) (cs : Cases) →
      judge_cases R st c (OneCase v falls b cs) ≡ and_then (judge_body R st c b) (λ s. judge_cases R s c cs)
  pub no_break_if : (st : State) (c : VisitPlace) → judge_break_if R st c None ≡ Ok st
  pub break_if : (st : State) (c : VisitPlace) (h : ℕ) →
      judge_break_if R st c (Some h) ≡ judge R st (record { place = c; node = BreakIfNode h })
