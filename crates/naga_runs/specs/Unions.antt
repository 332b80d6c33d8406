-- Scope and must once more, word by word: as unions over ancestors and siblings, where the definitions go along the
-- path.
use Rattle.std.specs.Prelude.{ℕ, true, List, Option, Contains, ◌≡◌, ◌↔◌, ◌∷◌, ◌++◌, if◌then◌else◌, [], ◌<◌}
use Rattle.ir_statements.specs.Tree.{Body, Loop, Done, Then}
use Rattle.naga_runs.specs.Handles.{Handles}
use Rattle.naga_runs.specs.Must.{holds_continue, must_at}
use Rattle.naga_runs.specs.Positions.{Part, Position, node_at, Continuing, Condition, In, StatementNode}
use Rattle.naga_runs.specs.PutsAndUses.{acts_of, node_acts, puts_of, body_puts}
use Rattle.naga_runs.specs.Scope.{scope_at}

-- what stands at a position puts a handle
abbrev pub PutAt : Body → Position → ℕ → Type 0
PutAt b p h = Contains (puts_of (node_acts (node_at b p))) h

-- the puts of the statements of a Loop's body list before the first that holds a Continue
abbrev pub sure_puts : Body → List ℕ
sure_puts Done = []
sure_puts (Then x b) = if holds_continue x then [] else puts_of (acts_of x) ++ sure_puts b

-- A handle is in the union at a position p: it needs no emission; an earlier sibling of p or of an ancestor of p puts
-- it; it counts of the body list of a Loop whose continuing part holds p; p is a break condition, and it counts of its
-- Loop's body list or is put in its continuing list. `counted` says what counts of a body list.
pub data InUnion (counted : Body → List ℕ) (pre : Handles) (b : Body) (p : Position) (h : ℕ) : Type 0 where
  NeedsNoEmission : pre h ≡ true → InUnion counted pre b p h
  EarlierSibling : (a : Position) (part : Part) (i j : ℕ) (r : Position) →
      p ≡ a ++ In part i ∷ r → j < i → PutAt b (a ++ In part j ∷ []) h → InUnion counted pre b p h
  OfBodyList : (a : Position) (i : ℕ) (r : Position) (body continuing : Body) (q : Option ℕ) →
      p ≡ a ++ In Continuing i ∷ r → node_at b a ≡ StatementNode (Loop body continuing q) →
      Contains (counted body) h → InUnion counted pre b p h
  OfBothLists : (a : Position) (i : ℕ) (r : Position) (body continuing : Body) (q : Option ℕ) →
      p ≡ a ++ In Condition i ∷ r → node_at b a ≡ StatementNode (Loop body continuing q) →
      Contains (counted body ++ body_puts continuing) h → InUnion counted pre b p h

-- Of the body list, all puts count for the scope; for must, those before the first statement that holds a Continue.
abbrev pub ScopeIsUnion : Type 0
ScopeIsUnion =
    (pre : Handles) (b : Body) (p : Position) (h : ℕ) → (scope_at pre b p h ≡ true) ↔ InUnion body_puts pre b p h

abbrev pub MustIsUnion : Type 0
MustIsUnion =
    (pre : Handles) (b : Body) (p : Position) (h : ℕ) → (must_at pre b p h ≡ true) ↔ InUnion sure_puts pre b p h
