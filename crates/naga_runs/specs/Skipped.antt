-- Skipped: what a run leaves out by a Continue although it is in scope where the run goes on.
use Rattle.std.specs.Prelude.{ℕ, zero, suc, Bool, true, false, List, Option, Some, None, Contains, ◌≡◌, ◌↔◌, ◌∷◌, ◌++◌, if◌then◌else◌, []}
use Rattle.ir_statements.specs.Tree.{Stmt, Body, Loop, Done, Then}
use Rattle.naga_runs.specs.Handles.{Handles, no_handles}
use Rattle.naga_runs.specs.Positions.{Part, Position, statement_at, list_below, node_at, Root, Continuing, Condition, In, StatementNode}
use Rattle.naga_runs.specs.PutsAndUses.{body_puts, with_body}

-- a set, and the puts of the statements of a list that stand after an index
abbrev pub with_rest : Handles → Body → ℕ → Handles
with_rest s Done k = s
with_rest s (Then x b) zero = with_body s b
with_rest s (Then x b) (suc k) = with_rest s b k

-- a set, and what a turn left out that cut its Loop's body list there, if it did
abbrev pub with_skipped : Handles → Body → Option ℕ → Handles
with_skipped s b None = s
with_skipped s b (Some k) = with_rest s b k

-- a set, and what the present turn left out of the Loop that the rest of a position lies below; `cuts` begins with that
-- Loop's if the rest lies in its continuing part or at its break condition
abbrev pub with_cut : Handles → Option Stmt → Position → List (Option ℕ) → Handles
with_cut s (Some (Loop b c q)) (In Continuing i ∷ p) (cut ∷ cuts) = with_skipped s b cut
with_cut s (Some (Loop b c q)) (In Condition i ∷ p) (cut ∷ cuts) = with_skipped s b cut
with_cut s _ _ _ = s

abbrev pub cuts_below : Position → List (Option ℕ) → List (Option ℕ)
cuts_below (In Continuing i ∷ p) (cut ∷ cuts) = cuts
cuts_below (In Condition i ∷ p) (cut ∷ cuts) = cuts
cuts_below _ cuts = cuts

-- a set, and what turns left out at a position of a list
abbrev pub skipped_from : Handles → Body → Position → List (Option ℕ) → Handles
skipped_from s b [] cuts = s
skipped_from s b (In part i ∷ p) cuts =
    skipped_from (with_cut s (statement_at b i) p cuts) (list_below (statement_at b i) p) p (cuts_below p cuts)

-- Skipped at a position, for the cuts of an event: the union, over each Loop whose continuing part or break condition
-- holds the position and whose present turn left its body by "continue" from the statement with index k of the body's
-- own list, of the puts of the statements after k in that list.
abbrev pub skipped_at : Body → Position → List (Option ℕ) → Handles
skipped_at b p cuts = skipped_from no_handles b p cuts

-- a part after the body list of a Loop
abbrev pub is_behind_body : Part → Bool
is_behind_body Continuing = true
is_behind_body Condition = true
is_behind_body _ = false

-- how many steps of a position lead past a body list
abbrev pub count_behind : Position → ℕ
count_behind [] = 0
count_behind (In part i ∷ p) = if is_behind_body part then suc (count_behind p) else count_behind p

-- the cut of the Loop past whose body list the n-th such step leads
abbrev pub nth_cut : List (Option ℕ) → ℕ → Option ℕ
nth_cut [] n = None
nth_cut (cut ∷ cuts) zero = cut
nth_cut (cut ∷ cuts) (suc n) = nth_cut cuts n

-- the puts of the statements of a list after an index
abbrev pub puts_after : Body → ℕ → List ℕ
puts_after Done k = []
puts_after (Then x b) zero = body_puts b
puts_after (Then x b) (suc k) = puts_after b k

-- Skipped word by word.
pub record IsSkipped (b : Body) (p : Position) (cuts : List (Option ℕ)) (h : ℕ) : Type 0 where
  -- a Loop at an ancestor of p, of which p lies in the continuing part or is the break condition
  pub ancestor : Position
  pub part : Part
  pub index : ℕ
  pub rest : Position
  pub inside : p ≡ ancestor ++ In part index ∷ rest
  pub behind : is_behind_body part ≡ true
  pub body : Body
  pub continuing : Body
  pub break_if : Option ℕ
  pub stands : node_at b ancestor ≡ StatementNode (Loop body continuing break_if)
  -- which left its body list from index k by "continue"
  pub k : ℕ
  pub cut : nth_cut cuts (count_behind ancestor) ≡ Some k
  -- and a put of a statement after k in that list
  pub puts : Contains (puts_after body k) h

abbrev pub SkippedIsUnion : Type 0
SkippedIsUnion =
    (b : Body) (i : ℕ) (p : Position) (cuts : List (Option ℕ)) (h : ℕ) →
    (skipped_at b (In Root i ∷ p) cuts h ≡ true) ↔ IsSkipped b (In Root i ∷ p) cuts h
