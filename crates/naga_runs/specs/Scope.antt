-- Scope: the handles that may not be put again at a position. Those of it that may be used there are in `Must`.
use Rattle.std.specs.Prelude.{ℕ, zero, suc, Option, Some, ◌∷◌, []}
use Rattle.ir_statements.specs.Tree.{Stmt, Body, Loop, Done, Then}
use Rattle.naga_runs.specs.Handles.{Handles}
use Rattle.naga_runs.specs.Positions.{Position, statement_at, list_below, Continuing, Condition, In}
use Rattle.naga_runs.specs.PutsAndUses.{acts_of, with_acts, with_body}

-- a set, and the puts of the statements of a list that stand before an index
abbrev pub with_earlier : Handles → Body → ℕ → Handles
with_earlier s Done i = s
with_earlier s (Then x b) zero = s
with_earlier s (Then x b) (suc i) = with_earlier (with_acts s (acts_of x)) b i

-- a set, and what the rest of a position sees of the Loop that it lies below: in the continuing part the Loop's body
-- list, at the break condition the body list and the continuing list. `with_list` adds what counts of the body list
abbrev pub with_lists : (Handles → Body → Handles) → Handles → Option Stmt → Position → Handles
with_lists with_list s (Some (Loop b c q)) (In Continuing i ∷ p) = with_list s b
with_lists with_list s (Some (Loop b c q)) (In Condition i ∷ p) = with_body (with_list s b) c
with_lists _ s _ _ = s

-- a set, and what is known beside it at a position of a list: the puts of the earlier siblings of the position and of
-- each of its ancestors, and what it sees of each Loop that it lies below
abbrev pub known_at : (Handles → Body → Handles) → Handles → Body → Position → Handles
known_at with_list s b [] = s
known_at with_list s b (In part i ∷ p) =
    known_at with_list
    (with_lists with_list (with_earlier s b i) (statement_at b i) p) (list_below (statement_at b i) p) p

-- The scope at a position, where `pre` are the handles that need no emission: the union of `pre`; of the puts of the
-- earlier siblings of the position and of each of its ancestors; for each Loop whose continuing part holds the
-- position, of the puts of all statements of that Loop's body list; and at a break condition, of the puts of all
-- statements of its Loop's body list and continuing list. That it is this union is a law: `runs_law`, clause `scope`
-- (`ScopeIsUnion`).
abbrev pub scope_at : Handles → Body → Position → Handles
scope_at pre b p = known_at with_body pre b p
