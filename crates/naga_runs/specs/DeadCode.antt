-- Dead code over the tree: whether each position of a body may be come to, computed without a run.
use Rattle.std.specs.List.{list_any}
use Rattle.std.specs.Prelude.{ℕ, zero, suc, Bool, true, false, not, Option, Some, is_some, ◌∷◌, ◌||◌, ◌&&◌, []}
use Rattle.ir_statements.specs.Tree.{Stmt, Body, Cases, Leaf, Block, Branch, Switch, Loop, Break, Continue, Kill, Done, Then, NoCase, OneCase, Return}
use Rattle.naga_runs.specs.Positions.{Position, statement_at, list_below, Continuing, Condition, In}
use Rattle.naga_runs.specs.VisitOrder.{positions}

abbrev pub has_no_case : Cases → Bool
has_no_case NoCase = true
has_no_case (OneCase v falls b cs) = false

-- Whether a statement, a list or a Switch with these cases may go on, may end by a Break that leaves it, may end by a
-- Continue that leaves it. A Loop goes on by a Break in its body list, or by its break condition.
abbrev mutual
  pub goes_on : Stmt → Bool
  goes_on (Leaf acts x span) = true
  goes_on (Block b) = list_goes_on b
  goes_on (Branch h a r) = list_goes_on a || list_goes_on r
  goes_on (Switch h cs) = cases_go_on cs
  goes_on (Loop b c q) =
      list_breaks b || ((list_goes_on b || list_continues b) && (list_goes_on c && is_some q))
  goes_on Kill = true
  goes_on Break = false
  goes_on Continue = false
  goes_on (Return v) = false

  pub breaks : Stmt → Bool
  breaks (Block b) = list_breaks b
  breaks (Branch h a r) = list_breaks a || list_breaks r
  breaks Break = true
  breaks (Leaf acts statement span) = false
  breaks (Switch h cases) = false
  breaks (Loop b c q) = false
  breaks Continue = false
  breaks (Return v) = false
  breaks Kill = false

  pub continues : Stmt → Bool
  continues (Block b) = list_continues b
  continues (Branch h a r) = list_continues a || list_continues r
  continues (Switch h cs) = cases_continue cs
  continues Continue = true
  continues (Leaf acts statement span) = false
  continues (Loop b c q) = false
  continues Break = false
  continues (Return v) = false
  continues Kill = false

  pub list_goes_on : Body → Bool
  list_goes_on Done = true
  list_goes_on (Then x b) = goes_on x && list_goes_on b

  pub list_breaks : Body → Bool
  list_breaks Done = false
  list_breaks (Then x b) = breaks x || (goes_on x && list_breaks b)

  pub list_continues : Body → Bool
  list_continues Done = false
  list_continues (Then x b) = continues x || (goes_on x && list_continues b)

  pub cases_go_on : Cases → Bool
  cases_go_on NoCase = false
  cases_go_on (OneCase v falls b cs) =
      list_breaks b || ((list_goes_on b && (not falls || has_no_case cs)) || cases_go_on cs)

  pub cases_continue : Cases → Bool
  cases_continue NoCase = false
  cases_continue (OneCase v falls b cs) = list_continues b || cases_continue cs

-- whether a body list may let its continuing list begin
abbrev pub turn_goes_on : Body → Bool
turn_goes_on b = list_goes_on b || list_continues b

-- whether each statement of a list before an index may go on
abbrev pub earlier_go_on : Body → ℕ → Bool
earlier_go_on Done i = true
earlier_go_on (Then x b) zero = true
earlier_go_on (Then x b) (suc i) = goes_on x && earlier_go_on b i

-- whether the Loop that the rest of a position lies below may let it begin
abbrev pub lists_go_on : Option Stmt → Position → Bool
lists_go_on (Some (Loop b c q)) (In Continuing i ∷ p) = turn_goes_on b
lists_go_on (Some (Loop b c q)) (In Condition i ∷ p) = turn_goes_on b && list_goes_on c
lists_go_on _ _ = true

-- Whether a position of a list may be come to.
abbrev pub may_come : Body → Position → Bool
may_come b [] = true
may_come b (In part i ∷ p) =
    earlier_go_on b i && (lists_go_on (statement_at b i) p && may_come (list_below (statement_at b i) p) p)

-- Whether a body has a position that no run comes to.
abbrev pub dead_code : Body → Bool
dead_code b = list_any (λ p. not (may_come b p)) (positions b)
