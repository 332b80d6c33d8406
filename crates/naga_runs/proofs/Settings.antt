-- What a place has from further out, and how a statement, a list and the cases of a Switch end there: as the tree
-- says, with what Must has live.
use Rattle.std.specs.Prelude.{Bool, true, false, Some, ◌≡◌, ◌||◌, ◌&&◌}
use Rattle.std.proofs.Common.{refl}
use Rattle.ir_statements.specs.Tree.{Stmt, Body, Cases, Block, Branch, Switch, Continue, Done, Then, NoCase, OneCase}
use Rattle.naga_runs.specs.Handles.{Handles}
use Rattle.naga_runs.specs.Abilities.{may_return_from, may_break_from, may_continue_from, node_jump}
use Rattle.naga_runs.specs.DeadCode.{has_no_case, goes_on, breaks, continues, list_goes_on, list_breaks, list_continues, cases_go_on, cases_continue, lists_go_on, may_come}
use Rattle.naga_runs.specs.Machine.{Outcome, Next, Broken, Continued, Returned, Stuck}
use Rattle.naga_runs.specs.Must.{holds_continue, body_holds_continue, cases_hold_continue, with_sure}
use Rattle.naga_runs.specs.Positions.{Position, BodyNode, list_below}
use Rattle.naga_runs.specs.PutsAndUses.{acts_of, with_acts, with_body}
use Rattle.naga_runs.specs.Scope.{with_lists, known_at}
use Rattle.naga_runs.specs.Soundness.{Allowed}
use Rattle.naga_runs.proofs.Bools.{not_true, and_second, or_map}
use Rattle.naga_runs.proofs.Tallies.{Within}

-- the same below a statement
abbrev pub must_in : Stmt → Handles → Position → Handles
must_in x s p = known_at with_sure (with_lists with_sure s (Some x) p) (list_below (Some x) p) p

abbrev pub may_come_in : Stmt → Position → Bool
may_come_in x p = lists_go_on (Some x) p && may_come (list_below (Some x) p) p

-- what a place has from further out
pub record Setting : Type 0 where
  pub must : Handles
  pub ret : Bool
  pub brk : Bool
  pub cont : Bool

abbrev pub past : Stmt → Setting → Setting
past x S = record S { must = with_acts S.must (acts_of x) }

abbrev pub in_case : Setting → Setting
in_case S = record S { brk = true }

abbrev pub in_body : Setting → Setting
in_body S = record S { brk = true; cont = true }

abbrev pub in_continuing : Body → Setting → Setting
in_continuing b S = record { must = with_sure S.must b; ret = false; brk = false; cont = false }

abbrev pub AbleAt : BodyNode → Setting → Position → Type 0
AbleAt node S p = Allowed (node_jump node) (may_return_from S.ret p) (may_break_from S.brk p)
    (may_continue_from S.cont p)

-- whether the jump that gives this outcome has its ability
abbrev pub able_of : Setting → Outcome → Bool
able_of S Broken = S.brk
able_of S Continued = S.cont
able_of S Returned = S.ret
able_of S Stuck = false
able_of S _ = true

-- how a statement, a list, the cases of a Switch end
abbrev pub StmtEnds : Stmt → Setting → Outcome → Handles → Type 0
StmtEnds x S Next live = (goes_on x ≡ true) × Within (with_acts S.must (acts_of x)) live
StmtEnds x S Broken live = breaks x ≡ true
StmtEnds x S Continued live = (continues x ≡ true) × Within S.must live
StmtEnds x S _ live = Unit {0}

abbrev pub ListEnds : Body → Setting → Outcome → Handles → Type 0
ListEnds b S Next live = (list_goes_on b ≡ true) × Within (with_body S.must b) live
ListEnds b S Broken live = list_breaks b ≡ true
ListEnds b S Continued live = (list_continues b ≡ true) × Within (with_sure S.must b) live
ListEnds b S _ live = Unit {0}

abbrev pub CasesEnd : Cases → Setting → Outcome → Handles → Type 0
CasesEnd cs S Next live = ((has_no_case cs || cases_go_on cs) ≡ true) × Within S.must live
CasesEnd cs S Broken live = ⊥
CasesEnd cs S Continued live = (cases_continue cs ≡ true) × Within S.must live
CasesEnd cs S _ live = Unit {0}

-- what gives "continue" holds a Continue
mutual
  pub holds : (x : Stmt) → continues x ≡ true → holds_continue x ≡ true
  holds (Block b) e = list_holds b e
  holds (Branch h a r) e = or_map _ _ _ _ (list_holds a) (list_holds r) e
  holds (Switch h cs) e = cases_hold cs e
  holds Continue e = refl
  holds x e = absurd (not_true e)

  pub list_holds : (b : Body) → list_continues b ≡ true → body_holds_continue b ≡ true
  list_holds Done e = e
  list_holds (Then x b) e = or_map _ _ _ _ (holds x) (λ f. list_holds b (and_second (goes_on x) _ f)) e

  pub cases_hold : (cs : Cases) → cases_continue cs ≡ true → cases_hold_continue cs ≡ true
  cases_hold NoCase e = e
  cases_hold (OneCase v falls b cs) e = or_map _ _ _ _ (list_holds b) (cases_hold cs) e
