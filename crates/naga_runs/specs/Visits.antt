-- Visits: what stands at a position, with all that a check reads of the position, each read off the position alone.
use Rattle.std.specs.Prelude.{true, false, List, map}
use Rattle.ir_statements.specs.Tree.{Body}
use Rattle.naga_runs.specs.Handles.{Handles}
use Rattle.naga_runs.specs.Abilities.{may_return_from, may_break_from, may_continue_from}
use Rattle.naga_runs.specs.Must.{with_sure}
use Rattle.naga_runs.specs.Positions.{Position, BodyNode, node_at}
use Rattle.naga_runs.specs.PutsAndUses.{with_body}
use Rattle.naga_runs.specs.Scope.{known_at}
use Rattle.naga_runs.specs.VisitOrder.{positions}
use Rattle.naga_runs.specs.declared.Abilities.{Abilities}

-- which jumps are allowed, which handles are in scope, and which every run has put
pub record VisitPlace : Type 0 where
  pub abilities : Abilities
  pub scope : Handles
  pub must : Handles

-- a statement or a break condition, at its place
pub record Visit : Type 0 where
  pub place : VisitPlace
  pub node : BodyNode

-- the abilities at a position below a place that has these
abbrev pub abilities_from : Abilities → Position → Abilities
abilities_from a p =
    record {
      can_return = may_return_from a.can_return p;
      can_break = may_break_from a.can_break p;
      can_continue = may_continue_from a.can_continue p;
    }

-- the place at a position of a list that begins with this place
abbrev pub place_from : VisitPlace → Body → Position → VisitPlace
place_from c b p =
    record {
      abilities = abilities_from c.abilities p;
      scope = known_at with_body c.scope b p;
      must = known_at with_sure c.must b p;
    }

-- where the body of a function begins: Return is allowed, Break and Continue are not, `pre` needs no emission
abbrev pub at_begin : Handles → VisitPlace
at_begin pre =
    record {
      abilities = record { can_return = true; can_break = false; can_continue = false };
      scope = pre;
      must = pre;
    }

abbrev pub visit_at : Handles → Body → Position → Visit
visit_at pre b p = record { place = place_from (at_begin pre) b p; node = node_at b p }

-- The visits of a body, in visit order.
abbrev pub visits_of : Handles → Body → List Visit
visits_of pre b = map (visit_at pre b) (positions b)
