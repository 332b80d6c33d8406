-- The place where the code's checks are made: work of lemmas, cited by functions that the validator alone calls.
use Rattle.std.specs.Prelude.{false}
use Rattle.naga_runs.specs.Handles.{Handles, no_handles}
use Rattle.naga_runs.specs.Visits.{VisitPlace}
use Rattle.naga_runs.specs.declared.Abilities.{Abilities}

abbrev pub no_abilities : Abilities
no_abilities = record { can_return = false; can_break = false; can_continue = false }

-- what is in scope, and what of it every run has put
pub record Sets : Type 0 where
  pub scope : Handles
  pub must : Handles

abbrev pub no_sets : Sets
no_sets = record { scope = no_handles; must = no_handles }

-- the place where these are. Only the lists of jumps ask for the abilities
abbrev pub place_at : Sets → VisitPlace
place_at sets = record { abilities = no_abilities; scope = sets.scope; must = sets.must }
