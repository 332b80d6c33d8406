-- The handles that an Emit puts in scope, and the place where it stands.
use Rattle.std.specs.Prelude.{ℕ, zero, suc, ◌-◌, List, [], ◌∷◌}
use Rattle.check_scope.specs.walk.Place.{Sets, place_at}
use Rattle.naga_runs.specs.Visits.{VisitPlace}
use Rattle.naga_runs.specs.declared.Abilities.{Abilities}

-- n handles from the first on
abbrev pub handles_from : ℕ → ℕ → List ℕ
handles_from first zero = []
handles_from first (suc n) = first ∷ handles_from (suc first) n

-- the handles of a range, its end excluded
abbrev pub handles_between : ℕ → ℕ → List ℕ
handles_between start end = handles_from start (end - start)

-- a place with these abilities
abbrev pub place : Abilities → Sets → VisitPlace
place abilities scope = record (place_at scope) { abilities = abilities }
