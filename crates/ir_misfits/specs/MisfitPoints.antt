-- Misfits as points: a condition, and the misfit where it is false.
use Rattle.std.specs.Prelude.{ℕ, nat_lt, nat_le, List, [], ◌∷◌, Option, None, Some}
use Rattle.ir_arena.specs.Points.{Point}
use Rattle.ir_misfits.specs.declared.misfit.Place.{Place}
use Rattle.ir_misfits.specs.declared.misfit.HandleOf.{HandleOf}
use Rattle.ir_misfits.specs.declared.misfit.Problem.TheVariants as problem
use Rattle.ir_misfits.specs.declared.misfit.Misfit.{Misfit}

-- the points of something
abbrev pub MisfitPoints : Type 0
MisfitPoints = List (Point Misfit)

-- a handle of such a list stands at this place, and lies below n
abbrev pub named : Place → HandleOf → ℕ → ℕ → Point Misfit
named place of n h = (nat_lt h n, record { place = place; problem = problem.Handle of h n })

-- the same of a handle that may be left out
abbrev pub named_if : Place → HandleOf → ℕ → Option ℕ → MisfitPoints
named_if place of n None = []
named_if place of n (Some h) = named place of n h ∷ []

-- of a list: 32 bits count its items
abbrev pub counted : Place → ℕ → Point Misfit
counted place n = (nat_le n 4294967295, record { place = place; problem = problem.TooMany n })

-- the points of an item, if it is there
abbrev pub points_if : {A Fault : Type 0} → (A → List (Point Fault)) → Option A → List (Point Fault)
points_if points None = []
points_if points (Some x) = points x
