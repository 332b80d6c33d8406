-- Check points: conditions that compute, each with the fault where it is false; the fault of the first that fails; and
-- chains of steps of which the first that faults gives the answer.
use Rattle.std.specs.Prelude.{ℕ, suc, Bool, List, [], ◌∷◌, ◌++◌, Option, None, Some, Result, Ok, Err, map, if◌then◌else◌}

-- a condition, and the fault where it is false
abbrev pub Point : Type 0 → Type 0
Point Fault = Bool × Fault

-- the fault of the first point that fails
abbrev pub first_fault : {Fault : Type 0} → List (Point Fault) → Option Fault
first_fault [] = None
first_fault (p ∷ ps) = if p.0 then first_fault ps else Some p.1

-- points whose faults stand inside others
abbrev pub within : {Inner Outer : Type 0} → (Inner → Outer) → List (Point Inner) → List (Point Outer)
within outer points = map (λ p. (p.0, outer p.1)) points

-- the points of each item of a list, the first of which has this index
abbrev pub points_from : {A Fault : Type 0} → (ℕ → A → List (Point Fault)) → ℕ → List A → List (Point Fault)
points_from points k [] = []
points_from points k (x ∷ xs) = points k x ++ points_from points (suc k) xs

-- the points of each item of a list, with its index, in order
abbrev pub points_of_each : {A Fault : Type 0} → (ℕ → A → List (Point Fault)) → List A → List (Point Fault)
points_of_each points xs = points_from points 0 xs

-- the fault if there is one, else this
abbrev pub answer : {A Fault : Type 0} → Option Fault → A → Result A Fault
answer None x = Ok x
answer (Some f) x = Err f

-- a step after another: the fault of the first if there is one, else what the second answers
abbrev pub and_then : {A B Fault : Type 0} → Result A Fault → (A → Result B Fault) → Result B Fault
and_then (Ok x) next = next x
and_then (Err f) next = Err f
