-- What an answer of the code says of check points: work of lemmas, cited by functions that the validator
-- alone calls.
use Rattle.std.specs.Prelude.{◌≡◌, ◌≢◌, List, None, OnErr, Result}
use Rattle.ir_arena.specs.Points.{Point, first_fault}

-- what is refused is at fault: no answer is wanting memory where all of these points hold
abbrev pub RefusesFaultsAlone : {T E Fault : Type 0} → List (Point Fault) → Result T E → Type 0
RefusesFaultsAlone points r = OnErr r (first_fault points ≢ None)

-- none of these points fails
abbrev pub AllHold : {Fault : Type 0} → List (Point Fault) → Type 0
AllHold points = first_fault points ≡ None
