-- What a call answers against what is right, in two families: `Finds` of calls that take no memory, and `Answers` of
-- calls that may find none.
use Rattle.std.specs.Prelude.{◌≡◌, List, None, Some, Result, Ok, Err, ⊤}
use Rattle.std.specs.Result.{result_err}
use Rattle.ir_arena.specs.Points.{Point, first_fault}
use Rattle.ir_arena.specs.declared.span.Refusal.{Refusal}
use Rattle.ir_arena.specs.declared.span.Refusal.TheVariants.{Fault, Memory}

-- what is right: the fault of the first of these points that fails, and any value where none fails; or exactly this
-- answer
pub data Right (A E : Type 0) : Type 0 where
  FirstOf : (points : List (Point E)) → Right A E
  Exactly : (answer : Result A E) → Right A E

-- the answer is right
abbrev pub Finds : {A E : Type 0} → Right A E → Result A E → Type 0
Finds (FirstOf points) r = result_err r ≡ first_fault points
Finds (Exactly right) r = right ≡ r

-- the refusal is for the fault of the first of these points that fails, or there was no memory
abbrev pub IsFirstFault : {E : Type 0} → List (Point E) → Refusal E → Type 0
IsFirstFault points (Fault e) = first_fault points ≡ Some e
IsFirstFault points Memory = ⊤

-- the answer is right, or there was no memory
abbrev pub Answers : {A E : Type 0} → Right A E → Result A (Refusal E) → Type 0
Answers (FirstOf points) (Ok x) = first_fault points ≡ None
Answers (FirstOf points) (Err refused) = IsFirstFault points refused
Answers (Exactly right) (Ok x) = right ≡ Ok x
Answers (Exactly right) (Err (Fault e)) = right ≡ Err e
Answers (Exactly right) (Err Memory) = ⊤

-- an answer with this value in place of its own
abbrev pub leaving : {A B E : Type 0} → A → Result B E → Result A E
leaving x (Ok y) = Ok x
leaving x (Err e) = Err e

-- a refusal, and an answer, whose fault is read by this
abbrev pub refusal_read_by : {E F : Type 0} → (E → F) → Refusal E → Refusal F
refusal_read_by read (Fault e) = Fault (read e)
refusal_read_by read Memory = Memory

abbrev pub read_by : {A E F : Type 0} → (E → F) → Result A (Refusal E) → Result A (Refusal F)
read_by read (Ok x) = Ok x
read_by read (Err refused) = Err (refusal_read_by read refused)
