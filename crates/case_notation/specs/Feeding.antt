-- A machine that takes one thing after another, and may refuse one.
use Rattle.std.specs.Prelude.{◌≡◌, List, [], ◌∷◌, Option, Some, None, option_and_then, Result, Ok, Err}
use Rattle.case_notation.specs.declared.case.CaseError.{CaseError}
use Rattle.case_notation.specs.declared.case.CaseError.TheVariants.{Unreadable, Memory}

-- the state after these things
unfoldable pub feeds : {S T : Type 0} → (S → T → Option S) → Option S → List T → Option S
feeds f o [] = o
feeds f o (t ∷ ts) = feeds f (option_and_then (λ s. f s t) o) ts

-- what a call answers and leaves, against the state that is to come
abbrev pub Steps : {S : Type 0} → Option S → Result Unit CaseError → S → Type 0
Steps to (Ok u) s = to ≡ Some s
Steps to (Err Unreadable) s = to ≡ None
Steps to (Err Memory) s = Unit {0}

-- what a call answers, against what is to come
abbrev pub Ends : {X : Type 0} → Option X → Result X CaseError → Type 0
Ends to (Ok x) = to ≡ Some x
Ends to (Err Unreadable) = to ≡ None
Ends to (Err Memory) = Unit {0}
