-- What a reading answers.
use Rattle.std.specs.Borrow.{Bor}
use Rattle.std.specs.Prelude.{◌≡◌, ℕ, List, map, Option, Some, None, Result, Ok, Err}
use Rattle.json_values.specs.declared.error.ReadError.{ReadError}
use Rattle.json_values.specs.Failures.{IsUnreadable}

-- It is what the value stands for, and the value is unreadable only where it stands for nothing; or there was no memory.
abbrev pub ReadsMeaning : {T : Type 0} → Option T → Result T ReadError → Type 0
ReadsMeaning o (Ok x) = o ≡ Some x
ReadsMeaning o (Err e) = IsUnreadable e → o ≡ None

-- the same, where what is read has this meaning
abbrev pub ReadsAs : {A B : Type 0} → (B → A) → Option A → Result B ReadError → Type 0
ReadsAs meaning o (Ok x) = o ≡ Some (meaning x)
ReadsAs meaning o (Err e) = IsUnreadable e → o ≡ None

-- the texts of a list
abbrev pub texts_of : List (Bor (List ℕ)) → List (List ℕ)
texts_of names = map (λ n. n.now) names

-- a table as its texts and what stands beside them
abbrev pub rows_of : {T : Type 0} → List (Bor (List ℕ) × T) → List (List ℕ × T)
rows_of rows = map (λ r. (r.0.now, r.1)) rows
