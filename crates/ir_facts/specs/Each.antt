-- A fact about each item of a list and its place.
use Rattle.std.specs.Prelude.{ℕ, ◌≡◌, List, Some, slice_get}

-- whatever stands at place k, P holds of k and of it
abbrev pub EachAt : {A : Type 0} → (ℕ → A → Type 0) → List A → Type 0
EachAt {A} P xs = (k : ℕ) (x : A) → slice_get xs k ≡ Some x → P k x
