-- A list without repeats, whose values are found by their hashes.
use Rattle.std.specs.Prelude.{ℕ, ◌≡◌, ◌≤◌, List, Some, length, map, slice_get}
use Rattle.std.specs.Hash.{HashWrites}
use Rattle.std.specs.Hash.FoldHasher.{initial, write, finish}
use Rattle.std.specs.List.{fold}
use Rattle.ir_arena.specs.Limits.{max_len}

-- no value stands at two places
abbrev pub AreDistinct : {A : Type 0} → List A → Type 0
AreDistinct {A} xs = (j k : ℕ) (x : A) → slice_get xs j ≡ Some x → slice_get xs k ≡ Some x → j ≡ k

-- the hash of a value, by what a hasher is given of it
unfoldable pub hash_of : {A : Type 0} → (A → HashWrites) → A → ℕ
hash_of given x = finish (fold write initial (given x))

-- what an arena keeps of its values: a span each and a hash each
pub record AreKept {A : Type 0} (given : A → HashWrites) (xs : List A) (spans : ℕ) (hashes : List ℕ) : Type 0 where
  pub spanned : spans ≡ length xs
  pub hashed : hashes ≡ map (hash_of given) xs
  pub small : length xs ≤ max_len
  pub distinct : AreDistinct xs
