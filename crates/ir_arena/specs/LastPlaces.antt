-- Where a number stands last in a list.
use Rattle.std.specs.Prelude.{ℕ, ◌≡◌, ◌+◌, ◌<◌, List, Option, None, Some, length, slice_get}
use Rattle.std.specs.Option.{ForSome}

-- the places up to one are those below this number: none is below 0
abbrev pub past : Option ℕ → ℕ
past None = 0
past (Some place) = place + 1

-- the last place before `end` at which x stands in xs, none where it stands at no such place
abbrev pub IsLastBefore : List ℕ → ℕ → ℕ → Option ℕ → Type 0
IsLastBefore xs end x place =
    ForSome place (λ p. (p < end) × (slice_get xs p ≡ Some x)) × ((j : ℕ) → j < end → slice_get xs j ≡ Some x → j < past place)

-- of each number its last place is kept, and of each place the one before it at which the same number stands
pub record AreLinked (xs : List ℕ) (before : List (Option ℕ)) (last : ℕ → Option ℕ) : Type 0 where
  pub lengths : length before ≡ length xs
  pub of_numbers : (x : ℕ) → IsLastBefore xs (length xs) x (last x)
  pub of_places : (k x : ℕ) (p : Option ℕ) → slice_get xs k ≡ Some x → slice_get before k ≡ Some p → IsLastBefore xs k x p
