-- The words of an input.
use Rattle.std.specs.Prelude.{ℕ, Bool, not, ◌==◌, ◌||◌, ◌&&◌, nat_le, List, length, filter}
use Rattle.std.specs.List.{slice_split, AllPass}

-- space, tab, carriage return, newline
abbrev pub is_space : ℕ → Bool
is_space b = b == 32 || b == 9 || b == 13 || b == 10

-- what words consist of: the visible characters of ASCII
abbrev pub is_visible : ℕ → Bool
is_visible b = nat_le 33 b && nat_le b 126

-- each byte is white space or a visible character
abbrev pub IsPrintable : List ℕ → Type 0
IsPrintable input = AllPass (λ b. is_space b || is_visible b) input

abbrev pub is_word : List ℕ → Bool
is_word w = not (length w == 0)

-- the words: what stands between white space
abbrev pub words_of : List ℕ → List (List ℕ)
words_of input = filter is_word (slice_split is_space input)
