-- How much an arena can hold.
use Rattle.std.specs.Prelude.{ℕ}

-- the largest number of values, so that 32 bits count them and each has a handle
abbrev pub max_len : ℕ
max_len = 4294967295
