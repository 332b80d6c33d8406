-- A set of numbers below 64, a bit each.
use Rattle.std.specs.Prelude.{ℕ, Bool, ◌==◌}
use Rattle.std.specs.Int.{bit_at}
use Rattle.check_varyings.specs.declared.small_set.SmallSet.{SmallSet}

abbrev pub has_number : SmallSet → ℕ → Bool
has_number set n = bit_at set.bits n == 1
