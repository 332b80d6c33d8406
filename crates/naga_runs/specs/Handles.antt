-- Sets of handles of expressions, as tests.
use Rattle.std.specs.Prelude.{ℕ, Bool, true, false, ◌==◌, if◌then◌else◌}

abbrev pub Handles : Type 0
Handles = ℕ → Bool

abbrev pub no_handles : Handles
no_handles h = false

-- a set with one more handle
abbrev pub with_handle : Handles → ℕ → Handles
with_handle s h = λ x. if h == x then true else s x
