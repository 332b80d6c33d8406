-- Uses of globals that are joined.
use Rattle.std.specs.Prelude.{ℕ, ◌+◌, List, [], ◌∷◌, Option, None, Some, slice_get, slice_set}
use Rattle.ir_flags.specs.declared.valid.GlobalUse.{GlobalUse}
use Rattle.ir_facts.specs.Infos.{joined}

-- with a use joined to those of global g, where it is one of these
abbrev pub joined_at : List GlobalUse → ℕ → GlobalUse → List GlobalUse
joined_at uses g more = slice_set uses g (joined (slice_get uses g) more)

abbrev pub with_use : List GlobalUse → Option ℕ → GlobalUse → List GlobalUse
with_use uses None more = uses
with_use uses (Some g) more = joined_at uses g more

-- with each of these joined, the first of which is of the global at this place
unfoldable pub joined_from : ℕ → List GlobalUse → List GlobalUse → List GlobalUse
joined_from place uses [] = uses
joined_from place uses (more ∷ rest) = joined_from (place + 1) (joined_at uses place more) rest

abbrev pub all_joined : List GlobalUse → List GlobalUse → List GlobalUse
all_joined uses more = joined_from 0 uses more
