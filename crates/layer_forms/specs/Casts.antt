-- The conversions and bitcasts that `detail` stands for.
use Rattle.std.specs.Prelude.{ℕ, ◌/◌, ◌%◌, ◌==◌, List, [], ◌∷◌, Option, None, Some, slice_get, if◌then◌else◌}
use Rattle.std.specs.Option.{option_map}
use Rattle.ir_leaves.specs.declared.scalars.ScalarKind.{ScalarKind}
use Rattle.ir_leaves.specs.declared.scalars.ScalarKind.TheVariants as kind
use Rattle.layer_forms.specs.declared.casts.Cast.{Cast}

abbrev pub kinds : List ScalarKind
kinds = kind.Sint ∷ kind.Uint ∷ kind.Float ∷ kind.Bool ∷ kind.AbstractInt ∷ kind.AbstractFloat ∷ []

-- a width; 0 is a bitcast
abbrev pub width_of : ℕ → Option ℕ
width_of n = if n == 0 then None else Some n

-- 256 times the place of the kind, from 0, and the width in bytes
abbrev pub cast_of : ℕ → Option Cast
cast_of detail = option_map (λ k. record { kind = k; convert = width_of (detail % 256) }) (slice_get kinds (detail / 256))
