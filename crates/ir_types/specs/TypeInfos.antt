-- What type infos say of a type.
use Rattle.std.specs.Int.RustNames.{bit_or}
use Rattle.std.specs.Prelude.{ℕ, Bool, false, List, [], ◌∷◌, Option, None, Some, slice_get}
use Rattle.ir_flags.specs.Bits.{contains, NO_TYPE_FLAG}
use Rattle.ir_flags.specs.declared.valid.TypeFlags.{TypeFlags}
use Rattle.ir_types.specs.declared.type_info.TypeInfo.{TypeInfo}

-- all of these flags
abbrev pub all_of : List TypeFlags → TypeFlags
all_of [] = NO_TYPE_FLAG
all_of (flag ∷ flags) = record { 0 = bit_or flag.0 (all_of flags).0 }

abbrev pub info_has : Option TypeInfo → TypeFlags → Bool
info_has None flags = false
info_has (Some info) flags = contains info.flags.0 flags.0

-- whether the type with this handle has all of these flags, where the infos are indexed by the types
abbrev pub type_has : List TypeInfo → ℕ → TypeFlags → Bool
type_has infos ty flags = info_has (slice_get infos ty) flags
