-- Infos of arrays.
use Rattle.std.specs.Int.RustNames.{bit_and}
use Rattle.std.specs.Prelude.{ℕ, Bool, true, false, ◌*◌, ◌%◌, ◌^◌, ◌==◌, ◌&&◌, [], ◌∷◌, Option, None, Some, Result, Ok, Err, nat_lt, nat_le, max, if◌then◌else◌}
use Rattle.ir_flags.specs.Bits.{contains, DATA, SIZED, COPY, HOST_SHAREABLE, CREATION_RESOLVED, ARGUMENT, CONSTRUCTIBLE}
use Rattle.ir_flags.specs.declared.valid.TypeFlags.{TypeFlags}
use Rattle.ir_types.specs.declared.types.ArraySize.{ArraySize}
use Rattle.ir_types.specs.declared.types.ArraySize.TheVariants as size
use Rattle.ir_types.specs.declared.type_info.Disalignment.{Disalignment}
use Rattle.ir_types.specs.declared.type_info.TypeInfo.{TypeInfo}
use Rattle.layer_types.specs.declared.parts.DataPart.{DataPart}
use Rattle.ir_types.specs.TypeInfos.{all_of}
use Rattle.layer_types.specs.Parts.{bad_stride}
use Rattle.layer_types.specs.Sizes.{is_aligned}

-- what an array can be used for, if what it holds can: of a size that an override gives it isn't made by value, of a size
-- that its buffer gives it isn't copied or passed on either
abbrev pub kept_flags : ArraySize → TypeFlags
kept_flags (size.Constant n) = all_of (DATA ∷ SIZED ∷ COPY ∷ HOST_SHAREABLE ∷ ARGUMENT ∷ CONSTRUCTIBLE ∷ CREATION_RESOLVED ∷ [])
kept_flags (size.Pending o) = all_of (DATA ∷ SIZED ∷ COPY ∷ HOST_SHAREABLE ∷ ARGUMENT ∷ [])
kept_flags size.Dynamic = all_of (DATA ∷ HOST_SHAREABLE ∷ CREATION_RESOLVED ∷ [])

-- a size that is known fits 32 bits
abbrev pub fits_count : ArraySize → ℕ → Bool
fits_count (size.Constant n) stride = nat_lt (n.value * stride) (2 ^ 32)
fits_count (size.Pending o) stride = true
fits_count size.Dynamic stride = true

-- items of a size that is known lie apart, and are aligned
abbrev pub fits_items : Option ℕ → ℕ → ℕ → Bool
fits_items None alignment stride = false
fits_items (Some size) alignment stride = nat_le size stride && is_aligned alignment stride

-- in a uniform buffer the stride is a multiple of 16, and so is the alignment
abbrev pub uniform_array : ℕ → Result ℕ (ℕ × Disalignment) → ℕ → Result ℕ (ℕ × Disalignment)
uniform_array own (Err bad) stride = Err bad
uniform_array own (Ok alignment) stride = if stride % 16 == 0 then Ok (max alignment 16) else Err (own, bad_stride)

-- an array of what has a size; it is aligned as its items are, and an immediate where they are
abbrev pub array_info : ℕ → DataPart → ArraySize → ℕ → Option TypeInfo
array_info own part size stride =
    if contains part.info.flags.0 SIZED.0 && (fits_items part.size part.alignment stride && fits_count size stride)
    then Some (record {
      flags = record { 0 = bit_and part.info.flags.0 (kept_flags size).0 };
      storage_layout = Ok part.alignment;
      uniform_layout = uniform_array own part.info.uniform_layout stride;
      immediates_compatibility = part.info.immediates_compatibility;
    })
    else None
