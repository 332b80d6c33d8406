-- Infos of structs.
use Rattle.std.specs.Int.RustNames.{bit_and}
use Rattle.std.specs.Prelude.{ℕ, Bool, true, false, not, ◌+◌, ◌*◌, ◌/◌, ◌==◌, ◌&&◌, ◌||◌, List, [], ◌∷◌, Option, None, Some, Result, Ok, Err, nat_le, max, slice_get, is_some, unwrap_or, if◌then◌else◌, option_and_then, option_map}
use Rattle.ir_flags.specs.Bits.{contains, ALL_TYPE_FLAGS, HOST_SHAREABLE, SIZED}
use Rattle.ir_flags.specs.declared.valid.TypeFlags.{TypeFlags}
use Rattle.ir_types.specs.Types.{inner_at}
use Rattle.ir_leaves.specs.declared.bindings.Binding.{Binding}
use Rattle.ir_leaves.specs.declared.bindings.Binding.TheVariants as binding
use Rattle.ir_types.specs.declared.types.StructMember.{StructMember}
use Rattle.ir_types.specs.declared.types.Type.{«Type» as IrType}
use Rattle.ir_types.specs.declared.type_info.Disalignment.{Disalignment}
use Rattle.ir_types.specs.declared.type_info.ImmediateError.{ImmediateError}
use Rattle.ir_types.specs.declared.type_info.TypeInfo.{TypeInfo}
use Rattle.ir_types.specs.TypeInfos.{all_of}
use Rattle.layer_types.specs.declared.parts.DataPart.{DataPart}
use Rattle.layer_types.specs.declared.structs.Laid.{Laid}
use Rattle.layer_types.specs.LeafInfos.{VALUE}
use Rattle.layer_types.specs.Parts.{bad_offset, too_close, part_of}
use Rattle.layer_types.specs.Sizes.{is_aligned}

-- before the first member. In a uniform buffer a struct is aligned to 16 bytes at least
abbrev pub begun : Laid
begun =
    record {
      end = 0;
      uniform_end = 0;
      is_open = false;
      flags = ALL_TYPE_FLAGS;
      alignment = 1;
      uniform_layout = Ok 16;
      immediates = Ok tt;
    }

-- a member has a size, or takes what its buffer holds
abbrev pub has_extent : DataPart → Bool
has_extent part = is_some part.size || not (contains part.info.flags.0 SIZED.0)

-- a member lies after those before it, of which none is without a size, and is aligned
abbrev pub fits_behind : Laid → DataPart → ℕ → Bool
fits_behind laid part offset =
    not laid.is_open && (nat_le laid.end offset && (is_aligned part.alignment offset && has_extent part))

-- in a uniform buffer a member is aligned as its type is there, and lies apart from a struct before it
abbrev pub uniform_member : ℕ → Result ℕ (ℕ × Disalignment) → Result ℕ (ℕ × Disalignment) → ℕ → ℕ → Result ℕ (ℕ × Disalignment)
uniform_member own (Err bad) needed from offset = Err bad
uniform_member own (Ok alignment) (Err bad) from offset = Err bad
uniform_member own (Ok alignment) (Ok needed) from offset =
    if is_aligned needed offset
    then (if nat_le from offset then Ok (max alignment needed) else Err (own, too_close))
    else Err (own, bad_offset)

abbrev pub first_error : Result Unit ImmediateError → Result Unit ImmediateError → Result Unit ImmediateError
first_error (Ok fine) second = second
first_error (Err bad) second = Err bad

-- where the next member may begin in a uniform buffer: there a struct takes a multiple of 16 bytes
abbrev pub uniform_end : DataPart → ℕ → ℕ
uniform_end part offset =
    let size = unwrap_or part.size 0 in
    if part.is_struct then offset + (size + 15) / 16 * 16 else offset + size

-- after one more member, which fits: the struct can be used for what all members can
abbrev pub with_member : ℕ → Laid → DataPart → ℕ → Laid
with_member own laid part offset =
    record {
      end = offset + unwrap_or part.size 0;
      uniform_end = uniform_end part offset;
      is_open = not (contains part.info.flags.0 SIZED.0);
      flags = record { 0 = bit_and laid.flags.0 part.info.flags.0 };
      alignment = max laid.alignment part.alignment;
      uniform_layout = uniform_member own laid.uniform_layout part.info.uniform_layout laid.uniform_end offset;
      immediates = first_error laid.immediates part.info.immediates_compatibility;
    }

-- after one more member, where it fits
abbrev pub laid_with : ℕ → Laid → Option DataPart → ℕ → Option Laid
laid_with own laid None offset = None
laid_with own laid (Some part) offset = if fits_behind laid part offset then Some (with_member own laid part offset) else None

-- after these members too
unfoldable pub laid_from : List IrType → List TypeInfo → ℕ → Laid → List StructMember → Option Laid
laid_from types infos own laid [] = Some laid
laid_from types infos own laid (m ∷ rest) =
    option_and_then (λ next. laid_from types infos own next rest)
    (laid_with own laid (part_of (slice_get infos m.ty) (inner_at types m.ty)) m.offset)

-- a struct that holds something, within its span, which is aligned
abbrev pub laid_info : ℕ → Laid → Option TypeInfo
laid_info span laid =
    if nat_le laid.end span && (not (laid.end == 0 && not laid.is_open) && is_aligned laid.alignment span)
    then Some (record {
      flags = laid.flags;
      storage_layout = Ok laid.alignment;
      uniform_layout = laid.uniform_layout;
      immediates_compatibility = laid.immediates;
    })
    else None

-- a source of a blend: what is bound to a location, as this or that source
abbrev pub is_source : Option Binding → Bool
is_source (Some (binding.Location at interpolation sampling blend_src per_primitive)) = is_some blend_src
is_source (Some (binding.BuiltIn b)) = false
is_source None = false

unfoldable pub are_sources : List StructMember → Bool
are_sources [] = true
are_sources (m ∷ rest) = is_source m.binding && are_sources rest

-- all flags but IO_SHAREABLE
abbrev pub UNSHARED : TypeFlags
UNSHARED = all_of (VALUE ∷ HOST_SHAREABLE ∷ [])

-- a struct is shared between stages as the sources of a blend, and else member by member
abbrev pub shared_as : Bool → TypeInfo → TypeInfo
shared_as true info = info
shared_as false info = record info { flags = record { 0 = bit_and info.flags.0 UNSHARED.0 } }

-- a struct with these members and this span
abbrev pub struct_info : List IrType → List TypeInfo → ℕ → List StructMember → ℕ → Option TypeInfo
struct_info types infos own members span =
    option_map (shared_as (are_sources members)) (option_and_then (laid_info span) (laid_from types infos own begun members))
