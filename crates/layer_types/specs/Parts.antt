-- What arrays and structs hold: types of data that stand before them and are well formed; and why a layout is bad.
use Rattle.std.specs.Prelude.{ℕ, Option, None, Some, Result, Ok, Err, if◌then◌else◌}
use Rattle.ir_flags.specs.Bits.{contains, DATA}
use Rattle.ir_types.specs.declared.types.TypeInner.{TypeInner}
use Rattle.ir_types.specs.declared.type_info.Disalignment.{Disalignment}
use Rattle.ir_types.specs.declared.type_info.TypeInfo.{TypeInfo}
use Rattle.ir_types.specs.TypeTests.{is_struct}
use Rattle.layer_types.specs.declared.parts.DataPart.{DataPart}
use Rattle.layer_types.specs.Sizes.{size_of}

-- the type isn't well formed
abbrev pub not_well_formed : Disalignment
not_well_formed = record { 0 = 0 }

-- in a uniform buffer: the stride of an array is no multiple of 16
abbrev pub bad_stride : Disalignment
bad_stride = record { 0 = 1 }

-- a member of a struct isn't aligned
abbrev pub bad_offset : Disalignment
bad_offset = record { 0 = 2 }

-- a member of a struct follows another struct too closely
abbrev pub too_close : Disalignment
too_close = record { 0 = 3 }

-- a type whose layout is good is a part where it is one of data
abbrev pub data_part : Result ℕ (ℕ × Disalignment) → TypeInfo → TypeInner → Option DataPart
data_part (Err bad) info i = None
data_part (Ok alignment) info i =
    if contains info.flags.0 DATA.0
    then Some (record { info = info; alignment = alignment; size = size_of i; is_struct = is_struct i })
    else None

-- the part that a type is, where it stands before
abbrev pub part_of : Option TypeInfo → Option TypeInner → Option DataPart
part_of (Some info) (Some i) = data_part info.storage_layout info i
part_of _ _ = None
