-- Infos of a module's types, each of those of the types before it.
use Rattle.std.specs.Prelude.{ℕ, not, ◌==◌, ◌++◌, List, [], ◌∷◌, Option, None, Some, Err, length, slice_get, unwrap_or, option_and_then}
use Rattle.ir_flags.specs.Bits.{contains, NO_TYPE_FLAG, DATA, SIZED}
use Rattle.ir_types.specs.Types.{inner_at}
use Rattle.ir_types.specs.declared.types.AddressSpace.{AddressSpace}
use Rattle.ir_types.specs.declared.types.Type.{«Type» as IrType}
use Rattle.ir_types.specs.declared.types.TypeInner.{TypeInner}
use Rattle.ir_types.specs.declared.types.TypeInner.TheVariants as inner
use Rattle.ir_types.specs.declared.type_info.TypeInfo.{TypeInfo}
use Rattle.layer_types.specs.Arrays.{array_info}
use Rattle.layer_types.specs.LeafInfos.{info, known_info, leaf_info, pointer_flags}
use Rattle.layer_types.specs.Parts.{not_well_formed, part_of}
use Rattle.layer_types.specs.Structs.{struct_info}

-- a type that isn't well formed has no flags, and no buffer takes it
abbrev pub ill_formed : ℕ → TypeInfo
ill_formed own =
    record {
      flags = NO_TYPE_FLAG;
      storage_layout = Err (own, not_well_formed);
      uniform_layout = Err (own, not_well_formed);
      immediates_compatibility = Err (record { 0 = 0 });
    }

-- a pointer to data
abbrev pub pointer_info : Option TypeInfo → AddressSpace → Option TypeInfo
pointer_info None p = None
pointer_info (Some base) p =
    known_info (contains base.flags.0 DATA.0) (info (pointer_flags p (contains base.flags.0 SIZED.0)) 1)

-- a binding array of what can be used for something; it can be used for nothing itself
abbrev pub binding_info : Option TypeInfo → Option TypeInfo
binding_info None = None
binding_info (Some base) = known_info (not (base.flags.0 == 0)) (info NO_TYPE_FLAG 1)

-- a type by those before it; None where it isn't well formed
abbrev pub own_info : List IrType → List TypeInfo → ℕ → TypeInner → Option TypeInfo
own_info types infos own (inner.Pointer base p) = pointer_info (slice_get infos base) p
own_info types infos own (inner.Array base size stride) =
    option_and_then (λ part. array_info own part size stride) (part_of (slice_get infos base) (inner_at types base))
own_info types infos own (inner.Struct members span) = struct_info types infos own members span
own_info types infos own (inner.BindingArray base size) = binding_info (slice_get infos base)
own_info types infos own i = leaf_info i

abbrev pub info_of : List IrType → List TypeInfo → ℕ → TypeInner → TypeInfo
info_of types infos own i = unwrap_or (own_info types infos own i) (ill_formed own)

-- the infos of these types after those of the types before them
unfoldable pub infos_from : List IrType → List TypeInfo → List IrType → List TypeInfo
infos_from types infos [] = infos
infos_from types infos (t ∷ rest) = infos_from types (infos ++ info_of types infos (length infos) t.inner ∷ []) rest
