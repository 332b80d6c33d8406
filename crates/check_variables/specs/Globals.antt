-- The check list of a global variable.
use Rattle.std.specs.Prelude.{ℕ, Bool, true, false, not, ◌||◌, ◌==◌, List, [], ◌∷◌, ◌++◌, Option, None, Some, Result, Ok, Err, is_none, is_some, slice_get, unwrap_or}
use Rattle.ir_flags.specs.Bits.{contains, STORE, COHERENT, VOLATILE}
use Rattle.ir_flags.specs.Capabilities.{has_capability, MEMORY_DECORATION_COHERENT, MEMORY_DECORATION_VOLATILE}
use Rattle.ir_arena.specs.Points.{Point}
use Rattle.ir_types.specs.Types.{inner_at}
use Rattle.ir_types.specs.SpaceTests.{is_task_payload}
use Rattle.ir_flags.specs.declared.ir.MemoryDecorations.{MemoryDecorations}
use Rattle.ir_module.specs.declared.module.GlobalVariable.{GlobalVariable}
use Rattle.ir_module.specs.declared.module.ResourceBinding.{ResourceBinding}
use Rattle.ir_types.specs.declared.types.AddressSpace.{AddressSpace}
use Rattle.ir_types.specs.declared.types.AddressSpace.TheVariants as space
use Rattle.ir_types.specs.declared.types.Type.{«Type» as IrType}
use Rattle.ir_types.specs.declared.types.TypeInner.{TypeInner}
use Rattle.ir_types.specs.declared.types.TypeInner.TheVariants.{BindingArray}
use Rattle.ir_facts.specs.declared.proc.expression_kinds.ExpressionKind.{ExpressionKind}
use Rattle.ir_types.specs.declared.typifier.TypeResolution.{TypeResolution}
use Rattle.ir_flags.specs.declared.capabilities.Capabilities.{Capabilities}
use Rattle.ir_flags.specs.declared.valid.TypeFlags.{TypeFlags}
use Rattle.ir_flags.specs.declared.valid.ValidationFlags.{ValidationFlags}
use Rattle.ir_types.specs.declared.type_info.Disalignment.{Disalignment}
use Rattle.ir_types.specs.declared.type_info.ImmediateError.{ImmediateError}
use Rattle.ir_types.specs.declared.type_info.TypeInfo.{TypeInfo}
use Rattle.check_variables.specs.Locals.{is_const_or_override, is_declared_as}
use Rattle.ir_types.specs.SpaceTests.{is_storage}
use Rattle.check_variables.specs.Spaces.{Layout, StorageLayout, UniformLayout, row_of, takes_arrays, array_needs, is_resource, format_needs, takes_initializers}
use Rattle.ir_types.specs.TypeInfos.{all_of, info_has}
use Rattle.ir_facts.specs.WhatIsChecked.{checks_layouts, checks_bindings}
use Rattle.ir_errors.specs.declared.interface.GlobalVariableError.{GlobalVariableError}
use Rattle.ir_errors.specs.declared.interface.GlobalVariableError.TheVariants.{InvalidUsage, InvalidType, MissingTypeFlags, UnsupportedCapability, InvalidBinding, Alignment, InitializerExprType, InitializerType, InitializerNotAllowed, StorageAddressSpaceWriteOnlyNotSupported, InvalidImmediateType, ZeroSizedTaskPayload, InvalidMemoryDecorationsAddressSpace, CoherentNotSupported, VolatileNotSupported}

-- check points of a global variable
abbrev pub GlobalPoints : Type 0
GlobalPoints = List (Point GlobalVariableError)

-- what the target has to be able to do, if there is such a thing
abbrev pub capability_points : Capabilities → Option Capabilities → GlobalPoints
capability_points capabilities None = []
capability_points capabilities (Some needed) = (has_capability capabilities needed, UnsupportedCapability needed) ∷ []

-- what a binding array has
abbrev pub element_of : Option TypeInner → Option ℕ
element_of (Some (BindingArray base size)) = Some base
element_of _ = None

-- the type that a space is asked about: what a binding array has, any other type itself
abbrev pub asked_type : List IrType → ℕ → ℕ
asked_type types ty = unwrap_or (element_of (inner_at types ty)) ty

-- a binding array, with what it has
abbrev pub array_points : Capabilities → List IrType → AddressSpace → Option ℕ → GlobalPoints
array_points capabilities types space None = []
array_points capabilities types space (Some base) =
    (takes_arrays space, InvalidUsage space)
    ∷ capability_points capabilities (array_needs space (inner_at types base))

-- a layout; a bad one comes with the type inside that spoils it, and the reason
abbrev pub good_layout_points : ValidationFlags → AddressSpace → Result ℕ (ℕ × Disalignment) → GlobalPoints
good_layout_points flags space (Ok alignment) = []
good_layout_points flags space (Err bad) = (not (checks_layouts flags), Alignment space bad.0 bad.1) ∷ []

-- the layout of a type that a space asks for
abbrev pub layout_points : ValidationFlags → AddressSpace → Layout → Option TypeInfo → GlobalPoints
layout_points flags space StorageLayout (Some info) = good_layout_points flags space info.storage_layout
layout_points flags space UniformLayout (Some info) = good_layout_points flags space info.uniform_layout
layout_points flags space _ _ = []

-- whether a type can be an immediate
abbrev pub immediate_points : Result Unit ImmediateError → GlobalPoints
immediate_points (Ok fine) = []
immediate_points (Err bad) = (false, InvalidImmediateType bad) ∷ []

-- what lies in Handle: a resource, of a format that the target can do
abbrev pub resource_points : Capabilities → Option TypeInner → GlobalPoints
resource_points capabilities ty = (is_resource ty, InvalidType space.Handle) ∷ capability_points capabilities (format_needs ty)

-- what a space asks for beside its row of the table
abbrev pub extra_points : Capabilities → AddressSpace → Option TypeInner → Option TypeInfo → GlobalPoints
extra_points capabilities space.Function ty info = (false, InvalidUsage space.Function) ∷ []
extra_points capabilities (space.Storage access) ty info =
    (not (access.0 == STORE.0), StorageAddressSpaceWriteOnlyNotSupported) ∷ []
extra_points capabilities space.Handle ty info = resource_points capabilities ty
extra_points capabilities space.Immediate ty (Some info) = immediate_points info.immediates_compatibility
extra_points capabilities space.Immediate ty None = []
extra_points capabilities space.Private ty info = []
extra_points capabilities space.WorkGroup ty info = []
extra_points capabilities space.Uniform ty info = []
extra_points capabilities space.TaskPayload ty info = []
extra_points capabilities space.RayPayload ty info = []
extra_points capabilities space.IncomingRayPayload ty info = []

-- what a type can be used for
abbrev pub seen_flags : Option TypeInfo → TypeFlags
seen_flags None = all_of []
seen_flags (Some info) = info.flags

-- what a space asks for: by its row of the table the layout and what the target can do; then what it asks for beside
abbrev pub place_points : ValidationFlags → Capabilities → AddressSpace → Option TypeInner → Option TypeInfo → GlobalPoints
place_points flags capabilities space ty info =
    layout_points flags space (row_of space).layout info
    ++ (capability_points capabilities (row_of space).capability
    ++ extra_points capabilities space ty info)

-- a type in a space: all that, and by the row what the type can be used for
abbrev pub space_points : ValidationFlags → Capabilities → AddressSpace → Option TypeInner → Option TypeInfo → GlobalPoints
space_points flags capabilities space ty info =
    place_points flags capabilities space ty info
    ++ ((info_has info (row_of space).flags, MissingTypeFlags (row_of space).flags (seen_flags info)) ∷ [])

-- the type of a variable: whether it is a binding array that may lie in the space; then the type that the space is asked about
abbrev pub type_points : List IrType → List TypeInfo → ValidationFlags → Capabilities → AddressSpace → ℕ → GlobalPoints
type_points types infos flags capabilities space ty =
    array_points capabilities types space (element_of (inner_at types ty))
    ++ space_points flags capabilities space (inner_at types (asked_type types ty)) (slice_get infos (asked_type types ty))

-- a binding is there exactly where it has to be
abbrev pub is_bound_as : Bool → Option ResourceBinding → Bool
is_bound_as true binding = is_some binding
is_bound_as false binding = is_none binding

-- a size that is known is not zero
abbrev pub is_not_zero : Option ℕ → Bool
is_not_zero None = true
is_not_zero (Some size) = not (size == 0)

-- no decoration is among these
abbrev pub is_undecorated : MemoryDecorations → Bool
is_undecorated decorations = decorations.0 == 0

-- only storage is decorated, and only as the target can do
abbrev pub decoration_points : Capabilities → AddressSpace → MemoryDecorations → GlobalPoints
decoration_points capabilities space decorations =
    (is_storage space || is_undecorated decorations, InvalidMemoryDecorationsAddressSpace)
    ∷ (not (contains decorations.0 COHERENT.0) || has_capability capabilities MEMORY_DECORATION_COHERENT, CoherentNotSupported)
    ∷ (not (contains decorations.0 VOLATILE.0) || has_capability capabilities MEMORY_DECORATION_VOLATILE, VolatileNotSupported)
    ∷ []

-- the binding, the size of a payload, and the decorations
unfoldable pub variable_points : ValidationFlags → Capabilities → Option ℕ → GlobalVariable → GlobalPoints
variable_points flags capabilities size var =
    (not (checks_bindings flags) || is_bound_as (row_of var.space).is_bound var.binding, InvalidBinding)
    ∷ (not (is_task_payload var.space) || is_not_zero size, ZeroSizedTaskPayload)
    ∷ decoration_points capabilities var.space var.memory_decorations

-- an initializer, if there is one: the space, when its value is known, its type
abbrev pub global_initializer_points : List IrType → List ExpressionKind → List TypeResolution → AddressSpace → ℕ →
    Option ℕ → GlobalPoints
global_initializer_points types kinds given space declared None = []
global_initializer_points types kinds given space declared (Some init) =
    (takes_initializers space, InitializerNotAllowed space)
    ∷ (is_const_or_override (slice_get kinds init), InitializerExprType)
    ∷ (is_declared_as types declared (slice_get given init), InitializerType)
    ∷ []

-- a global: its type in its space; the variable itself; its initializer. The infos are indexed by the types, kinds and
-- given types by the module's global expressions; the size is that of the variable's type in bytes, where it is known
abbrev pub global_points : List IrType → List TypeInfo → ValidationFlags → Capabilities → Option ℕ → List ExpressionKind →
    List TypeResolution → GlobalVariable → GlobalPoints
global_points types infos flags capabilities size kinds given var =
    type_points types infos flags capabilities var.space var.ty
    ++ (variable_points flags capabilities size var
    ++ global_initializer_points types kinds given var.space var.ty var.init)
