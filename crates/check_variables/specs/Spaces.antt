-- What an address space asks for of a global that lies in it: a table of one row a space, and what binding arrays need.
use Rattle.std.specs.Prelude.{Bool, true, false, List, [], ◌∷◌, Option, None, Some, if◌then◌else◌}
use Rattle.ir_flags.specs.Bits.{DATA, SIZED, COPY, HOST_SHAREABLE, CREATION_RESOLVED, CONSTRUCTIBLE}
use Rattle.ir_flags.specs.Capabilities.{ACCELERATION_STRUCTURE_BINDING_ARRAY, BUFFER_BINDING_ARRAY, IMMEDIATES, MESH_SHADER, RAY_TRACING_PIPELINE, STORAGE_BUFFER_BINDING_ARRAY, STORAGE_TEXTURE_16BIT_NORM_FORMATS, STORAGE_TEXTURE_BINDING_ARRAY, TEXTURE_AND_SAMPLER_BINDING_ARRAY}
use Rattle.ir_types.specs.declared.types.AddressSpace.{AddressSpace}
use Rattle.ir_types.specs.declared.types.AddressSpace.TheVariants as space
use Rattle.ir_types.specs.declared.types.ImageClass.{ImageClass}
use Rattle.ir_types.specs.declared.types.ImageClass.TheVariants as class
use Rattle.ir_leaves.specs.declared.images.StorageFormat.{StorageFormat}
use Rattle.ir_leaves.specs.declared.images.StorageFormat.TheVariants as format
use Rattle.ir_types.specs.declared.types.TypeInner.{TypeInner}
use Rattle.ir_types.specs.declared.types.TypeInner.TheVariants as inner
use Rattle.ir_flags.specs.declared.capabilities.Capabilities.{Capabilities}
use Rattle.ir_flags.specs.declared.valid.TypeFlags.{TypeFlags}
use Rattle.ir_types.specs.TypeInfos.{all_of}

-- which of its two layouts a type must have
pub data Layout : Type 0 where
  AnyLayout : Layout
  StorageLayout : Layout
  UniformLayout : Layout

-- a row of the table: whether what lies there is bound, the layout of its type, what the target must be able to do, and
-- what the type must be usable for
pub record SpaceRow : Type 0 where
  pub is_bound : Bool
  pub layout : Layout
  pub capability : Option Capabilities
  pub flags : TypeFlags

-- the row of a space in which globals are bound
abbrev pub bound : Layout → Option Capabilities → List TypeFlags → SpaceRow
bound layout capability flags = record { is_bound = true; layout = layout; capability = capability; flags = all_of flags }

-- and of one in which they aren't
abbrev pub unbound : Layout → Option Capabilities → List TypeFlags → SpaceRow
unbound layout capability flags = record { is_bound = false; layout = layout; capability = capability; flags = all_of flags }

-- the table: for each space whether what lies there is bound, layout, capability, flags. No global lies in Function, whatever
-- its row says
abbrev pub row_of : AddressSpace → SpaceRow
row_of space.Function = unbound AnyLayout None []
row_of (space.Storage access) = bound StorageLayout None (DATA ∷ HOST_SHAREABLE ∷ CREATION_RESOLVED ∷ [])
row_of space.Uniform = bound UniformLayout None (DATA ∷ COPY ∷ SIZED ∷ HOST_SHAREABLE ∷ CREATION_RESOLVED ∷ [])
row_of space.Handle = bound AnyLayout None []
row_of space.Private = unbound AnyLayout None (CONSTRUCTIBLE ∷ CREATION_RESOLVED ∷ [])
row_of space.WorkGroup = unbound AnyLayout None (DATA ∷ SIZED ∷ [])
row_of space.TaskPayload = unbound AnyLayout (Some MESH_SHADER) (DATA ∷ SIZED ∷ [])
row_of space.Immediate = unbound AnyLayout (Some IMMEDIATES) (DATA ∷ COPY ∷ HOST_SHAREABLE ∷ SIZED ∷ [])
row_of space.RayPayload = unbound AnyLayout (Some RAY_TRACING_PIPELINE) (DATA ∷ SIZED ∷ [])
row_of space.IncomingRayPayload = unbound AnyLayout (Some RAY_TRACING_PIPELINE) (DATA ∷ SIZED ∷ [])

-- the spaces that binding arrays lie in
abbrev pub takes_arrays : AddressSpace → Bool
takes_arrays space.Function = false
takes_arrays space.Private = false
takes_arrays space.WorkGroup = false
takes_arrays space.Uniform = true
takes_arrays (space.Storage access) = true
takes_arrays space.Handle = true
takes_arrays space.Immediate = false
takes_arrays space.TaskPayload = false
takes_arrays space.RayPayload = false
takes_arrays space.IncomingRayPayload = false

-- what a binding array of images of a class needs
abbrev pub image_array_needs : ImageClass → Option Capabilities
image_array_needs (class.Storage format access) = Some STORAGE_TEXTURE_BINDING_ARRAY
image_array_needs (class.Sampled kind multi) = Some TEXTURE_AND_SAMPLER_BINDING_ARRAY
image_array_needs (class.Depth multi) = Some TEXTURE_AND_SAMPLER_BINDING_ARRAY
image_array_needs class.External = None

-- what a binding array of resources needs, by what it has
abbrev pub resource_array_needs : Option TypeInner → Option Capabilities
resource_array_needs (Some (inner.Image dim arrayed class)) = image_array_needs class
resource_array_needs (Some (inner.Sampler comparison)) = Some TEXTURE_AND_SAMPLER_BINDING_ARRAY
resource_array_needs (Some (inner.AccelerationStructure vertex_return)) = Some ACCELERATION_STRUCTURE_BINDING_ARRAY
resource_array_needs _ = None

-- what a binding array in a space needs
abbrev pub array_needs : AddressSpace → Option TypeInner → Option Capabilities
array_needs space.Function base = None
array_needs space.Private base = None
array_needs space.WorkGroup base = None
array_needs space.Uniform base = Some BUFFER_BINDING_ARRAY
array_needs (space.Storage access) base = Some STORAGE_BUFFER_BINDING_ARRAY
array_needs space.Handle base = resource_array_needs base
array_needs space.Immediate base = None
array_needs space.TaskPayload base = None
array_needs space.RayPayload base = None
array_needs space.IncomingRayPayload base = None

-- what lies in space Handle
abbrev pub is_resource : Option TypeInner → Bool
is_resource (Some (inner.Image dim arrayed class)) = true
is_resource (Some (inner.Sampler comparison)) = true
is_resource (Some (inner.AccelerationStructure vertex_return)) = true
is_resource (Some (inner.RayQuery vertex_return)) = true
is_resource _ = false

-- the formats with 16 bits a channel that hold fractions of one
abbrev pub is_16bit_norm : StorageFormat → Bool
is_16bit_norm format.R16Unorm = true
is_16bit_norm format.R16Snorm = true
is_16bit_norm format.Rg16Unorm = true
is_16bit_norm format.Rg16Snorm = true
is_16bit_norm format.Rgba16Unorm = true
is_16bit_norm format.Rgba16Snorm = true
is_16bit_norm _ = false

-- what a storage image needs for its format
abbrev pub format_needs : Option TypeInner → Option Capabilities
format_needs (Some (inner.Image dim arrayed (class.Storage format access))) =
    if is_16bit_norm format then Some STORAGE_TEXTURE_16BIT_NORM_FORMATS else None
format_needs _ = None

-- the spaces whose globals may have an initializer
abbrev pub takes_initializers : AddressSpace → Bool
takes_initializers space.Function = true
takes_initializers space.Private = true
takes_initializers space.WorkGroup = false
takes_initializers space.Uniform = false
takes_initializers (space.Storage access) = false
takes_initializers space.Handle = false
takes_initializers space.Immediate = false
takes_initializers space.TaskPayload = false
takes_initializers space.RayPayload = false
takes_initializers space.IncomingRayPayload = false
