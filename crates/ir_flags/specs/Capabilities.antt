-- What a target can do beyond the common ground: whether it has some capabilities, and the bits of each, named once.
use Rattle.std.specs.Prelude.{Bool}
use Rattle.ir_flags.specs.Bits.{contains}
use Rattle.ir_flags.specs.declared.capabilities.Capabilities.{Capabilities}

-- whether a target has all of these
abbrev pub has_capability : Capabilities → Capabilities → Bool
has_capability capabilities some = contains capabilities.0 some.0

abbrev pub ACCELERATION_STRUCTURE_BINDING_ARRAY : Capabilities
ACCELERATION_STRUCTURE_BINDING_ARRAY = record { 0 = 0x1 }

abbrev pub BUFFER_BINDING_ARRAY : Capabilities
BUFFER_BINDING_ARRAY = record { 0 = 0x2 }

abbrev pub CLIP_DISTANCES : Capabilities
CLIP_DISTANCES = record { 0 = 0x4 }

abbrev pub CULL_DISTANCE : Capabilities
CULL_DISTANCE = record { 0 = 0x8 }

abbrev pub DRAW_INDEX : Capabilities
DRAW_INDEX = record { 0 = 0x10 }

abbrev pub EARLY_DEPTH_TEST : Capabilities
EARLY_DEPTH_TEST = record { 0 = 0x20 }

abbrev pub IMMEDIATES : Capabilities
IMMEDIATES = record { 0 = 0x40 }

abbrev pub MEMORY_DECORATION_COHERENT : Capabilities
MEMORY_DECORATION_COHERENT = record { 0 = 0x80 }

abbrev pub MEMORY_DECORATION_VOLATILE : Capabilities
MEMORY_DECORATION_VOLATILE = record { 0 = 0x100 }

abbrev pub MESH_SHADER : Capabilities
MESH_SHADER = record { 0 = 0x200 }

abbrev pub MESH_SHADER_POINT_TOPOLOGY : Capabilities
MESH_SHADER_POINT_TOPOLOGY = record { 0 = 0x400 }

abbrev pub MULTISAMPLED_SHADING : Capabilities
MULTISAMPLED_SHADING = record { 0 = 0x800 }

abbrev pub MULTIVIEW : Capabilities
MULTIVIEW = record { 0 = 0x1000 }

abbrev pub PER_VERTEX : Capabilities
PER_VERTEX = record { 0 = 0x2000 }

abbrev pub PRIMITIVE_INDEX : Capabilities
PRIMITIVE_INDEX = record { 0 = 0x4000 }

abbrev pub RAY_TRACING_PIPELINE : Capabilities
RAY_TRACING_PIPELINE = record { 0 = 0x8000 }

abbrev pub SHADER_BARYCENTRICS : Capabilities
SHADER_BARYCENTRICS = record { 0 = 0x10000 }

abbrev pub SHADER_FLOAT32_ATOMIC : Capabilities
SHADER_FLOAT32_ATOMIC = record { 0 = 0x20000 }

abbrev pub SHADER_INT64_ATOMIC_ALL_OPS : Capabilities
SHADER_INT64_ATOMIC_ALL_OPS = record { 0 = 0x40000 }

abbrev pub SHADER_INT64_ATOMIC_MIN_MAX : Capabilities
SHADER_INT64_ATOMIC_MIN_MAX = record { 0 = 0x80000 }

abbrev pub STORAGE_BUFFER_BINDING_ARRAY : Capabilities
STORAGE_BUFFER_BINDING_ARRAY = record { 0 = 0x100000 }

abbrev pub STORAGE_TEXTURE_16BIT_NORM_FORMATS : Capabilities
STORAGE_TEXTURE_16BIT_NORM_FORMATS = record { 0 = 0x200000 }

abbrev pub STORAGE_TEXTURE_BINDING_ARRAY : Capabilities
STORAGE_TEXTURE_BINDING_ARRAY = record { 0 = 0x400000 }

abbrev pub SUBGROUP : Capabilities
SUBGROUP = record { 0 = 0x800000 }

abbrev pub SUBGROUP_BARRIER : Capabilities
SUBGROUP_BARRIER = record { 0 = 0x1000000 }

abbrev pub TEXTURE_AND_SAMPLER_BINDING_ARRAY : Capabilities
TEXTURE_AND_SAMPLER_BINDING_ARRAY = record { 0 = 0x2000000 }

abbrev pub TEXTURE_ATOMIC : Capabilities
TEXTURE_ATOMIC = record { 0 = 0x4000000 }

abbrev pub TEXTURE_INT64_ATOMIC : Capabilities
TEXTURE_INT64_ATOMIC = record { 0 = 0x8000000 }

-- every capability, and none
abbrev pub ALL_CAPABILITIES : Capabilities
ALL_CAPABILITIES = record { 0 = 0xfffffff }

abbrev pub NO_CAPABILITY : Capabilities
NO_CAPABILITY = record { 0 = 0 }
