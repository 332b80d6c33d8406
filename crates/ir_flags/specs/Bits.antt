-- The bits of the sets, each named once; those of Capabilities stand in Capabilities. A set is seen as the number whose bits
-- are its members.
use Rattle.std.specs.Int.RustNames.{bit_and}
use Rattle.std.specs.Prelude.{ℕ, Bool, ◌==◌}
use Rattle.ir_flags.specs.declared.ir.Barrier.{Barrier}
use Rattle.ir_flags.specs.declared.ir.MemoryDecorations.{MemoryDecorations}
use Rattle.ir_flags.specs.declared.ir.StorageAccess.{StorageAccess}
use Rattle.ir_flags.specs.declared.valid.GlobalUse.{GlobalUse}
use Rattle.ir_flags.specs.declared.valid.ShaderStages.{ShaderStages}
use Rattle.ir_flags.specs.declared.valid.SubgroupOperationSet.{SubgroupOperationSet}
use Rattle.ir_flags.specs.declared.valid.TypeFlags.{TypeFlags}
use Rattle.ir_flags.specs.declared.valid.ValidationFlags.{ValidationFlags}

-- whether every bit of the second set is one of the first
abbrev pub contains : ℕ → ℕ → Bool
contains set some = bit_and set some == some

-- ValidationFlags: which checks are made
abbrev pub EXPRESSIONS : ValidationFlags
EXPRESSIONS = record { 0 = 0x1 }

abbrev pub BLOCKS : ValidationFlags
BLOCKS = record { 0 = 0x2 }

abbrev pub STRUCT_LAYOUTS : ValidationFlags
STRUCT_LAYOUTS = record { 0 = 0x4 }

abbrev pub BINDINGS : ValidationFlags
BINDINGS = record { 0 = 0x8 }

-- TypeFlags: what a type can be used for
abbrev pub DATA : TypeFlags
DATA = record { 0 = 0x1 }

abbrev pub SIZED : TypeFlags
SIZED = record { 0 = 0x2 }

abbrev pub COPY : TypeFlags
COPY = record { 0 = 0x4 }

abbrev pub IO_SHAREABLE : TypeFlags
IO_SHAREABLE = record { 0 = 0x8 }

abbrev pub HOST_SHAREABLE : TypeFlags
HOST_SHAREABLE = record { 0 = 0x10 }

abbrev pub CREATION_RESOLVED : TypeFlags
CREATION_RESOLVED = record { 0 = 0x20 }

abbrev pub ARGUMENT : TypeFlags
ARGUMENT = record { 0 = 0x40 }

abbrev pub CONSTRUCTIBLE : TypeFlags
CONSTRUCTIBLE = record { 0 = 0x80 }

-- ShaderStages: the stages of a pipeline; COMPUTE_LIKE are compute, mesh and task
abbrev pub VERTEX : ShaderStages
VERTEX = record { 0 = 0x1 }

abbrev pub FRAGMENT : ShaderStages
FRAGMENT = record { 0 = 0x2 }

abbrev pub COMPUTE : ShaderStages
COMPUTE = record { 0 = 0x4 }

abbrev pub MESH : ShaderStages
MESH = record { 0 = 0x8 }

abbrev pub TASK : ShaderStages
TASK = record { 0 = 0x10 }

abbrev pub RAY_GENERATION : ShaderStages
RAY_GENERATION = record { 0 = 0x20 }

abbrev pub ANY_HIT : ShaderStages
ANY_HIT = record { 0 = 0x40 }

abbrev pub CLOSEST_HIT : ShaderStages
CLOSEST_HIT = record { 0 = 0x80 }

abbrev pub MISS : ShaderStages
MISS = record { 0 = 0x100 }

abbrev pub COMPUTE_LIKE : ShaderStages
COMPUTE_LIKE = record { 0 = 0x1c }

-- GlobalUse: how a function uses a global
abbrev pub READ : GlobalUse
READ = record { 0 = 0x1 }

abbrev pub WRITE : GlobalUse
WRITE = record { 0 = 0x2 }

abbrev pub QUERY : GlobalUse
QUERY = record { 0 = 0x4 }

abbrev pub ATOMIC_USE : GlobalUse
ATOMIC_USE = record { 0 = 0x8 }

-- StorageAccess: what may be done with storage
abbrev pub LOAD : StorageAccess
LOAD = record { 0 = 0x1 }

abbrev pub STORE : StorageAccess
STORE = record { 0 = 0x2 }

abbrev pub ATOMIC : StorageAccess
ATOMIC = record { 0 = 0x4 }

-- Barrier: which memory a barrier orders
abbrev pub STORAGE : Barrier
STORAGE = record { 0 = 0x1 }

abbrev pub WORK_GROUP : Barrier
WORK_GROUP = record { 0 = 0x2 }

abbrev pub SUB_GROUP : Barrier
SUB_GROUP = record { 0 = 0x4 }

abbrev pub TEXTURE : Barrier
TEXTURE = record { 0 = 0x8 }

-- MemoryDecorations: how a global is decorated
abbrev pub COHERENT : MemoryDecorations
COHERENT = record { 0 = 0x1 }

abbrev pub VOLATILE : MemoryDecorations
VOLATILE = record { 0 = 0x2 }

-- SubgroupOperationSet: the groups of subgroup operations
abbrev pub BASIC : SubgroupOperationSet
BASIC = record { 0 = 0x1 }

abbrev pub VOTE : SubgroupOperationSet
VOTE = record { 0 = 0x2 }

abbrev pub ARITHMETIC : SubgroupOperationSet
ARITHMETIC = record { 0 = 0x4 }

abbrev pub BALLOT : SubgroupOperationSet
BALLOT = record { 0 = 0x8 }

abbrev pub SHUFFLE : SubgroupOperationSet
SHUFFLE = record { 0 = 0x10 }

abbrev pub SHUFFLE_RELATIVE : SubgroupOperationSet
SHUFFLE_RELATIVE = record { 0 = 0x20 }

abbrev pub QUAD : SubgroupOperationSet
QUAD = record { 0 = 0x40 }

-- every stage, every group of subgroup operations
abbrev pub ALL_STAGES : ShaderStages
ALL_STAGES = record { 0 = 0x1ff }

abbrev pub ALL_OPERATIONS : SubgroupOperationSet
ALL_OPERATIONS = record { 0 = 0x7f }

-- every flag of a type
abbrev pub ALL_TYPE_FLAGS : TypeFlags
ALL_TYPE_FLAGS = record { 0 = 0xff }

-- no stage, no use of a global, no memory that a barrier orders, no access to a storage image, no group of subgroup
-- operations, no flag of a type
abbrev pub NO_STAGE : ShaderStages
NO_STAGE = record { 0 = 0 }

abbrev pub NO_USE : GlobalUse
NO_USE = record { 0 = 0 }

abbrev pub NO_MEMORY : Barrier
NO_MEMORY = record { 0 = 0 }

abbrev pub NO_ACCESS : StorageAccess
NO_ACCESS = record { 0 = 0 }

abbrev pub NO_OPERATION : SubgroupOperationSet
NO_OPERATION = record { 0 = 0 }

abbrev pub NO_TYPE_FLAG : TypeFlags
NO_TYPE_FLAG = record { 0 = 0 }
