-- How the function of an entry point may use a global, by the space that it lies in.
use Rattle.std.specs.Prelude.{Bool, true, false, bit_or, Option, None, Some, if◌then◌else◌}
use Rattle.ir_flags.specs.Bits.{LOAD, STORE, ATOMIC, READ, WRITE, QUERY, ATOMIC_USE, contains}
use Rattle.ir_flags.specs.declared.ir.StorageAccess.{StorageAccess}
use Rattle.ir_leaves.specs.declared.stage.ShaderStage.{ShaderStage}
use Rattle.ir_leaves.specs.declared.stage.ShaderStage.TheVariants as stage
use Rattle.ir_types.specs.declared.types.AddressSpace.{AddressSpace}
use Rattle.ir_types.specs.declared.types.AddressSpace.TheVariants as space
use Rattle.ir_flags.specs.declared.valid.GlobalUse.{GlobalUse}

-- what is in either set
abbrev pub join : GlobalUse → GlobalUse → GlobalUse
join a b = record { 0 = bit_or a.0 b.0 }

-- the use of storage that an access allows beside these, where it has what the use needs
abbrev pub allowed_by : StorageAccess → StorageAccess → GlobalUse → GlobalUse → GlobalUse
allowed_by access needed more uses = if contains access.0 needed.0 then join uses more else uses

-- of storage: queries; reads where it is loaded, writes where it is stored, atomic operations where it is changed so
abbrev pub storage_use : StorageAccess → GlobalUse
storage_use access = allowed_by access ATOMIC ATOMIC_USE (allowed_by access STORE WRITE (allowed_by access LOAD READ QUERY))

-- of a resource: of a storage image by its access, of any other reads and queries
abbrev pub resource_use : Option StorageAccess → GlobalUse
resource_use None = join READ QUERY
resource_use (Some access) = storage_use access

-- of memory that invocations write
abbrev pub memory_use : GlobalUse
memory_use = join (join READ WRITE) QUERY

-- of a task payload: writes at the stage that makes it alone
abbrev pub payload_use : ShaderStage → GlobalUse
payload_use stage.Task = memory_use
payload_use stage.Vertex = join READ QUERY
payload_use stage.Fragment = join READ QUERY
payload_use stage.Compute = join READ QUERY
payload_use stage.Mesh = join READ QUERY
payload_use stage.RayGeneration = join READ QUERY
payload_use stage.AnyHit = join READ QUERY
payload_use stage.ClosestHit = join READ QUERY
payload_use stage.Miss = join READ QUERY

-- the stages that trace rays, and hand them a payload
abbrev pub hands_payload : ShaderStage → Bool
hands_payload stage.RayGeneration = true
hands_payload stage.ClosestHit = true
hands_payload stage.Miss = true
hands_payload stage.Vertex = false
hands_payload stage.Fragment = false
hands_payload stage.Compute = false
hands_payload stage.Mesh = false
hands_payload stage.Task = false
hands_payload stage.AnyHit = false

-- the stages that a ray comes to with a payload
abbrev pub takes_payload : ShaderStage → Bool
takes_payload stage.AnyHit = true
takes_payload stage.ClosestHit = true
takes_payload stage.Miss = true
takes_payload stage.Vertex = false
takes_payload stage.Fragment = false
takes_payload stage.Compute = false
takes_payload stage.Mesh = false
takes_payload stage.Task = false
takes_payload stage.RayGeneration = false

-- a use, where there is one at all
abbrev pub only_if : Bool → GlobalUse → Option GlobalUse
only_if holds uses = if holds then Some uses else None

-- what a global in a space may be used for at a stage, where it may be there at all; the access is that of a storage image,
-- or of a binding array of such images, and is read in space Handle alone
abbrev pub allowed_use : AddressSpace → Option StorageAccess → ShaderStage → Option GlobalUse
allowed_use space.Function storage at = None
allowed_use space.Private storage at = Some memory_use
allowed_use space.WorkGroup storage at = Some memory_use
allowed_use space.Uniform storage at = Some (join READ QUERY)
allowed_use (space.Storage access) storage at = Some (storage_use access)
allowed_use space.Handle storage at = Some (resource_use storage)
allowed_use space.Immediate storage at = Some READ
allowed_use space.TaskPayload storage at = Some (payload_use at)
allowed_use space.RayPayload storage at = only_if (hands_payload at) memory_use
allowed_use space.IncomingRayPayload storage at = only_if (takes_payload at) memory_use
