-- Tests of address spaces: each is for one space, by its name.
use Rattle.std.specs.Prelude.{Bool, true, false}
use Rattle.ir_types.specs.declared.types.AddressSpace.{AddressSpace}
use Rattle.ir_types.specs.declared.types.AddressSpace.TheVariants as space

-- the space of work groups: memory that the invocations of one work group share
abbrev pub is_work_group : AddressSpace → Bool
is_work_group space.Function = false
is_work_group space.Private = false
is_work_group space.WorkGroup = true
is_work_group space.Uniform = false
is_work_group (space.Storage access) = false
is_work_group space.Handle = false
is_work_group space.Immediate = false
is_work_group space.TaskPayload = false
is_work_group space.RayPayload = false
is_work_group space.IncomingRayPayload = false

-- the space of immediates, also known as push constants: a few values that come with the commands, in no buffer
abbrev pub is_immediate : AddressSpace → Bool
is_immediate space.Function = false
is_immediate space.Private = false
is_immediate space.WorkGroup = false
is_immediate space.Uniform = false
is_immediate (space.Storage access) = false
is_immediate space.Handle = false
is_immediate space.Immediate = true
is_immediate space.TaskPayload = false
is_immediate space.RayPayload = false
is_immediate space.IncomingRayPayload = false

-- the space of task payloads: what a work group of the task stage hands to the mesh work groups that it starts
abbrev pub is_task_payload : AddressSpace → Bool
is_task_payload space.Function = false
is_task_payload space.Private = false
is_task_payload space.WorkGroup = false
is_task_payload space.Uniform = false
is_task_payload (space.Storage access) = false
is_task_payload space.Handle = false
is_task_payload space.Immediate = false
is_task_payload space.TaskPayload = true
is_task_payload space.RayPayload = false
is_task_payload space.IncomingRayPayload = false

-- the space of storage, whatever may be done there
abbrev pub is_storage : AddressSpace → Bool
is_storage space.Function = false
is_storage space.Private = false
is_storage space.WorkGroup = false
is_storage space.Uniform = false
is_storage (space.Storage access) = true
is_storage space.Handle = false
is_storage space.Immediate = false
is_storage space.TaskPayload = false
is_storage space.RayPayload = false
is_storage space.IncomingRayPayload = false
