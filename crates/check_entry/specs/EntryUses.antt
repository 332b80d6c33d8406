-- The step of the payload, and how an entry point itself uses globals, beside what its function does; then its stage.
use Rattle.std.specs.Prelude.{ℕ, Bool, false, List, [], ◌∷◌, Option, None, Some, is_none, slice_get}
use Rattle.std.specs.Option.{option_map}
use Rattle.ir_flags.specs.Bits.{READ, WRITE, VERTEX, FRAGMENT, COMPUTE, MESH, TASK, RAY_GENERATION, ANY_HIT, CLOSEST_HIT, MISS, contains}
use Rattle.ir_facts.specs.Infos.{with_global_use}
use Rattle.ir_module.specs.declared.module.EntryPoint.{EntryPoint}
use Rattle.ir_module.specs.declared.module.GlobalVariable.{GlobalVariable}
use Rattle.ir_module.specs.declared.module.MeshStageInfo.{MeshStageInfo}
use Rattle.ir_leaves.specs.declared.stage.ShaderStage.{ShaderStage}
use Rattle.ir_leaves.specs.declared.stage.ShaderStage.TheVariants as stage
use Rattle.ir_types.specs.declared.types.AddressSpace.{AddressSpace}
use Rattle.ir_flags.specs.declared.valid.GlobalUse.{GlobalUse}
use Rattle.ir_flags.specs.declared.valid.ShaderStages.{ShaderStages}
use Rattle.ir_facts.specs.declared.valid.info.FunctionInfo.{FunctionInfo}
use Rattle.check_variables.specs.AllowedUses.{join}
use Rattle.ir_types.specs.SpaceTests.{is_task_payload}
use Rattle.check_entry.specs.EntryAnswers.{EntryPoints}
use Rattle.check_faults.specs.declared.entry.EntryPointError.TheVariants as fault

-- a global that is there, in a space of which this holds
abbrev pub space_is : (AddressSpace → Bool) → Option GlobalVariable → Bool
space_is test None = false
space_is test (Some g) = test g.space

abbrev pub lies_in : (AddressSpace → Bool) → List GlobalVariable → ℕ → Bool
lies_in test globals h = space_is test (slice_get globals h)

-- a payload lies in its space
abbrev pub place_points : List GlobalVariable → ℕ → EntryPoints
place_points globals h = (lies_in is_task_payload globals h, fault.TaskPayloadWrongAddressSpace) ∷ []

-- the payload that the task stage makes: there has to be one
abbrev pub made_points : List GlobalVariable → Option ℕ → EntryPoints
made_points globals None = (false, fault.ExpectedTaskPayload) ∷ []
made_points globals (Some h) = place_points globals h

-- the payload that the mesh stage takes, if it takes one
abbrev pub taken_points : List GlobalVariable → Option ℕ → EntryPoints
taken_points globals None = []
taken_points globals (Some h) = place_points globals h

-- the payload that other stages don't have
abbrev pub no_payload_points : Option ℕ → EntryPoints
no_payload_points payload = (is_none payload, fault.UnexpectedTaskPayload) ∷ []

-- the task payload: the task stage makes one, the mesh stage may take one, others have none
abbrev pub payload_points : List GlobalVariable → ShaderStage → Option ℕ → EntryPoints
payload_points globals stage.Task payload = made_points globals payload
payload_points globals stage.Mesh payload = taken_points globals payload
payload_points globals stage.Vertex payload = no_payload_points payload
payload_points globals stage.Fragment payload = no_payload_points payload
payload_points globals stage.Compute payload = no_payload_points payload
payload_points globals stage.RayGeneration payload = no_payload_points payload
payload_points globals stage.AnyHit payload = no_payload_points payload
payload_points globals stage.ClosestHit payload = no_payload_points payload
payload_points globals stage.Miss payload = no_payload_points payload

-- an info with this use of a global joined to those that it has, if a global is named
abbrev pub with_use_of : Option ℕ → GlobalUse → FunctionInfo → FunctionInfo
with_use_of None more info = info
with_use_of (Some h) more info = with_global_use info more h

abbrev pub output_variable_of : Option MeshStageInfo → Option ℕ
output_variable_of mesh = option_map (λ m. m.output_variable) mesh

-- the task stage reads and writes its payload; the mesh stage reads its payload and its output variable
abbrev pub with_uses_at : ShaderStage → Option ℕ → Option MeshStageInfo → FunctionInfo → FunctionInfo
with_uses_at stage.Task payload mesh info = with_use_of payload (join READ WRITE) info
with_uses_at stage.Mesh payload mesh info = with_use_of (output_variable_of mesh) READ (with_use_of payload READ info)
with_uses_at stage.Vertex payload mesh info = info
with_uses_at stage.Fragment payload mesh info = info
with_uses_at stage.Compute payload mesh info = info
with_uses_at stage.RayGeneration payload mesh info = info
with_uses_at stage.AnyHit payload mesh info = info
with_uses_at stage.ClosestHit payload mesh info = info
with_uses_at stage.Miss payload mesh info = info

-- the info of an entry point's function, with what the entry point itself does with globals
abbrev pub with_own_uses : EntryPoint → FunctionInfo → FunctionInfo
with_own_uses ep info = with_uses_at ep.stage ep.task_payload ep.mesh_info info

-- a stage, as the set that has it alone
abbrev pub only : ShaderStage → ShaderStages
only stage.Vertex = VERTEX
only stage.Fragment = FRAGMENT
only stage.Compute = COMPUTE
only stage.Mesh = MESH
only stage.Task = TASK
only stage.RayGeneration = RAY_GENERATION
only stage.AnyHit = ANY_HIT
only stage.ClosestHit = CLOSEST_HIT
only stage.Miss = MISS

-- what the function does is for this stage
abbrev pub stage_points : ShaderStage → ShaderStages → EntryPoints
stage_points at stages = (contains stages.0 (only at).0, fault.ForbiddenStageOperations) ∷ []
