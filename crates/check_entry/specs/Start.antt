-- The check list of an entry point up to its function: what its stage needs, the early depth test, the size of a work group,
-- and whether something is said of a mesh. These are answered without memory.
use Rattle.std.specs.Prelude.{ℕ, Bool, true, false, ◌&&◌, ◌==◌, nat_le, List, [], ◌∷◌, ◌++◌, Option, None, Some, is_none, is_some, if◌then◌else◌}
use Rattle.std.specs.List.{list_all}
use Rattle.ir_flags.specs.Capabilities.{MESH_SHADER, RAY_TRACING_PIPELINE, EARLY_DEPTH_TEST, has_capability}
use Rattle.ir_module.specs.declared.module.EarlyDepthTest.{EarlyDepthTest}
use Rattle.ir_module.specs.declared.module.EntryPoint.{EntryPoint}
use Rattle.ir_module.specs.declared.module.MeshStageInfo.{MeshStageInfo}
use Rattle.ir_leaves.specs.declared.stage.ShaderStage.{ShaderStage}
use Rattle.ir_leaves.specs.declared.stage.ShaderStage.TheVariants as stage
use Rattle.ir_flags.specs.declared.capabilities.Capabilities.{Capabilities}
use Rattle.ir_errors.specs.declared.interface.VaryingError.TheVariants as varying
use Rattle.check_entry.specs.EntryAnswers.{EntryPoints}
use Rattle.check_faults.specs.declared.entry.EntryPointError.TheVariants as fault

-- what the target must have for a stage
abbrev pub needed_by : ShaderStage → Option Capabilities
needed_by stage.Task = Some MESH_SHADER
needed_by stage.Mesh = Some MESH_SHADER
needed_by stage.RayGeneration = Some RAY_TRACING_PIPELINE
needed_by stage.AnyHit = Some RAY_TRACING_PIPELINE
needed_by stage.ClosestHit = Some RAY_TRACING_PIPELINE
needed_by stage.Miss = Some RAY_TRACING_PIPELINE
needed_by stage.Vertex = None
needed_by stage.Fragment = None
needed_by stage.Compute = None

abbrev pub needed_points : Capabilities → Option Capabilities → EntryPoints
needed_points capabilities None = []
needed_points capabilities (Some some) = (has_capability capabilities some, fault.UnsupportedCapability some) ∷ []

abbrev pub is_fragment : ShaderStage → Bool
is_fragment stage.Fragment = true
is_fragment _ = false

-- an early depth test, if one is asked for: the target has them, and the stage is the fragment's
abbrev pub depth_points : Capabilities → ShaderStage → Option EarlyDepthTest → EntryPoints
depth_points capabilities at None = []
depth_points capabilities at (Some test) =
    (has_capability capabilities EARLY_DEPTH_TEST, fault.Result (varying.UnsupportedCapability EARLY_DEPTH_TEST))
    ∷ (is_fragment at, fault.UnexpectedEarlyDepthTest)
    ∷ []

-- the stages that run in work groups
abbrev pub has_work_groups : ShaderStage → Bool
has_work_groups stage.Compute = true
has_work_groups stage.Task = true
has_work_groups stage.Mesh = true
has_work_groups stage.Vertex = false
has_work_groups stage.Fragment = false
has_work_groups stage.RayGeneration = false
has_work_groups stage.AnyHit = false
has_work_groups stage.ClosestHit = false
has_work_groups stage.Miss = false

-- from 1 to 16384 invocations
abbrev pub is_group_size : ℕ → Bool
is_group_size n = nat_le 1 n && nat_le n 16384

abbrev pub is_zero : ℕ → Bool
is_zero n = n == 0

-- the invocations of a work group along each dimension; 0 at a stage without work groups
abbrev pub size_points : ShaderStage → List ℕ → EntryPoints
size_points at size =
    if has_work_groups at
    then (list_all is_group_size size, fault.OutOfRangeWorkgroupSize) ∷ []
    else (list_all is_zero size, fault.UnexpectedWorkgroupSize) ∷ []

-- no claim is made about a mesh
abbrev pub no_mesh_info_points : Option MeshStageInfo → EntryPoints
no_mesh_info_points info = (is_none info, fault.UnexpectedMeshShaderAttributes) ∷ []

-- what is said of a mesh: something at the mesh stage, nothing at others
abbrev pub mesh_info_points : ShaderStage → Option MeshStageInfo → EntryPoints
mesh_info_points stage.Mesh info = (is_some info, fault.ExpectedMeshShaderAttributes) ∷ []
mesh_info_points stage.Vertex info = no_mesh_info_points info
mesh_info_points stage.Fragment info = no_mesh_info_points info
mesh_info_points stage.Compute info = no_mesh_info_points info
mesh_info_points stage.Task info = no_mesh_info_points info
mesh_info_points stage.RayGeneration info = no_mesh_info_points info
mesh_info_points stage.AnyHit info = no_mesh_info_points info
mesh_info_points stage.ClosestHit info = no_mesh_info_points info
mesh_info_points stage.Miss info = no_mesh_info_points info

abbrev pub start_points : Capabilities → EntryPoint → EntryPoints
start_points capabilities ep =
    needed_points capabilities (needed_by ep.stage)
    ++ (depth_points capabilities ep.stage ep.early_depth_test
    ++ (size_points ep.stage ep.workgroup_size
    ++ mesh_info_points ep.stage ep.mesh_info))
