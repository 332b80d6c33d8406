-- The step of the mesh: its output variable, what the type of that implies, and the outputs of its vertices and primitives.
use Rattle.std.specs.Prelude.{ℕ, Bool, true, false, not, ◌||◌, List, [], ◌∷◌, ◌++◌, Option, None, Some, get_or, slice_get}
use Rattle.ir_flags.specs.Capabilities.{MESH_SHADER_POINT_TOPOLOGY, has_capability}
use Rattle.ir_arena.specs.Points.{Point, within}
use Rattle.ir_types.specs.TypeTests.{is_handle}
use Rattle.ir_module.specs.contracts.module.MeshStageInfoPartialEq.TheImpl as mesh_info
use Rattle.ir_module.specs.declared.expressions.Expression.{Expression}
use Rattle.ir_module.specs.declared.expressions.Expression.TheVariants as e
use Rattle.ir_module.specs.declared.module.EntryPoint.{EntryPoint}
use Rattle.ir_module.specs.declared.module.MeshOutputTopology.{MeshOutputTopology}
use Rattle.ir_module.specs.declared.module.MeshOutputTopology.TheVariants.{Points}
use Rattle.ir_module.specs.declared.module.MeshStageInfo.{MeshStageInfo}
use Rattle.ir_module.specs.declared.module.Module.{Module}
use Rattle.ir_flags.specs.declared.capabilities.Capabilities.{Capabilities}
use Rattle.ir_facts.specs.declared.valid.settings.Settings.{Settings}
use Rattle.ir_types.specs.declared.type_info.TypeInfo.{TypeInfo}
use Rattle.ir_facts.specs.Meaning.{Meaning}
use Rattle.ir_facts.specs.declared.proc.mesh.MeshAnalysis.{MeshAnalysis}
use Rattle.ir_errors.specs.declared.mesh.MeshFault.{MeshFault}
use Rattle.ir_errors.specs.declared.mesh.MeshFault.TheVariants.{OutputType, OutputField}
use Rattle.check_entry.specs.EntryFaults.{EntryFault, fault_of}
use Rattle.check_entry.specs.EntryAnswers.{EntryPoints}
use Rattle.ir_types.specs.SpaceTests.{is_work_group}
use Rattle.check_entry.specs.EntryUses.{lies_in}
use Rattle.check_entry.specs.EntryVaryings.{outputs_points}
use Rattle.check_faults.specs.declared.entry.EntryPointError.{EntryPointError}
use Rattle.check_faults.specs.declared.entry.EntryPointError.TheVariants as fault

-- what is wrong with the output variable, as a fault of the entry point
abbrev pub mesh_error : MeshFault → EntryPointError
mesh_error OutputType = fault.BadMeshOutputVariableType
mesh_error OutputField = fault.BadMeshOutputVariableField

abbrev pub analysis_points : Option MeshFault → EntryPoints
analysis_points None = []
analysis_points (Some found) = (false, mesh_error found) ∷ []

-- the override that a global expression is, if it is one
abbrev pub if_override : Option Expression → Option ℕ
if_override (Some (e.Override h)) = Some h
if_override _ = None

abbrev pub override_at : List Expression → Option ℕ → Option ℕ
override_at expressions None = None
override_at expressions (Some h) = if_override (slice_get expressions h)

-- an override that is named is the one that the type implies
abbrev pub is_implied : Option ℕ → Option ℕ → Bool
is_implied implied None = true
is_implied implied (Some named) = is_handle named implied

-- what the type implies, with the two overrides that the entry point names
abbrev pub with_overrides_of : MeshStageInfo → MeshStageInfo → MeshStageInfo
with_overrides_of mesh implied =
    record implied { max_vertices_override = mesh.max_vertices_override; max_primitives_override = mesh.max_primitives_override }

abbrev pub is_same_mesh : MeshStageInfo → MeshStageInfo → Bool
is_same_mesh a b = (mesh_info.ghosts).eq a b

abbrev pub is_points : MeshOutputTopology → Bool
is_points Points = true
is_points _ = false

-- the output variable lies in a work group
abbrev pub variable_points : Module → MeshStageInfo → EntryPoints
variable_points program mesh =
    (lies_in is_work_group program.global_variables mesh.output_variable, fault.WrongMeshOutputAddressSpace) ∷ []

-- the target has the topology
abbrev pub has_topology : Capabilities → MeshOutputTopology → Bool
has_topology capabilities topology = not (is_points topology) || has_capability capabilities MESH_SHADER_POINT_TOPOLOGY

-- what is stated of the mesh, where this is implied, with these overrides of its two numbers: just that; and where it is one
-- of points, the target has these
abbrev pub stated_points : Capabilities → Module → List (Option ℕ) → MeshStageInfo → MeshStageInfo → EntryPoints
stated_points capabilities program overrides implied mesh = (
  is_implied (get_or overrides 0 None) (override_at program.global_expressions mesh.max_vertices_override),
  fault.BadMeshOutputVariableType,
)
    ∷ (
      is_implied (get_or overrides 1 None) (override_at program.global_expressions mesh.max_primitives_override),
      fault.BadMeshOutputVariableType,
    )
    ∷ (is_same_mesh (with_overrides_of mesh implied) mesh, fault.BadMeshOutputVariableType)
    ∷ (has_topology capabilities mesh.topology, fault.UnsupportedCapability MESH_SHADER_POINT_TOPOLOGY)
    ∷ []

-- what the output variable of the mesh implies, where the lower layer finds this out about it
abbrev pub implied_points : Capabilities → Module → MeshAnalysis → MeshStageInfo → EntryPoints
implied_points capabilities program analysis mesh =
    analysis_points analysis.fault ++ stated_points capabilities program analysis.overrides analysis.implied mesh

-- the whole mesh
abbrev pub mesh_points : Meaning → Settings → List TypeInfo → Module → EntryPoint → Option MeshStageInfo → List (Point EntryFault)
mesh_points below settings infos program ep None = []
mesh_points below settings infos program ep (Some mesh) =
    within fault_of (variable_points program mesh)
    ++ (within fault_of (implied_points settings.capabilities program (below.mesh_analysis program mesh.output_variable) mesh)
    ++ outputs_points settings program.types infos ep mesh.vertex_output_type mesh.primitive_output_type)
