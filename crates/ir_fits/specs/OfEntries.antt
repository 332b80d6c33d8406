-- The misfits of an entry point besides those of its function.
use Rattle.std.specs.Prelude.{ℕ, Bool, true, false, [], ◌∷◌, ◌++◌, Option, None, Some, length}
use Rattle.ir_types.specs.declared.types.AddressSpace.{AddressSpace}
use Rattle.ir_types.specs.declared.types.AddressSpace.TheVariants as space
use Rattle.ir_module.specs.declared.module.GlobalVariable.{GlobalVariable}
use Rattle.ir_module.specs.declared.module.MeshStageInfo.{MeshStageInfo}
use Rattle.ir_module.specs.declared.module.EntryPoint.{EntryPoint}
use Rattle.ir_module.specs.declared.module.Module.{Module}
use Rattle.ir_arena.specs.Points.{points_of_each}
use Rattle.ir_misfits.specs.declared.misfit.EntryField.TheVariants as field
use Rattle.ir_misfits.specs.declared.misfit.VariableField.TheVariants.{Space}
use Rattle.ir_misfits.specs.declared.misfit.Place.TheVariants as place
use Rattle.ir_misfits.specs.declared.misfit.HandleOf.TheVariants as handle
use Rattle.ir_misfits.specs.declared.misfit.Problem.TheVariants.{InFunctionSpace}
use Rattle.ir_misfits.specs.MisfitPoints.{MisfitPoints, named, named_if}

-- what entry point k says of its mesh: the overrides, the types and the variable are there
abbrev pub mesh_points : Module → ℕ → MeshStageInfo → MisfitPoints
mesh_points m k i =
    named_if (place.InEntryPoint k field.MaxVerticesOverride) handle.GlobalExpressions (length m.global_expressions)
    i.max_vertices_override
    ++ (named_if (place.InEntryPoint k field.MaxPrimitivesOverride) handle.GlobalExpressions (length m.global_expressions)
    i.max_primitives_override
    ++ (named (place.InEntryPoint k field.VertexOutputType) handle.Types (length m.types) i.vertex_output_type
    ∷ named (place.InEntryPoint k field.PrimitiveOutputType) handle.Types (length m.types) i.primitive_output_type
    ∷ named (place.InEntryPoint k field.OutputVariable) handle.GlobalVariables (length m.global_variables) i.output_variable
    ∷ []))

abbrev pub mesh_points_if : Module → ℕ → Option MeshStageInfo → MisfitPoints
mesh_points_if m k None = []
mesh_points_if m k (Some i) = mesh_points m k i

-- a space other than Function
abbrev pub is_of_module : AddressSpace → Bool
is_of_module space.Function = false
is_of_module space.Private = true
is_of_module space.WorkGroup = true
is_of_module space.Uniform = true
is_of_module (space.Storage access) = true
is_of_module space.Handle = true
is_of_module space.Immediate = true
is_of_module space.TaskPayload = true
is_of_module space.RayPayload = true
is_of_module space.IncomingRayPayload = true

-- a global doesn't lie in the space Function
abbrev pub space_points : ℕ → GlobalVariable → MisfitPoints
space_points k g = (is_of_module g.space, record { place = place.InGlobal k Space; problem = InFunctionSpace }) ∷ []

-- entry point k: its payload; its mesh; and no global lies in the space Function
abbrev pub entry_points : ℕ → EntryPoint → Module → MisfitPoints
entry_points k p m =
    named_if (place.InEntryPoint k field.TaskPayload) handle.GlobalVariables (length m.global_variables) p.task_payload
    ++ (mesh_points_if m k p.mesh_info ++ points_of_each space_points m.global_variables)
