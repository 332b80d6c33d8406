-- What the points of entry points ask for is that they fit.
use Rattle.std.proofs.Common.{◌≡◌, ◌≢◌, ◌<◌, ◌↔◌, ℕ, true, [], ◌∷◌, ◌++◌, All, Option, Some, None, length, refl}
use Rattle.std.specs.Prelude.{IfSome}
use Rattle.ir_types.specs.declared.types.AddressSpace.{AddressSpace}
use Rattle.ir_types.specs.declared.types.AddressSpace.TheVariants as space
use Rattle.ir_module.specs.declared.module.EntryPoint.{EntryPoint}
use Rattle.ir_module.specs.declared.module.GlobalVariable.{GlobalVariable}
use Rattle.ir_module.specs.declared.module.MeshStageInfo.{MeshStageInfo}
use Rattle.ir_module.specs.declared.module.Module.{Module}
use Rattle.ir_facts.specs.Fits.{FitsEntry, MeshFits}
use Rattle.ir_arena.specs.Points.{points_of_each}
use Rattle.ir_misfits.specs.declared.misfit.EntryField.TheVariants as entry_field
use Rattle.ir_misfits.specs.declared.misfit.HandleOf.TheVariants as handle
use Rattle.ir_misfits.specs.declared.misfit.Place.TheVariants as place
use Rattle.ir_misfits.specs.declared.misfit.Problem.TheVariants as problem
use Rattle.ir_misfits.specs.declared.misfit.VariableField.TheVariants as field
use Rattle.ir_misfits.specs.MisfitPoints.{MisfitPoints, named, named_if}
use Rattle.ir_fits.specs.OfEntries.{mesh_points, mesh_points_if, is_of_module, space_points, entry_points}
use Rattle.ir_misfits.proofs.Exact.{Exact, nothing, said, point_alone, named_then, named_alone, named_if_alone, both, all_exact}

mesh_exact : (m : Module) (k : ℕ) (i : MeshStageInfo) → Exact (mesh_points m k i) (MeshFits m i)
mesh_exact m k i =
    let n = length m.global_expressions in
    let t = length m.types in
    let g = length m.global_variables in
    let vertices = place.InEntryPoint k entry_field.MaxVerticesOverride in
    let primitives = place.InEntryPoint k entry_field.MaxPrimitivesOverride in
    let vertex_type = place.InEntryPoint k entry_field.VertexOutputType in
    let primitive_type = place.InEntryPoint k entry_field.PrimitiveOutputType in
    let variable = place.InEntryPoint k entry_field.OutputVariable in
    let P1 : Type 0 = IfSome i.max_vertices_override (λ h. h < n) in
    let P2 : Type 0 = IfSome i.max_primitives_override (λ h. h < n) in
    let P3 : Type 0 = i.vertex_output_type < t in
    let P4 : Type 0 = i.primitive_output_type < t in
    let P5 : Type 0 = i.output_variable < g in
    let ps1 = named_if vertices handle.GlobalExpressions n i.max_vertices_override in
    let ps2 = named_if primitives handle.GlobalExpressions n i.max_primitives_override in
    let ps5 : MisfitPoints = named variable handle.GlobalVariables g i.output_variable ∷ [] in
    let ps4 : MisfitPoints = named primitive_type handle.Types t i.primitive_output_type ∷ ps5 in
    let ps3 : MisfitPoints = named vertex_type handle.Types t i.vertex_output_type ∷ ps4 in
    let e5 = named_alone variable handle.GlobalVariables g i.output_variable in
    let e4 = named_then primitive_type handle.Types t i.primitive_output_type ps5 P5 e5 in
    let e3 = named_then vertex_type handle.Types t i.vertex_output_type ps4 (P4 × P5) e4 in
    let e2 = both ps2 ps3 P2 (P3 × (P4 × P5)) (named_if_alone primitives handle.GlobalExpressions n i.max_primitives_override) e3 in
    said
    (λ h. record { vertices = h.0; primitives = h.1.0; vertex_type = h.1.1.0; primitive_type = h.1.1.1.0; variable = h.1.1.1.1 })
    (λ f. (f.vertices, (f.primitives, (f.vertex_type, (f.primitive_type, f.variable)))))
    (both ps1 (ps2 ++ ps3) P1 (P2 × (P3 × (P4 × P5))) (named_if_alone vertices handle.GlobalExpressions n i.max_vertices_override) e2)

mesh_if_exact : (m : Module) (k : ℕ) (o : Option MeshStageInfo) → Exact (mesh_points_if m k o) (IfSome o (MeshFits m))
mesh_if_exact m k None = nothing
mesh_if_exact m k (Some i) = mesh_exact m k i

of_module : (s : AddressSpace) → (is_of_module s ≡ true) ↔ (s ≢ space.Function)
of_module space.Function = (λ e. cc, λ h. absurd (h refl))
of_module space.Handle = (λ e same. cc, λ h. refl)
of_module space.Private = (λ e same. cc, λ h. refl)
of_module space.WorkGroup = (λ e same. cc, λ h. refl)
of_module space.Uniform = (λ e same. cc, λ h. refl)
of_module (space.Storage access) = (λ e same. cc, λ h. refl)
of_module space.Immediate = (λ e same. cc, λ h. refl)
of_module space.TaskPayload = (λ e same. cc, λ h. refl)
of_module space.RayPayload = (λ e same. cc, λ h. refl)
of_module space.IncomingRayPayload = (λ e same. cc, λ h. refl)

pub entry_exact : (k : ℕ) (p : EntryPoint) (m : Module) → Exact (entry_points k p m) (FitsEntry p m)
entry_exact k p m =
    let g = length m.global_variables in
    let payload = place.InEntryPoint k entry_field.TaskPayload in
    let P1 : Type 0 = IfSome p.task_payload (λ h. h < g) in
    let P2 : Type 0 = IfSome p.mesh_info (MeshFits m) in
    let P3 : Type 0 = All (λ x. x.space ≢ space.Function) m.global_variables in
    let ps1 = named_if payload handle.GlobalVariables g p.task_payload in
    let ps2 = mesh_points_if m k p.mesh_info in
    let ps3 = points_of_each space_points m.global_variables in
    let each : (j : ℕ) (x : GlobalVariable) → Exact (space_points j x) (x.space ≢ space.Function) =
    λ j x. point_alone (is_of_module x.space) (record { place = place.InGlobal j field.Space; problem = problem.InFunctionSpace }) (x.space ≢ space.Function) (of_module x.space).0 (of_module x.space).1 in
    let e3 = all_exact (λ x. x.space ≢ space.Function) space_points each m.global_variables in
    said (λ h. record { payload = h.0; mesh = h.1.0; spaces = h.1.1 }) (λ f. (f.payload, (f.mesh, f.spaces)))
    (both ps1 (ps2 ++ ps3) P1 (P2 × P3) (named_if_alone payload handle.GlobalVariables g p.task_payload) (both ps2 ps3 P2 P3 (mesh_if_exact m k p.mesh_info) e3))
