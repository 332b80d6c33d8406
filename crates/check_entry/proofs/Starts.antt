-- The points up to the function, where they hold at once.
use Rattle.std.proofs.Common.{◌≡◌, true, Option, None, Some, refl}
use Rattle.std.specs.Prelude.{is_none}
use Rattle.ir_arena.specs.Points.{first_fault}
use Rattle.ir_flags.specs.declared.capabilities.Capabilities.{Capabilities}
use Rattle.ir_module.specs.declared.module.EarlyDepthTest.{EarlyDepthTest}
use Rattle.ir_module.specs.declared.module.EntryPoint.{EntryPoint}
use Rattle.ir_module.specs.declared.module.MeshStageInfo.{MeshStageInfo}
use Rattle.ir_leaves.specs.declared.stage.ShaderStage.{ShaderStage}
use Rattle.ir_leaves.specs.declared.stage.ShaderStage.TheVariants as stage
use Rattle.check_entry.specs.Start.{depth_points, mesh_info_points, needed_by, needed_points, no_mesh_info_points, size_points, start_points}
use Rattle.check_entry.proofs.EntrySteps.{both_pass}

needs_nothing : (capabilities : Capabilities) (needed : Option Capabilities) → is_none needed ≡ true → first_fault (needed_points capabilities needed) ≡ None
needs_nothing capabilities None e = refl
needs_nothing capabilities (Some some) e = cc

no_test : (capabilities : Capabilities) (at : ShaderStage) (test : Option EarlyDepthTest) → is_none test ≡ true → first_fault (depth_points capabilities at test) ≡ None
no_test capabilities at None e = refl
no_test capabilities at (Some test) e = cc

without : (info : Option MeshStageInfo) → is_none info ≡ true → first_fault (no_mesh_info_points info) ≡ None
without None e = refl
without (Some info) e = cc

no_mesh : (at : ShaderStage) (info : Option MeshStageInfo) → is_none (needed_by at) ≡ true → is_none info ≡ true → first_fault (mesh_info_points at info) ≡ None
no_mesh stage.Vertex info n e = without info e
no_mesh stage.Fragment info n e = without info e
no_mesh stage.Compute info n e = without info e
no_mesh stage.Mesh info n e = cc
no_mesh stage.Task info n e = without info e
no_mesh stage.RayGeneration info n e = without info e
no_mesh stage.AnyHit info n e = without info e
no_mesh stage.ClosestHit info n e = without info e
no_mesh stage.Miss info n e = without info e

pub start_all_holds : (capabilities : Capabilities) (ep : EntryPoint) → is_none (needed_by ep.stage) ≡ true → is_none ep.early_depth_test ≡ true →
    first_fault (size_points ep.stage ep.workgroup_size) ≡ None → is_none ep.mesh_info ≡ true → first_fault (start_points capabilities ep) ≡ None
start_all_holds capabilities ep needed test size mesh =
    both_pass (needed_points capabilities (needed_by ep.stage)) _ (needs_nothing capabilities (needed_by ep.stage) needed)
    (both_pass (depth_points capabilities ep.stage ep.early_depth_test) _ (no_test capabilities ep.stage ep.early_depth_test test)
    (both_pass (size_points ep.stage ep.workgroup_size) (mesh_info_points ep.stage ep.mesh_info) size (no_mesh ep.stage ep.mesh_info needed mesh)))
