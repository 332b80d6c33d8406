-- What is known of an accepted entry point.
use Rattle.std.proofs.Common.{◌≡◌, ℕ, Bool, true, false, List, Option, None, Some, Result, Ok, Err, refl, ◌∙◌}
use Rattle.std.specs.Prelude.{if◌then◌else◌}
use Rattle.ir_flags.specs.Bits.{READ, WRITE}
use Rattle.ir_arena.specs.Points.{first_fault, answer, and_then, within}
use Rattle.ir_module.specs.declared.module.EntryPoint.{EntryPoint}
use Rattle.ir_module.specs.declared.module.MeshStageInfo.{MeshStageInfo}
use Rattle.ir_module.specs.declared.module.Module.{Module}
use Rattle.ir_leaves.specs.declared.stage.ShaderStage.{ShaderStage}
use Rattle.ir_leaves.specs.declared.stage.ShaderStage.TheVariants as stage
use Rattle.ir_flags.specs.declared.valid.GlobalUse.{GlobalUse}
use Rattle.ir_facts.specs.declared.valid.info.FunctionInfo.{FunctionInfo}
use Rattle.ir_facts.specs.declared.valid.info.ModuleInfo.{ModuleInfo}
use Rattle.ir_facts.specs.declared.valid.settings.Settings.{Settings}
use Rattle.ir_types.specs.declared.type_info.TypeInfo.{TypeInfo}
use Rattle.check_variables.specs.AllowedUses.{join}
use Rattle.ir_facts.specs.Meaning.{Meaning}
use Rattle.ir_errors.specs.declared.function.FunctionError.{FunctionError}
use Rattle.check_entry.specs.EntryFaults.{EntryFault, fault_of}
use Rattle.check_laws.specs.EntryJudgement.{entry_judgement, of_function, interface_step, entry_outcome}
use Rattle.check_entry.specs.InterfacePoints.{interface_points}
use Rattle.check_entry.specs.Start.{start_points}
use Rattle.check_entry.specs.EntryUses.{with_use_of, output_variable_of, with_own_uses, with_uses_at}
use Rattle.check_entry.specs.EntryVaryings.{are_blend_sources}
use Rattle.check_statement.specs.FunctionJudgement.{FunctionOutcome, function_judgement}
use Rattle.check_scope.specs.declared.trace.TraceState.{TraceState}

module _ (below : Meaning) (settings : Settings) (infos : List TypeInfo) (trace : TraceState) (program : Module) (earlier : ModuleInfo) (ep : EntryPoint) (outcome : FunctionOutcome) where
  -- its function is accepted, and no point behind it fails
  pub record IsAcceptedEntry : Type 0 where
    pub function : FunctionOutcome
    pub judged : function_judgement below settings infos trace program earlier ep.function true ≡ Ok function
    pub points : first_fault (interface_points below settings infos program ep function.info) ≡ None
    pub is : entry_outcome below settings infos program ep function ≡ outcome

  by_points : (function : FunctionOutcome) → function_judgement below settings infos trace program earlier ep.function true ≡ Ok function →
      (o : Option EntryFault) → first_fault (interface_points below settings infos program ep function.info) ≡ o → answer o (entry_outcome below settings infos program ep function) ≡ Ok outcome → IsAcceptedEntry
  by_points function judged None points e =
      let same : entry_outcome below settings infos program ep function ≡ outcome = cc in
      record { function = function; judged = judged; points = points; is = same }
  by_points function judged (Some f) points e = cc

  by_function : (o : Result FunctionOutcome FunctionError) → function_judgement below settings infos trace program earlier ep.function true ≡ o →
      and_then (of_function o) (λ function. interface_step below settings infos program ep function) ≡ Ok outcome → IsAcceptedEntry
  by_function (Ok function) is e = by_points function is (first_fault (interface_points below settings infos program ep function.info)) refl e
  by_function (Err f) is e = cc

  by_start : (o : Option EntryFault) →
      and_then (answer o ep) (λ _. and_then (of_function (function_judgement below settings infos trace program earlier ep.function true)) (λ function. interface_step below settings infos program ep function)) ≡ Ok outcome → IsAcceptedEntry
  by_start None e = by_function (function_judgement below settings infos trace program earlier ep.function true) refl e
  by_start (Some f) e = cc

  pub accepted_entry : entry_judgement below settings infos trace program earlier ep ≡ Ok outcome → IsAcceptedEntry
  unfolding entry_judgement
  accepted_entry e = by_start (first_fault (within fault_of (start_points settings.capabilities ep))) e

-- the entry point's own uses leave the stages
stages_with_use : (h : Option ℕ) (more : GlobalUse) (info : FunctionInfo) → (with_use_of h more info).available_stages ≡ info.available_stages
stages_with_use None more info = refl
stages_with_use (Some h) more info = refl

stages_with_uses : (at : ShaderStage) (payload : Option ℕ) (mesh : Option MeshStageInfo) (info : FunctionInfo) → (with_uses_at at payload mesh info).available_stages ≡ info.available_stages
stages_with_uses stage.Task payload mesh info = stages_with_use payload (join READ WRITE) info
stages_with_uses stage.Mesh payload mesh info =
    stages_with_use (output_variable_of mesh) READ (with_use_of payload READ info) ∙ stages_with_use payload READ info
stages_with_uses stage.Vertex payload mesh info = refl
stages_with_uses stage.Fragment payload mesh info = refl
stages_with_uses stage.Compute payload mesh info = refl
stages_with_uses stage.RayGeneration payload mesh info = refl
stages_with_uses stage.AnyHit payload mesh info = refl
stages_with_uses stage.ClosestHit payload mesh info = refl
stages_with_uses stage.Miss payload mesh info = refl

stages_if : (b : Bool) (info : FunctionInfo) → (if b then record info { dual_source_blending = true } else info).available_stages ≡ info.available_stages
stages_if true info = refl
stages_if false info = refl

module _ (below : Meaning) (settings : Settings) (infos : List TypeInfo) (program : Module) (ep : EntryPoint) where
  -- so do all of them
  pub stages_are : (function : FunctionOutcome) → (entry_outcome below settings infos program ep function).info.available_stages ≡ function.info.available_stages
  stages_are function =
      stages_if (are_blend_sources program.types infos ep.function.result) (with_own_uses ep function.info)
      ∙ stages_with_uses ep.stage ep.task_payload ep.mesh_info function.info
