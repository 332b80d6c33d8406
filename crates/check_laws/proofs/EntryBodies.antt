-- From an accepted entry point to the body of its function.
use Rattle.std.proofs.Common.{◌≡◌, ◌∙◌, ℕ, Bool, true, false, List, Option, None, Some, refl, sym, ap, subst}
use Rattle.std.specs.Prelude.{if◌then◌else◌, slice_get, option_and_then}
use Rattle.ir_flags.specs.declared.valid.GlobalUse.{GlobalUse}
use Rattle.ir_flags.specs.declared.valid.ShaderStages.{ShaderStages}
use Rattle.ir_flags.specs.Bits.{READ, WRITE}
use Rattle.ir_statements.specs.Tree.{Cases, Switch}
use Rattle.ir_module.specs.declared.module.EntryPoint.{EntryPoint}
use Rattle.ir_module.specs.declared.module.MeshStageInfo.{MeshStageInfo}
use Rattle.ir_module.specs.declared.module.Module.{Module}
use Rattle.ir_leaves.specs.declared.stage.ShaderStage.{ShaderStage}
use Rattle.ir_leaves.specs.declared.stage.ShaderStage.TheVariants as stage
use Rattle.ir_facts.specs.declared.valid.info.FunctionInfo.{FunctionInfo}
use Rattle.ir_facts.specs.declared.valid.settings.Settings.{Settings}
use Rattle.ir_types.specs.declared.type_info.TypeInfo.{TypeInfo}
use Rattle.ir_types.specs.Types.{resolved, scalar_kind_of}
use Rattle.ir_types.specs.declared.typifier.TypeResolution.{TypeResolution}
use Rattle.ir_facts.specs.Meaning.{Meaning}
use Rattle.check_variables.specs.AllowedUses.{join}
use Rattle.check_laws.specs.Accepted.{StagesAreOfAll}
use Rattle.check_laws.specs.BodyShapes.{StandsAt, AreWhole}
use Rattle.check_laws.specs.EntryJudgement.{entry_outcome}
use Rattle.check_entry.specs.EntryUses.{with_use_of, output_variable_of, with_own_uses, with_uses_at}
use Rattle.check_entry.specs.EntryVaryings.{are_blend_sources}
use Rattle.check_scope.specs.BodyTrees.{body_of}
use Rattle.check_statement.specs.FunctionJudgement.{FunctionOutcome}
use Rattle.naga_runs.specs.Positions.{Position}
use Rattle.check_laws.specs.EntryBodies.{AcceptedEntryFillsOnce, AcceptedEntryIsOfAllStages, AcceptedEntryHasNoReturnInContinuing, AcceptedEntryHasWholeSwitches}
use Rattle.check_laws.proofs.FunctionLaw.{fills_once, is_of_all_stages, has_no_return_in_continuing, has_whole_switches}
use Rattle.check_laws.proofs.EntryAccepted.{accepted_entry, stages_are}

-- the entry point's own uses leave the types of expressions
types_with_use : (h : Option ℕ) (more : GlobalUse) (info : FunctionInfo) → (with_use_of h more info).expression_types ≡ info.expression_types
types_with_use None more info = refl
types_with_use (Some h) more info = refl

types_with_uses : (at : ShaderStage) (payload : Option ℕ) (mesh : Option MeshStageInfo) (info : FunctionInfo) → (with_uses_at at payload mesh info).expression_types ≡ info.expression_types
types_with_uses stage.Task payload mesh info = types_with_use payload (join READ WRITE) info
types_with_uses stage.Mesh payload mesh info =
    types_with_use (output_variable_of mesh) READ (with_use_of payload READ info) ∙ types_with_use payload READ info
types_with_uses stage.Vertex payload mesh info = refl
types_with_uses stage.Fragment payload mesh info = refl
types_with_uses stage.Compute payload mesh info = refl
types_with_uses stage.RayGeneration payload mesh info = refl
types_with_uses stage.AnyHit payload mesh info = refl
types_with_uses stage.ClosestHit payload mesh info = refl
types_with_uses stage.Miss payload mesh info = refl

types_if : (b : Bool) (info : FunctionInfo) → (if b then record info { dual_source_blending = true } else info).expression_types ≡ info.expression_types
types_if true info = refl
types_if false info = refl

types_are : (below : Meaning) (settings : Settings) (infos : List TypeInfo) (program : Module) (ep : EntryPoint) (function : FunctionOutcome) →
    (entry_outcome below settings infos program ep function).info.expression_types ≡ function.info.expression_types
types_are below settings infos program ep function =
    types_if (are_blend_sources program.types infos ep.function.result) (with_own_uses ep function.info)
    ∙ types_with_uses ep.stage ep.task_payload ep.mesh_info function.info

pub entry_fills_once : AcceptedEntryFillsOnce
entry_fills_once below settings types trace m infos ep outcome e on =
    let k = accepted_entry below settings types trace m infos ep outcome e in
    fills_once below settings types trace m infos ep.function true k.function k.judged on

pub entry_is_of_all_stages : AcceptedEntryIsOfAllStages
entry_is_of_all_stages below settings types trace m infos ep outcome e on =
    let k = accepted_entry below settings types trace m infos ep outcome e in
    let of_all = is_of_all_stages below settings types trace m infos ep.function true k.function k.judged on in
    let same = sym (stages_are below settings types m ep k.function) ∙ ap (λ (o : FunctionOutcome). o.info.available_stages) k.is in
    subst (λ (s : ShaderStages). StagesAreOfAll settings.subgroup_stages infos (body_of ep.function) s) same of_all

pub entry_has_no_return_in_continuing : AcceptedEntryHasNoReturnInContinuing
entry_has_no_return_in_continuing below settings types trace m infos ep outcome e on =
    let k = accepted_entry below settings types trace m infos ep outcome e in
    has_no_return_in_continuing below settings types trace m infos ep.function true k.function k.judged on

pub entry_has_whole_switches : AcceptedEntryHasWholeSwitches
entry_has_whole_switches below settings types trace m infos ep outcome e on =
    let k = accepted_entry below settings types trace m infos ep outcome e in
    let whole = has_whole_switches below settings types trace m infos ep.function true k.function k.judged on in
    let same = sym (types_are below settings types m ep k.function) ∙ ap (λ (o : FunctionOutcome). o.info.expression_types) k.is in
    subst (λ (l : List TypeResolution). (p : Position) (selector : ℕ) (cases : Cases) → StandsAt (body_of ep.function) p (Switch selector cases) →
    AreWhole (option_and_then scalar_kind_of (option_and_then (resolved m.types) (slice_get l selector))) cases) same whole
