-- From an accepted entry point to its function.
use Rattle.std.proofs.Common.{◌≡◌, ◌++◌, ◌∙◌, ℕ, true, List, [], Option, None, Some, refl, sym, subst, arith}
use Rattle.std.proofs.lemmas.Bool.Decides.{nat_tests}
use Rattle.std.proofs.lemmas.Nat.{and_comm}
use Rattle.std.specs.Int.RustNames.{bit_and}
use Rattle.std.specs.Option.{option_map}
use Rattle.ir_arena.proofs.Points.{first_holds, both_hold, first_within}
use Rattle.ir_flags.specs.Bits.{contains}
use Rattle.ir_arena.specs.Points.{first_fault, within}
use Rattle.ir_module.specs.declared.module.EntryPoint.{EntryPoint}
use Rattle.ir_module.specs.declared.module.MeshStageInfo.{MeshStageInfo}
use Rattle.ir_module.specs.declared.module.Module.{Module}
use Rattle.ir_leaves.specs.declared.stage.ShaderStage.{ShaderStage}
use Rattle.ir_leaves.specs.declared.stage.ShaderStage.TheVariants as stage
use Rattle.ir_flags.specs.declared.valid.GlobalUse.{GlobalUse}
use Rattle.ir_flags.specs.declared.valid.ShaderStages.{ShaderStages}
use Rattle.ir_facts.specs.declared.valid.info.FunctionInfo.{FunctionInfo}
use Rattle.ir_facts.specs.declared.valid.settings.Settings.{Settings}
use Rattle.ir_types.specs.declared.type_info.TypeInfo.{TypeInfo}
use Rattle.ir_facts.specs.Meaning.{Meaning}
use Rattle.check_laws.specs.Accepted.{AreAmong}
use Rattle.check_entry.specs.EntryFaults.{fault_of}
use Rattle.check_entry.specs.InterfacePoints.{used_points, interface_points}
use Rattle.check_laws.specs.EntryChains.{AcceptedEntryIsSound, AcceptedEntryKeepsItsStage}
use Rattle.check_entry.specs.UsedGlobals.{globals_points}
use Rattle.check_entry.specs.Mesh.{mesh_points}
use Rattle.check_entry.specs.EntryUses.{only, stage_points, payload_points, with_use_of, with_uses_at, with_own_uses, output_variable_of}
use Rattle.check_entry.specs.EntryVaryings.{argument_points, result_points}
use Rattle.check_faults.specs.declared.entry.EntryPointError.TheVariants as fault
use Rattle.check_laws.proofs.Chains.{chains_are_kept}
use Rattle.check_laws.proofs.EntryAccepted.{accepted_entry}
use Rattle.check_laws.proofs.FunctionLaw.{is_sound}

-- stages

same_number : (a b : ℕ) → Rattle.std.specs.Prelude.nat_eq a b ≡ true → a ≡ b
same_number a b h = grind (arith, nat_tests)

-- what a set has is among it
among_from_contains : (all some : ShaderStages) → contains all.0 some.0 ≡ true → AreAmong some all
among_from_contains all some h i = record { 0 = (and_comm some.0 all.0 ∙ same_number (bit_and all.0 some.0) some.0 h) i }

-- uses of globals leave the stages
use_keeps : (o : Option ℕ) (more : GlobalUse) (info : FunctionInfo) → (with_use_of o more info).available_stages ≡ info.available_stages
use_keeps None more info = refl
use_keeps (Some h) more info = refl

uses_keep : (at : ShaderStage) (payload : Option ℕ) (mesh : Option MeshStageInfo) (info : FunctionInfo) → (with_uses_at at payload mesh info).available_stages ≡ info.available_stages
uses_keep stage.Task payload mesh info = use_keeps payload _ info
uses_keep stage.Mesh payload mesh info = use_keeps (output_variable_of mesh) _ (with_use_of payload _ info) ∙ use_keeps payload _ info
uses_keep _ payload mesh info = refl

none_within : {Inner Outer : Type 0} (o : Option Inner) (make : Inner → Outer) → option_map make o ≡ None → o ≡ None
none_within None make h = refl
none_within (Some x) make h = cc

module _ (below : Meaning) (settings : Settings) (types : List TypeInfo) (m : Module) (ep : EntryPoint) where
  -- where no point behind the function fails, that of the stage doesn't
  stage_holds : (info : FunctionInfo) → first_fault (interface_points below settings types m ep info) ≡ None → AreAmong (only ep.stage) info.available_stages
  stage_holds info e =
      let behind = (both_hold (within fault_of (payload_points m.global_variables ep.stage ep.task_payload)) (used_points below settings types m ep (with_own_uses ep info)) e).1 in
      let stages = (with_own_uses ep info).available_stages in
      let rest =
      argument_points settings m.types types ep
      ++ (result_points settings m.types types ep
      ++ (within fault_of (globals_points below settings.flags m ep (with_own_uses ep info).global_uses)
      ++ mesh_points below settings types m ep ep.mesh_info)) in
      let first = (both_hold (within fault_of (stage_points ep.stage stages)) rest behind).0 in
      let points = none_within (first_fault (stage_points ep.stage stages)) fault_of (sym (first_within fault_of (stage_points ep.stage stages)) ∙ first) in
      let held = (first_holds (contains stages.0 (only ep.stage).0) fault.ForbiddenStageOperations [] points).0 in
      subst (λ (s : ShaderStages). AreAmong (only ep.stage) s) (uses_keep ep.stage ep.task_payload ep.mesh_info info) (among_from_contains stages (only ep.stage) held)

pub entry_is_sound : AcceptedEntryIsSound
entry_is_sound below settings types trace m infos ep outcome e on =
    let known = accepted_entry below settings types trace m infos ep outcome e in
    is_sound below settings types trace m infos ep.function true known.function known.judged on

pub entry_keeps_its_stage : AcceptedEntryKeepsItsStage
entry_keeps_its_stage below settings types trace m infos ep outcome e on vetted calls =
    let known = accepted_entry below settings types trace m infos ep outcome e in
    chains_are_kept below settings types trace m infos ep.function true known.function (only ep.stage) known.judged on vetted calls
    (stage_holds below settings types m ep known.function.info known.points)
