-- The steps after the function: a refusal at one of them, behind those that pass, is one of the whole.
use Rattle.std.proofs.Common.{◌≡◌, List, None, Result, ◌++◌}
use Rattle.std.specs.Prelude.{IsErr}
use Rattle.ir_arena.specs.Points.{Point, first_fault, within}
use Rattle.ir_module.specs.declared.module.EntryPoint.{EntryPoint}
use Rattle.ir_module.specs.declared.module.Module.{Module}
use Rattle.ir_arena.specs.declared.span.Refusal.{Refusal}
use Rattle.ir_facts.specs.declared.valid.info.FunctionInfo.{FunctionInfo}
use Rattle.ir_facts.specs.declared.valid.settings.Settings.{Settings}
use Rattle.ir_types.specs.declared.type_info.TypeInfo.{TypeInfo}
use Rattle.ir_facts.specs.Answers.{Answers, FirstOf, read_by}
use Rattle.ir_facts.specs.Meaning.{Meaning}
use Rattle.check_entry.specs.EntryFaults.{EntryFault, fault_of}
use Rattle.check_entry.specs.InterfacePoints.{used_points}
use Rattle.check_entry.specs.EntryUses.{stage_points}
use Rattle.check_entry.specs.EntryVaryings.{argument_points, result_points}
use Rattle.check_entry.specs.Mesh.{mesh_points}
use Rattle.check_entry.specs.UsedGlobals.{globals_points}
use Rattle.check_faults.specs.declared.entry.EntryPointError.{EntryPointError}
use Rattle.ir_facts.proofs.Refusals.{refuses_first, refuses_second, stays_refused}

module _ (below : Meaning) (settings : Settings) (infos : List TypeInfo) (program : Module) (ep : EntryPoint) (info : FunctionInfo) where
  abbrev pub stage : List (Point EntryFault)
  stage = within fault_of (stage_points ep.stage info.available_stages)

  abbrev pub arguments : List (Point EntryFault)
  arguments = argument_points settings program.types infos ep

  abbrev pub returned : List (Point EntryFault)
  returned = result_points settings program.types infos ep

  abbrev pub globals : List (Point EntryFault)
  globals = within fault_of (globals_points below settings.flags program ep info.global_uses)

  abbrev pub mesh : List (Point EntryFault)
  mesh = mesh_points below settings infos program ep ep.mesh_info

  module _ {T : Type 0} (r : Result T (Refusal EntryPointError)) where
    abbrev pub Judges : List (Point EntryFault) → Type 0
    Judges points = Answers (FirstOf points) (read_by fault_of r)

    pub at_stage : IsErr r → Judges stage → Judges (used_points below settings infos program ep info)
    at_stage err here = refuses_first (read_by fault_of r) stage (arguments ++ (returned ++ (globals ++ mesh))) (stays_refused fault_of r err) here

    module _ (no_stage : first_fault stage ≡ None) where
      pub at_arguments : IsErr r → Judges arguments → Judges (used_points below settings infos program ep info)
      at_arguments err here =
          refuses_second (read_by fault_of r) stage (arguments ++ (returned ++ (globals ++ mesh))) no_stage
          (refuses_first (read_by fault_of r) arguments (returned ++ (globals ++ mesh)) (stays_refused fault_of r err) here)

      module _ (no_arguments : first_fault arguments ≡ None) where
        pub at_result : IsErr r → Judges returned → Judges (used_points below settings infos program ep info)
        at_result err here =
            refuses_second (read_by fault_of r) stage (arguments ++ (returned ++ (globals ++ mesh))) no_stage
            (refuses_second (read_by fault_of r) arguments (returned ++ (globals ++ mesh)) no_arguments (refuses_first (read_by fault_of r) returned (globals ++ mesh) (stays_refused fault_of r err) here))

        module _ (no_returned : first_fault returned ≡ None) where
          pub at_globals : IsErr r → Judges globals → Judges (used_points below settings infos program ep info)
          at_globals err here =
              refuses_second (read_by fault_of r) stage (arguments ++ (returned ++ (globals ++ mesh))) no_stage
              (refuses_second (read_by fault_of r) arguments (returned ++ (globals ++ mesh)) no_arguments
              (refuses_second (read_by fault_of r) returned (globals ++ mesh) no_returned (refuses_first (read_by fault_of r) globals mesh (stays_refused fault_of r err) here)))

          pub at_mesh : first_fault globals ≡ None → Judges mesh → Judges (used_points below settings infos program ep info)
          at_mesh no_globals here =
              refuses_second (read_by fault_of r) stage (arguments ++ (returned ++ (globals ++ mesh))) no_stage
              (refuses_second (read_by fault_of r) arguments (returned ++ (globals ++ mesh)) no_arguments
              (refuses_second (read_by fault_of r) returned (globals ++ mesh) no_returned (refuses_second (read_by fault_of r) globals mesh no_globals here)))
