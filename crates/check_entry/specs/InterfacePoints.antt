-- What an entry point puts in and out: its points after the function.
use Rattle.std.specs.Prelude.{◌≡◌, List, ◌++◌, All, IsSome}
use Rattle.ir_arena.specs.Points.{Point, within}
use Rattle.ir_module.specs.declared.module.EntryPoint.{EntryPoint}
use Rattle.ir_module.specs.declared.module.Module.{Module}
use Rattle.ir_types.specs.declared.types.AddressSpace.TheVariants.{TaskPayload}
use Rattle.ir_facts.specs.declared.valid.info.FunctionInfo.{FunctionInfo}
use Rattle.ir_facts.specs.declared.valid.settings.Settings.{Settings}
use Rattle.ir_types.specs.declared.type_info.TypeInfo.{TypeInfo}
use Rattle.ir_facts.specs.Meaning.{Meaning}
use Rattle.check_entry.specs.EntryFaults.{EntryFault, fault_of}
use Rattle.check_entry.specs.UsedGlobals.{globals_points}
use Rattle.check_entry.specs.Mesh.{mesh_points}
use Rattle.check_entry.specs.EntryUses.{payload_points, with_own_uses, stage_points}
use Rattle.check_entry.specs.EntryVaryings.{argument_points, result_points}

-- the lower layer knows the size of the type of each global that may be a task payload
abbrev pub HasPayloadSizes : Meaning → Module → Type 0
HasPayloadSizes below program =
    All (λ g. g.space ≡ TaskPayload → IsSome (below.size_of program g.ty)) program.global_variables

module _ (below : Meaning) (settings : Settings) (infos : List TypeInfo) (program : Module) (ep : EntryPoint) where
  -- the steps after the payload, where this is known of the function and of what the entry point itself does
  abbrev pub used_points : FunctionInfo → List (Point EntryFault)
  used_points info =
      within fault_of (stage_points ep.stage info.available_stages)
      ++ (argument_points settings program.types infos ep
      ++ (result_points settings program.types infos ep
      ++ (within fault_of (globals_points below settings.flags program ep info.global_uses)
      ++ mesh_points below settings infos program ep ep.mesh_info)))

  -- the steps after the function, of which this is known: the payload; its stage; its arguments; its result; the globals that
  -- are used; the mesh
  abbrev pub interface_points : FunctionInfo → List (Point EntryFault)
  interface_points info =
      within fault_of (payload_points program.global_variables ep.stage ep.task_payload) ++ used_points (with_own_uses ep info)
