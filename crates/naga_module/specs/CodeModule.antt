-- Lemma-level words for the code of `check_module`: how an answer after a part of a module's functions is one about all.
use Rattle.std.specs.Prelude.{◌≡◌, ◌⊎◌, List, Result, Err}
use Rattle.ir_module.specs.declared.functions.Function.{Function}
use Rattle.ir_module.specs.declared.module.EntryPoint.{EntryPoint}
use Rattle.ir_module.specs.declared.module.Module.{Module}
use Rattle.ir_facts.specs.declared.valid.info.ModuleInfo.{ModuleInfo}
use Rattle.ir_facts.specs.declared.valid.settings.Settings.{Settings}
use Rattle.ir_types.specs.declared.type_info.TypeInfo.{TypeInfo}
use Rattle.ir_facts.specs.Meaning.{Meaning}
use Rattle.check_scope.specs.declared.trace.TraceState.{TraceState}
use Rattle.naga_module.specs.ModuleJudgement.{ModuleAnswer, FunctionsAnswer, EntriesAnswer}
use Rattle.check_faults.specs.declared.module.ModuleFault.{ModuleFault}
use Rattle.check_faults.specs.declared.module.ModuleFault.TheVariants as fault

-- where this is right of an answer: a fault is right, or there was no memory
abbrev pub IsRightFault : {A : Type 0} → (Result A ModuleFault → Type 0) → ModuleFault → Type 0
IsRightFault Right found = (found ≡ fault.Memory) ⊎ Right (Err found)

module _ (below : Meaning) (settings : Settings) (types : List TypeInfo) (m : Module) where
  -- what is right after these functions, infos and traces is right of those
  abbrev pub Leads : TraceState → ModuleInfo → List Function → TraceState → ModuleInfo → List Function → Type 0
  Leads trace infos fs left more rest =
      (r : ModuleAnswer) → FunctionsAnswer below settings types m left more rest r →
      FunctionsAnswer below settings types m trace infos fs r

  -- a fault is right of these functions
  abbrev pub Stops : TraceState → ModuleInfo → List Function → ModuleFault → Type 0
  Stops trace infos fs = IsRightFault (FunctionsAnswer below settings types m trace infos fs)

  -- the same of entry points
  abbrev pub EntriesLead : TraceState → ModuleInfo → List EntryPoint → TraceState → ModuleInfo → List EntryPoint → Type 0
  EntriesLead trace infos ps left more rest =
      (r : ModuleAnswer) → EntriesAnswer below settings types m left more rest r →
      EntriesAnswer below settings types m trace infos ps r

  abbrev pub EntriesStop : TraceState → ModuleInfo → List EntryPoint → ModuleFault → Type 0
  EntriesStop trace infos ps = IsRightFault (EntriesAnswer below settings types m trace infos ps)
