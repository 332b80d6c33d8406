-- What is known of a module that is accepted, by what is checked.
use Rattle.std.specs.Prelude.{◌≡◌, ℕ, true, List, [], Some, Ok, Err, ⊤, slice_get}
use Rattle.ir_facts.specs.Each.{EachAt}
use Rattle.ir_facts.specs.Fits.{FitsFunction}
use Rattle.ir_module.specs.declared.functions.Function.{Function}
use Rattle.ir_module.specs.declared.module.EntryPoint.{EntryPoint}
use Rattle.ir_module.specs.declared.module.Module.{Module}
use Rattle.ir_types.specs.declared.typifier.TypeResolution.{TypeResolution}
use Rattle.ir_facts.specs.declared.valid.info.ModuleInfo.{ModuleInfo}
use Rattle.ir_facts.specs.declared.valid.settings.Settings.{Settings}
use Rattle.ir_types.specs.declared.type_info.TypeInfo.{TypeInfo}
use Rattle.ir_facts.specs.Meaning.{Meaning}
use Rattle.naga_runs.specs.Soundness.{RunsAreSure}
use Rattle.check_scope.specs.BodyTrees.{body_of}
use Rattle.check_laws.specs.Accepted.{ResultsAreFilledOnce, StagesAreOfAll}
use Rattle.check_laws.specs.Chains.{ChainsKeepTo}
use Rattle.check_laws.specs.BodyShapes.{HasNoReturnInContinuing, HasWholeSwitches}
use Rattle.check_scope.specs.Context.{pre_emitted_of}
use Rattle.check_entry.specs.EntryUses.{only}
use Rattle.ir_facts.specs.WhatIsChecked.{checks_blocks, checks_expressions, checks_bindings}
use Rattle.check_laws.specs.EntryFacts.{BindingsAreDistinct, GroupsAreDistinct}
use Rattle.naga_module.specs.ModuleInfos.{infos_before, OfFunctions, OfEntryPoints, ModuleIsJudged}
use Rattle.naga_module.specs.ModuleJudgement.{Fits, IsJudgement, IsJudgementOrMemory}
use Rattle.check_faults.specs.declared.module.ModuleFault.{ModuleFault}
use Rattle.check_faults.specs.declared.module.ModuleFault.TheVariants as fault

-- all runs of a function's body are sound
abbrev pub IsSoundFunction : Function → Type 0
IsSoundFunction f = RunsAreSure (pre_emitted_of f) (body_of f)

-- of the bodies of all functions of a module
abbrev pub FunctionsAreSound : Module → Type 0
FunctionsAreSound m = (k : ℕ) (f : Function) → slice_get m.functions k ≡ Some f → IsSoundFunction f

-- of the bodies of all its entry points
abbrev pub EntryPointsAreSound : Module → Type 0
EntryPointsAreSound m = (k : ℕ) (p : EntryPoint) → slice_get m.entry_points k ≡ Some p → IsSoundFunction p.function

-- Of a module that was accepted with these infos, where bodies are checked: all runs of the body of each function and of each
-- entry point are sound; each entry point keeps to its stage through all chains of calls; no Return stands in a continuing part;
-- each Switch has whole cases; and the stages of each info are stages of each statement of its body, at any depth, and of each
-- function that it calls.
pub record ModuleHolds (below : Meaning) (settings : Settings) (types : List TypeInfo) (m : Module) (infos : ModuleInfo)
    : Type 0 where
  pub functions : FunctionsAreSound m
  pub entry_points : EntryPointsAreSound m
  pub stages : (k : ℕ) (p : EntryPoint) → slice_get m.entry_points k ≡ Some p →
      ChainsKeepTo below settings types m (infos_before k infos) p.function (only p.stage)
  pub returns : (k : ℕ) (f : Function) → slice_get m.functions k ≡ Some f → HasNoReturnInContinuing (body_of f)
  pub entry_returns : (k : ℕ) (p : EntryPoint) → slice_get m.entry_points k ≡ Some p →
      HasNoReturnInContinuing (body_of p.function)
  pub switches : OfFunctions m infos (λ k f info. HasWholeSwitches m info (body_of f))
  pub entry_switches : OfEntryPoints m infos (λ k p info. HasWholeSwitches m info (body_of p.function))
  pub function_stages : OfFunctions m infos (λ k f info.
      StagesAreOfAll settings.subgroup_stages infos (body_of f) info.available_stages)
  pub entry_stages : OfEntryPoints m infos (λ k p info.
      StagesAreOfAll settings.subgroup_stages infos (body_of p.function) info.available_stages)

-- Of an accepted module, where bodies and expressions are checked: each result of a call is filled once, by a Call of its
-- function, and each result of an atomic once, by an Atomic.
pub record ModuleFillsOnce (m : Module) : Type 0 where
  pub functions : (k : ℕ) (f : Function) → slice_get m.functions k ≡ Some f → ResultsAreFilledOnce f
  pub entry_points : (k : ℕ) (p : EntryPoint) → slice_get m.entry_points k ≡ Some p → ResultsAreFilledOnce p.function

-- Of a module that was accepted with these infos, where bindings are checked: no two globals that an entry point uses are
-- bound at one place, and no two parts of a group of its inputs or outputs take one location.
pub record ModuleBindsApart (settings : Settings) (types : List TypeInfo) (m : Module) (infos : ModuleInfo) : Type 0 where
  pub bindings : OfEntryPoints m infos (λ k p info. BindingsAreDistinct m.global_variables info.global_uses)
  pub locations : (k : ℕ) (p : EntryPoint) → slice_get m.entry_points k ≡ Some p →
      GroupsAreDistinct settings m.types types p

-- something holds of every module that the judgement accepts, and of its infos
abbrev pub OfAcceptedModule : (Meaning → Settings → List TypeInfo → Module → ModuleInfo → Type 0) → Type 0
OfAcceptedModule Holds =
    (below : Meaning) (settings : Settings) (types : List TypeInfo) (global_types : List TypeResolution) (m : Module)
    (infos : ModuleInfo) →
    IsJudgement below settings types m global_types (Ok infos) → Holds below settings types m infos

-- what holds under any flags
abbrev pub AcceptedModuleIsJudged : Type 0
AcceptedModuleIsJudged = OfAcceptedModule ModuleIsJudged

-- what holds where bodies are checked
abbrev pub AcceptedModuleHolds : Type 0
AcceptedModuleHolds =
    OfAcceptedModule (λ below settings types m infos. checks_blocks settings.flags ≡ true →
    ModuleHolds below settings types m infos)

-- what holds where bodies and expressions are
abbrev pub AcceptedModuleFillsOnce : Type 0
AcceptedModuleFillsOnce =
    OfAcceptedModule (λ below settings types m infos. checks_blocks settings.flags ≡ true →
    checks_expressions settings.flags ≡ true → ModuleFillsOnce m)

-- what holds where bindings are
abbrev pub AcceptedModuleBindsApart : Type 0
AcceptedModuleBindsApart =
    OfAcceptedModule (λ below settings types m infos. checks_bindings settings.flags ≡ true →
    ModuleBindsApart settings types m infos)

-- the fault of a function, or out of memory
abbrev pub IsReportedOfFunctions : ModuleFault → Type 0
IsReportedOfFunctions (fault.Function handle error) = ⊤
IsReportedOfFunctions fault.Memory = ⊤
IsReportedOfFunctions fault.NotFit = ⊥
IsReportedOfFunctions (fault.Global handle error) = ⊥
IsReportedOfFunctions (fault.EntryPoint index error) = ⊥

-- Of a module without globals and entry points in which everything fits nothing else can be reported.
abbrev pub FunctionsAloneAreReported : Type 0
FunctionsAloneAreReported =
    (below : Meaning) (settings : Settings) (types : List TypeInfo) (global_types : List TypeResolution) (m : Module)
    (told : ModuleFault) →
    Fits below settings types m global_types → m.global_variables ≡ [] → m.entry_points ≡ [] →
    EachAt (λ k f. FitsFunction f m k) m.functions →
    IsJudgementOrMemory below settings types m global_types (Err told) → IsReportedOfFunctions told
