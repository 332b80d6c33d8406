pub mod ModuleJudgement
pub mod CodeModule
pub mod Misfits
pub mod ModuleInfos
pub mod ModuleLaw
pub mod OneJudgement
pub mod WorkedChain
pub use Rattle.check_scope.specs.BodyTrees.{body_of}
pub use Rattle.check_scope.specs.Context.{pre_emitted_of}
pub use Rattle.check_scope.specs.declared.trace.TraceState.{TraceState}
pub use Rattle.ir_facts.specs.Meaning.{Meaning}
pub use Rattle.ir_facts.specs.WhatIsChecked.{checks_blocks, checks_expressions, checks_bindings}
pub use Rattle.check_statement.specs.FunctionJudgement.{FunctionOutcome}
unfoldable pub use Rattle.check_statement.specs.FunctionJudgement.{function_judgement}
pub use Rattle.check_entry.specs.GivenInfos.{AreInfosOf}
pub use Rattle.check_laws.specs.Accepted.{nodes_of, callees_filling, atomics_filling, AreFilledOnce, ResultsAreFilledOnce}
pub use Rattle.check_laws.specs.Accepted.{StagesAreOfAll}
pub use Rattle.check_laws.specs.BodyShapes.{StandsAt, is_in_continuing, HasNoReturnInContinuing, HasWholeSwitches}
pub use Rattle.check_laws.specs.Chains.{Reaches, IsVettedInfo, AreVetted, ChainsKeepTo, infos_below}
unfoldable pub use Rattle.check_laws.specs.EntryJudgement.{entry_judgement}
pub use Rattle.check_entry.specs.EntryUses.{only}
pub use Rattle.check_laws.specs.EntryFacts.{IsUsedAt, BindingsAreDistinct, GroupsAreDistinct, BuiltInsAreDistinct}
pub use Rattle.check_laws.specs.EntryFacts.{ReturnsPosition, argument_parts}
pub use Rattle.naga_layers.specs.Plain.Meaning.{plain_meaning, plain_layer}
pub use Rattle.naga_layers.specs.Recorded.Meaning.{recorded_meaning}
pub use Rattle.naga_module.specs.ModuleInfos.{infos_before, OfFunctions, OfEntryPoints, IsJudgedEntry, ModuleIsJudged}
pub use Rattle.ir_misfits.specs.declared.misfit.Misfit.{Misfit}
pub use Rattle.naga_module.specs.Misfits.{module_points, AllFits}
pub use Rattle.naga_module.specs.ModuleJudgement.{Fits, IsJudgement, IsJudgementOrMemory}
pub use Rattle.naga_module.specs.ModuleLaw.{IsSoundFunction, FunctionsAreSound, EntryPointsAreSound}
pub use Rattle.naga_module.specs.ModuleLaw.{ModuleHolds, ModuleFillsOnce, ModuleBindsApart}
pub use Rattle.naga_module.specs.ModuleLaw.{AcceptedModuleIsJudged, AcceptedModuleHolds, AcceptedModuleFillsOnce}
pub use Rattle.naga_module.specs.ModuleLaw.{AcceptedModuleBindsApart, IsReportedOfFunctions, FunctionsAloneAreReported}
pub use Rattle.naga_module.specs.OneJudgement.{IsSameFault, IsSameAnswer, ModuleHasOneJudgement}
pub use Rattle.check_faults.specs.declared.module.ModuleFault.{ModuleFault}
pub use Rattle.check_faults.specs.declared.module.ModuleFault.TheVariants as module_fault
pub use Rattle.naga_runs.specs.Soundness.{RunsAreSure}
pub use Rattle.ir_misfits.specs.ShortFacts.{shortages}
pub use Rattle.ir_fits.specs.Laws.{TypesAreExact, GlobalsAreExact, FunctionsAreExact, EntriesAreExact}
