pub use Rattle.ir_arena.specs.Points.{Point, first_fault}
pub use Rattle.ir_facts.specs.Fits.{FitsTypes, FitsGlobals, FitsFunction, FitsEntry}
pub use Rattle.ir_facts.specs.Answers.{Right, FirstOf, Exactly, Finds, Answers, read_by}
pub use Rattle.ir_facts.specs.WhatIsChecked.{checks_bindings}
pub use Rattle.ir_facts.specs.Meaning.{Meaning}
pub use Rattle.naga_runs.specs.Soundness.{RunsAreSure}
pub use Rattle.check_laws.specs.Accepted.{ResultsAreFilledOnce, StagesAreOfAll}
pub use Rattle.check_scope.specs.BodyTrees.{body_of}
pub use Rattle.check_scope.specs.Context.{pre_emitted_of}
pub use Rattle.check_laws.specs.FunctionLaw.{AcceptedIsSound, AcceptedFillsOnce, AcceptedIsOfAllStages}
pub use Rattle.check_laws.specs.FunctionLaw.{AcceptedHasNoReturnInContinuing, AcceptedHasWholeSwitches, AcceptedKeepsInfo}
pub use Rattle.check_laws.specs.FunctionLaw.{AcceptedHasEveryMask, AcceptedStagesAreMet}
pub use Rattle.check_laws.specs.BodyShapes.{HasNoReturnInContinuing, HasWholeSwitches}
pub use Rattle.check_laws.specs.Chains.{Reaches, AreVetted, ChainsKeepTo, ChainsAreKept}
pub use Rattle.check_statement.specs.FunctionJudgement.{FunctionOutcome, outcome_of}
pub use Rattle.check_entry.specs.GivenInfos.{AreInfosOf}
pub use Rattle.ir_facts.specs.WhatIsChecked.{checks_blocks, checks_expressions}
unfoldable pub use Rattle.check_statement.specs.FunctionJudgement.{function_judgement}
pub use Rattle.check_laws.specs.EntryChains.{AcceptedEntryIsSound, AcceptedEntryKeepsItsStage}
pub use Rattle.check_laws.specs.EntryBodies.{AcceptedEntryFillsOnce, AcceptedEntryIsOfAllStages}
pub use Rattle.check_laws.specs.EntryBodies.{AcceptedEntryHasNoReturnInContinuing, AcceptedEntryHasWholeSwitches}
pub use Rattle.check_laws.specs.EntryFacts.{AcceptedHasAcceptedFunction, AcceptedBindingsAreDistinct}
pub use Rattle.check_laws.specs.EntryFacts.{AcceptedLocationsAreDistinct, AcceptedBuiltInsAreDistinct}
pub use Rattle.check_laws.specs.EntryFacts.{AcceptedVertexHasPosition}
pub use Rattle.check_laws.specs.EntryFacts.{argument_parts, BindingsAreDistinct, BuiltInsAreDistinct, GroupsAreDistinct}
pub use Rattle.check_laws.specs.EntryFacts.{ReturnsPosition}
pub use Rattle.check_entry.specs.GlobalPoints.{module_global_points}
pub use Rattle.check_entry.specs.Start.{start_points}
pub use Rattle.check_entry.specs.EntryUses.{only}
pub use Rattle.check_entry.specs.InterfacePoints.{HasPayloadSizes}
unfoldable pub use Rattle.check_laws.specs.EntryJudgement.{entry_judgement}
pub use Rattle.check_entry.specs.EntryFaults.{fault_of}
pub use Rattle.check_laws.specs.Chains.{NoneIsVetted, OneMoreIsVetted, CallsOfFittingAreBelow}
pub use Rattle.check_laws.specs.FunctionRefusals.{RefusedUseIsWitnessed, RefusedJumpIsStuck}
pub use Rattle.check_statement.specs.ValidatorParts.{ValidatorParts, first_settings, no_traces}
pub use Rattle.check_faults.specs.EntryErrorNames.{entry_error_name}
