-- What is known of the body of each entry point that the judgement accepts, where bodies are checked: as of each function.
use Rattle.std.specs.Prelude.{◌≡◌, true, List, Ok}
use Rattle.ir_module.specs.declared.module.EntryPoint.{EntryPoint}
use Rattle.ir_module.specs.declared.module.Module.{Module}
use Rattle.ir_facts.specs.declared.valid.info.ModuleInfo.{ModuleInfo}
use Rattle.ir_facts.specs.declared.valid.settings.Settings.{Settings}
use Rattle.ir_types.specs.declared.type_info.TypeInfo.{TypeInfo}
use Rattle.ir_facts.specs.Meaning.{Meaning}
use Rattle.ir_facts.specs.WhatIsChecked.{checks_blocks, checks_expressions}
use Rattle.check_laws.specs.Accepted.{ResultsAreFilledOnce, StagesAreOfAll}
use Rattle.check_laws.specs.BodyShapes.{HasNoReturnInContinuing, HasWholeSwitches}
use Rattle.check_laws.specs.EntryJudgement.{entry_judgement}
use Rattle.check_scope.specs.BodyTrees.{body_of}
use Rattle.check_scope.specs.declared.trace.TraceState.{TraceState}
use Rattle.check_statement.specs.FunctionJudgement.{FunctionOutcome}

-- something holds of every entry point that the judgement accepts where bodies are checked, and of what is known of it
abbrev pub OfAcceptedBody : (Settings → Module → ModuleInfo → EntryPoint → FunctionOutcome → Type 0) → Type 0
OfAcceptedBody Holds =
    (below : Meaning) (settings : Settings) (types : List TypeInfo) (trace : TraceState) (m : Module) (infos : ModuleInfo) →
    (ep : EntryPoint) (outcome : FunctionOutcome) →
    entry_judgement below settings types trace m infos ep ≡ Ok outcome → checks_blocks settings.flags ≡ true →
    Holds settings m infos ep outcome

-- where expressions are checked too, each of its results is filled once
abbrev pub AcceptedEntryFillsOnce : Type 0
AcceptedEntryFillsOnce =
    OfAcceptedBody (λ settings m infos ep outcome. checks_expressions settings.flags ≡ true → ResultsAreFilledOnce ep.function)

-- its stages are stages of each statement and of each function that it calls
abbrev pub AcceptedEntryIsOfAllStages : Type 0
AcceptedEntryIsOfAllStages =
    OfAcceptedBody (λ settings m infos ep outcome.
    StagesAreOfAll settings.subgroup_stages infos (body_of ep.function) outcome.info.available_stages)

-- no Return stands in a continuing part of its body, at any depth
abbrev pub AcceptedEntryHasNoReturnInContinuing : Type 0
AcceptedEntryHasNoReturnInContinuing =
    OfAcceptedBody (λ settings m infos ep outcome. HasNoReturnInContinuing (body_of ep.function))

-- each Switch of its body, at any depth, has whole cases
abbrev pub AcceptedEntryHasWholeSwitches : Type 0
AcceptedEntryHasWholeSwitches =
    OfAcceptedBody (λ settings m infos ep outcome. HasWholeSwitches m outcome.info (body_of ep.function))
