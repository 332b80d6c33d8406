-- What an accepted entry point keeps to through chains of calls: its stage; and that runs of its body are sure.
use Rattle.std.specs.Prelude.{◌≡◌, true, List, Ok}
use Rattle.ir_module.specs.declared.module.EntryPoint.{EntryPoint}
use Rattle.ir_module.specs.declared.module.Module.{Module}
use Rattle.ir_facts.specs.declared.valid.info.ModuleInfo.{ModuleInfo}
use Rattle.ir_facts.specs.declared.valid.settings.Settings.{Settings}
use Rattle.ir_types.specs.declared.type_info.TypeInfo.{TypeInfo}
use Rattle.ir_facts.specs.Meaning.{Meaning}
use Rattle.naga_runs.specs.Soundness.{RunsAreSure}
use Rattle.check_scope.specs.BodyTrees.{body_of}
use Rattle.check_laws.specs.Chains.{CallsBelow, AreVetted, ChainsKeepTo}
use Rattle.check_scope.specs.Context.{pre_emitted_of}
use Rattle.check_laws.specs.EntryJudgement.{entry_judgement}
use Rattle.check_entry.specs.EntryUses.{only}
use Rattle.check_statement.specs.FunctionJudgement.{FunctionOutcome}
use Rattle.ir_facts.specs.WhatIsChecked.{checks_blocks}
use Rattle.check_scope.specs.declared.trace.TraceState.{TraceState}
use Rattle.std.specs.Prelude.{length}

-- something holds of every entry point that the judgement accepts where bodies are checked
abbrev pub OfAcceptedLooked : (Meaning → Settings → List TypeInfo → Module → ModuleInfo → EntryPoint → Type 0) → Type 0
OfAcceptedLooked Holds =
    (below : Meaning) (settings : Settings) (types : List TypeInfo) (trace : TraceState) (m : Module) (infos : ModuleInfo) →
    (ep : EntryPoint) (outcome : FunctionOutcome) →
    entry_judgement below settings types trace m infos ep ≡ Ok outcome → checks_blocks settings.flags ≡ true →
    Holds below settings types m infos ep

-- all runs of its body are sure
abbrev pub AcceptedEntryIsSound : Type 0
AcceptedEntryIsSound =
    OfAcceptedLooked (λ below settings types m infos ep. RunsAreSure (pre_emitted_of ep.function) (body_of ep.function))

-- with vetted infos, and where its calls name only functions that have infos, its stage is kept to through all chains of
-- calls
abbrev pub AcceptedEntryKeepsItsStage : Type 0
AcceptedEntryKeepsItsStage =
    OfAcceptedLooked (λ below settings types m infos ep.
    AreVetted below settings types m infos → CallsBelow (length infos.functions) (body_of ep.function) →
    ChainsKeepTo below settings types m infos ep.function (only ep.stage))
