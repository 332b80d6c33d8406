-- What is known of each function that the judgement accepts, where bodies are checked.
use Rattle.std.specs.List.{AllByRecursion}
use Rattle.std.specs.Prelude.{◌≡◌, ◌↔◌, Bool, true, List, Ok, length}
use Rattle.ir_module.specs.declared.functions.Function.{Function}
use Rattle.ir_module.specs.declared.module.Module.{Module}
use Rattle.ir_flags.specs.declared.valid.ShaderStages.{ShaderStages}
use Rattle.ir_facts.specs.declared.valid.info.FunctionInfo.{FunctionInfo}
use Rattle.ir_facts.specs.declared.valid.info.ModuleInfo.{ModuleInfo}
use Rattle.ir_facts.specs.declared.valid.settings.Settings.{Settings}
use Rattle.ir_types.specs.declared.type_info.TypeInfo.{TypeInfo}
use Rattle.ir_facts.specs.Meaning.{Meaning}
use Rattle.naga_runs.specs.Soundness.{RunsAreSure}
use Rattle.check_laws.specs.Accepted.{nodes_of, ResultsAreFilledOnce, StagesAreOfAll, AreAmong, AreOfStatement}
use Rattle.check_scope.specs.BodyTrees.{body_of}
use Rattle.check_scope.specs.Context.{pre_emitted_of}
use Rattle.check_statement.specs.ExpressionStages.{with_stages, expression_masks}
use Rattle.ir_facts.specs.WhatIsChecked.{checks_blocks, checks_expressions}
use Rattle.check_statement.specs.FunctionJudgement.{FunctionOutcome, context_with, lower_step, function_judgement}
use Rattle.check_laws.specs.BodyShapes.{HasNoReturnInContinuing, HasWholeSwitches}
use Rattle.check_scope.specs.declared.trace.TraceState.{TraceState}

-- something holds of every function that the judgement accepts where bodies are checked, of its module, and of what is
-- known of it
abbrev pub OfAcceptedIn : (Module → Settings → ModuleInfo → Function → FunctionOutcome → Type 0) → Type 0
OfAcceptedIn Holds =
    (below : Meaning) (settings : Settings) (infos : List TypeInfo) (trace : TraceState) (program : Module)
    (earlier : ModuleInfo) (fun : Function) (entry_point : Bool) (outcome : FunctionOutcome) →
    function_judgement below settings infos trace program earlier fun entry_point ≡ Ok outcome →
    checks_blocks settings.flags ≡ true →
    Holds program settings earlier fun outcome

-- something that is not of the module
abbrev pub OfAccepted : (Settings → ModuleInfo → Function → FunctionOutcome → Type 0) → Type 0
OfAccepted Holds = OfAcceptedIn (λ program. Holds)

-- all runs of its body are sure
abbrev pub AcceptedIsSound : Type 0
AcceptedIsSound = OfAccepted (λ settings earlier fun outcome. RunsAreSure (pre_emitted_of fun) (body_of fun))

-- where expressions are checked too, each of its results is filled once
abbrev pub AcceptedFillsOnce : Type 0
AcceptedFillsOnce =
    OfAccepted (λ settings earlier fun outcome. checks_expressions settings.flags ≡ true → ResultsAreFilledOnce fun)

-- its stages are stages of each statement and of each function that it calls
abbrev pub AcceptedIsOfAllStages : Type 0
AcceptedIsOfAllStages =
    OfAccepted (λ settings earlier fun outcome.
    StagesAreOfAll settings.subgroup_stages earlier (body_of fun) outcome.info.available_stages)

-- no Return stands in a continuing part of its body, at any depth
abbrev pub AcceptedHasNoReturnInContinuing : Type 0
AcceptedHasNoReturnInContinuing =
    OfAccepted (λ settings earlier fun outcome. HasNoReturnInContinuing (body_of fun))

-- each Switch of its body, at any depth, has whole cases
abbrev pub AcceptedHasWholeSwitches : Type 0
AcceptedHasWholeSwitches =
    OfAcceptedIn (λ program settings earlier fun outcome. HasWholeSwitches program outcome.info (body_of fun))

-- its info is the lower layer's but for its stages
abbrev pub AcceptedKeepsInfo : Type 0
AcceptedKeepsInfo =
    (below : Meaning) (settings : Settings) (infos : List TypeInfo) (trace : TraceState) (program : Module)
    (earlier : ModuleInfo) (fun : Function) (entry_point : Bool) (outcome : FunctionOutcome) (info : FunctionInfo) →
    function_judgement below settings infos trace program earlier fun entry_point ≡ Ok outcome →
    checks_blocks settings.flags ≡ true →
    lower_step below settings infos trace program earlier fun entry_point ≡ Ok info →
    outcome.info ≡ with_stages info outcome.info.available_stages

-- Where expressions are checked, there is one mask for each expression: the lower layer refuses none.
abbrev pub AcceptedHasEveryMask : Type 0
AcceptedHasEveryMask =
    (below : Meaning) (settings : Settings) (infos : List TypeInfo) (trace : TraceState) (program : Module)
    (earlier : ModuleInfo) (fun : Function) (entry_point : Bool) (outcome : FunctionOutcome) (info : FunctionInfo) →
    function_judgement below settings infos trace program earlier fun entry_point ≡ Ok outcome →
    checks_blocks settings.flags ≡ true →
    lower_step below settings infos trace program earlier fun entry_point ≡ Ok info →
    checks_expressions settings.flags ≡ true →
    length (expression_masks below (context_with below settings infos trace program earlier fun entry_point info))
    ≡ length fun.expressions

-- A stage is left exactly where the lower layer leaves it, every expression may run in it, where expressions are looked
-- at, and so may every statement at any depth.
abbrev pub AcceptedStagesAreMet : Type 0
AcceptedStagesAreMet =
    (below : Meaning) (settings : Settings) (infos : List TypeInfo) (trace : TraceState) (program : Module)
    (earlier : ModuleInfo) (fun : Function) (entry_point : Bool) (outcome : FunctionOutcome) (info : FunctionInfo) →
    function_judgement below settings infos trace program earlier fun entry_point ≡ Ok outcome →
    checks_blocks settings.flags ≡ true →
    lower_step below settings infos trace program earlier fun entry_point ≡ Ok info → (some : ShaderStages) →
    AreAmong some outcome.info.available_stages
    ↔ (AreAmong some info.available_stages
    × AllByRecursion (AreAmong some)
    (expression_masks below (context_with below settings infos trace program earlier fun entry_point info))
    × AllByRecursion (AreOfStatement settings.subgroup_stages earlier some) (nodes_of (body_of fun)))
