-- The laws of accepted functions, from what holds of their visits.
use Rattle.std.proofs.Common.{◌≡◌, ◌↔◌, ℕ, zero, suc, Bool, true, false, List, [], Option, None, Some, Result, Ok, Err, length, refl, sym, ap, ◌∙◌, subst}
use Rattle.std.specs.List.{AllByRecursion}
use Rattle.std.specs.Prelude.{if◌then◌else◌}
use Rattle.ir_arena.specs.Points.{first_fault, answer, and_then}
use Rattle.ir_module.specs.declared.functions.Function.{Function}
use Rattle.ir_module.specs.declared.module.Module.{Module}
use Rattle.ir_flags.specs.declared.valid.ShaderStages.{ShaderStages}
use Rattle.ir_facts.specs.declared.valid.info.FunctionInfo.{FunctionInfo}
use Rattle.ir_facts.specs.declared.valid.info.ModuleInfo.{ModuleInfo}
use Rattle.ir_facts.specs.declared.valid.settings.Settings.{Settings}
use Rattle.ir_types.specs.declared.type_info.TypeInfo.{TypeInfo}
use Rattle.ir_facts.specs.Meaning.{Meaning}
use Rattle.ir_errors.specs.declared.function.FunctionError.{FunctionError}
use Rattle.naga_runs.specs.Judgement.{viewed}
use Rattle.check_laws.specs.Accepted.{nodes_of, AreAmong, AreOfStatement}
use Rattle.check_scope.specs.BodyTrees.{body_of}
use Rattle.check_scope.specs.Context.{Context}
use Rattle.check_statement.specs.Declarations.{declaration_points}
use Rattle.check_statement.specs.ExpressionStages.{with_stages, mask_at, mask_and, stages_from, masks_from, expressions_step, expression_masks}
use Rattle.ir_facts.specs.WhatIsChecked.{checks_blocks, checks_expressions}
use Rattle.check_laws.specs.FunctionLaw.{AcceptedIsSound, AcceptedFillsOnce, AcceptedIsOfAllStages, AcceptedHasNoReturnInContinuing, AcceptedHasWholeSwitches, AcceptedKeepsInfo, AcceptedHasEveryMask, AcceptedStagesAreMet}
use Rattle.check_statement.specs.FunctionJudgement.{FunctionOutcome, context_with, judged_with, declarations_step, expressions_known, lower_step, function_judgement}
use Rattle.check_laws.specs.BodyShapes.{HasWholeSwitches}
use Rattle.check_statement.specs.StageSets.{meet}
use Rattle.check_statement.specs.walk.State.{state_left}
use Rattle.check_scope.specs.declared.trace.TraceState.{TraceState}
use Rattle.check_laws.proofs.Accepted.{IsAccepted, accepted, accepted_fills_once, accepted_stages_of_all, accepted_stages_are_met, among_all, among_meet, meet_among_first, meet_among_second}
use Rattle.check_laws.proofs.Guarded.{accepted_is_sure}
use Rattle.check_laws.proofs.Shapes.{no_return_in_continuing, whole_switches}

-- what expressions leave
module _ (below : Meaning) (context : Context) (some : ShaderStages) where
  one_met : (s t : ShaderStages) (h n : ℕ) (o : Result ShaderStages FunctionError) →
      ((mask : ShaderStages) → stages_from below context (meet s mask) (suc h) n ≡ Ok t → AreAmong some t ↔ (AreAmong some (meet s mask) × AllByRecursion (AreAmong some) (masks_from below context (meet s mask) (suc h) n))) →
      and_then o (λ mask. stages_from below context (meet s mask) (suc h) n) ≡ Ok t →
      AreAmong some t ↔ (AreAmong some s × AllByRecursion (AreAmong some) (mask_and below context o (λ mask. masks_from below context (meet s mask) (suc h) n)))
  one_met s t h n (Ok mask) later e =
      let rest = later mask e in (
        λ p. let q = rest.0 p in (among_all some (meet s mask) s q.0 (meet_among_first s mask), (among_all some (meet s mask) mask q.0 (meet_among_second s mask), q.1)),
        λ p. rest.1 (among_meet some s mask p.0 p.1.0, p.1.1),
      )
  one_met s t h n (Err f) later e = cc

  masks_are_met : (s t : ShaderStages) (h n : ℕ) → stages_from below context s h n ≡ Ok t →
      AreAmong some t ↔ (AreAmong some s × AllByRecursion (AreAmong some) (masks_from below context s h n))
  unfolding stages_from masks_from
  masks_are_met s t h zero e =
      let same : s ≡ t = cc in (λ p. (subst (AreAmong some) (sym same) p, tt), λ p. subst (AreAmong some) same p.0)
  masks_are_met s t h (suc n) e =
      one_met s t h n (mask_at below context s h) (λ mask. masks_are_met (meet s mask) t (suc h) n) e

  by_flag : (b : Bool) (t : ShaderStages) → (if b then stages_from below context context.info.available_stages 0 (length context.fun.expressions) else Ok context.info.available_stages) ≡ Ok t →
      AreAmong some t ↔ (AreAmong some context.info.available_stages × AllByRecursion (AreAmong some) (if b then masks_from below context context.info.available_stages 0 (length context.fun.expressions) else []))
  by_flag true t e = masks_are_met context.info.available_stages t 0 (length context.fun.expressions) e
  by_flag false t e =
      let same : context.info.available_stages ≡ t = cc in (λ p. (subst (AreAmong some) (sym same) p, tt), λ p. subst (AreAmong some) same p.0)

  expressions_are_met : (t : ShaderStages) → expressions_step below context ≡ Ok t →
      AreAmong some t ↔ (AreAmong some context.info.available_stages × AllByRecursion (AreAmong some) (expression_masks below context))
  expressions_are_met t e = by_flag (checks_expressions context.settings.flags) t e

-- where expressions leave stages, each has a mask
module _ (below : Meaning) (context : Context) where
  one_more_mask : (s t : ShaderStages) (h n : ℕ) (o : Result ShaderStages FunctionError) →
      ((mask : ShaderStages) → stages_from below context (meet s mask) (suc h) n ≡ Ok t → length (masks_from below context (meet s mask) (suc h) n) ≡ n) →
      and_then o (λ mask. stages_from below context (meet s mask) (suc h) n) ≡ Ok t →
      length (mask_and below context o (λ mask. masks_from below context (meet s mask) (suc h) n)) ≡ suc n
  one_more_mask s t h n (Ok mask) later e = ap suc (later mask e)
  one_more_mask s t h n (Err f) later e = cc

  masks_are_all : (s t : ShaderStages) (h n : ℕ) → stages_from below context s h n ≡ Ok t → length (masks_from below context s h n) ≡ n
  unfolding stages_from masks_from
  masks_are_all s t h zero e = refl
  masks_are_all s t h (suc n) e =
      one_more_mask s t h n (mask_at below context s h) (λ mask. masks_are_all (meet s mask) t (suc h) n) e

  all_by_flag : (b : Bool) (t : ShaderStages) → b ≡ true →
      (if b then stages_from below context context.info.available_stages 0 (length context.fun.expressions) else Ok context.info.available_stages) ≡ Ok t →
      length (if b then masks_from below context context.info.available_stages 0 (length context.fun.expressions) else []) ≡ length context.fun.expressions
  all_by_flag true t on e = masks_are_all context.info.available_stages t 0 (length context.fun.expressions) e
  all_by_flag false t on e = cc

module _ (below : Meaning) (settings : Settings) (infos : List TypeInfo) (trace : TraceState) (program : Module) (earlier : ModuleInfo) (fun : Function) (entry_point : Bool) (outcome : FunctionOutcome) where
  abbrev context_of : FunctionInfo → Context
  context_of info = context_with below settings infos trace program earlier fun entry_point info

  -- the lower layer knows the function, its expressions leave these stages, and its body is accepted with them
  record Known : Type 0 where
    info : FunctionInfo
    lower : lower_step below settings infos trace program earlier fun entry_point ≡ Ok info
    stages : ShaderStages
    expressions : expressions_step below (context_of info) ≡ Ok stages
    of : IsAccepted (context_of (with_stages info stages)) outcome

  behind_expressions : checks_blocks settings.flags ≡ true → (info : FunctionInfo) → lower_step below settings infos trace program earlier fun entry_point ≡ Ok info →
      (o : Result ShaderStages FunctionError) → expressions_step below (context_of info) ≡ o →
      and_then (and_then o (λ stages. Ok (with_stages info stages))) (λ known. judged_with (context_of known)) ≡ Ok outcome → Known
  behind_expressions on info is (Ok stages) asked e =
      record {
        info = info;
        lower = is;
        stages = stages;
        expressions = asked;
        of = accepted (context_of (with_stages info stages)) outcome on e;
      }
  behind_expressions on info is (Err f) asked e = cc

  behind_declarations : checks_blocks settings.flags ≡ true → (info : FunctionInfo) → lower_step below settings infos trace program earlier fun entry_point ≡ Ok info →
      (o : Option FunctionError) →
      and_then (answer o info) (λ known. and_then (expressions_known below (context_of known)) (λ known. judged_with (context_of known))) ≡ Ok outcome → Known
  behind_declarations on info is None e =
      behind_expressions on info is (expressions_step below (context_of info)) refl e
  behind_declarations on info is (Some f) e = cc

  behind_lower : checks_blocks settings.flags ≡ true → (lower : Result FunctionInfo FunctionError) → lower_step below settings infos trace program earlier fun entry_point ≡ lower →
      and_then lower (λ info. and_then (declarations_step infos entry_point (context_of info)) (λ known. and_then (expressions_known below (context_of known)) (λ known. judged_with (context_of known)))) ≡ Ok outcome → Known
  behind_lower on (Ok info) is e =
      behind_declarations on info is (first_fault (declaration_points (context_of info) infos entry_point)) e
  behind_lower on (Err f) is e = cc

  known : function_judgement below settings infos trace program earlier fun entry_point ≡ Ok outcome → checks_blocks settings.flags ≡ true → Known
  unfolding function_judgement
  known e on = behind_lower on (lower_step below settings infos trace program earlier fun entry_point) refl e

pub is_sound : AcceptedIsSound
is_sound below settings infos trace program earlier fun entry_point outcome e on =
    let k = known below settings infos trace program earlier fun entry_point outcome e on in
    let context = context_with below settings infos trace program earlier fun entry_point (with_stages k.info k.stages) in
    accepted_is_sure context (state_left context k.of.visits) (ap (viewed (state_left context)) k.of.judged)

pub fills_once : AcceptedFillsOnce
fills_once below settings infos trace program earlier fun entry_point outcome e on =
    let k = known below settings infos trace program earlier fun entry_point outcome e on in
    accepted_fills_once (context_with below settings infos trace program earlier fun entry_point (with_stages k.info k.stages)) outcome k.of

pub is_of_all_stages : AcceptedIsOfAllStages
is_of_all_stages below settings infos trace program earlier fun entry_point outcome e on =
    let k = known below settings infos trace program earlier fun entry_point outcome e on in
    accepted_stages_of_all (context_with below settings infos trace program earlier fun entry_point (with_stages k.info k.stages)) outcome k.of

pub has_no_return_in_continuing : AcceptedHasNoReturnInContinuing
has_no_return_in_continuing below settings infos trace program earlier fun entry_point outcome e on =
    let k = known below settings infos trace program earlier fun entry_point outcome e on in
    no_return_in_continuing (context_with below settings infos trace program earlier fun entry_point (with_stages k.info k.stages)) k.of.visits k.of.judged

pub has_whole_switches : AcceptedHasWholeSwitches
has_whole_switches below settings infos trace program earlier fun entry_point outcome e on =
    let k = known below settings infos trace program earlier fun entry_point outcome e on in
    let context = context_with below settings infos trace program earlier fun entry_point (with_stages k.info k.stages) in
    subst (λ (l : FunctionOutcome). HasWholeSwitches program l.info (body_of fun)) k.of.left (whole_switches context k.of.visits k.of.judged)

pub keeps_info : AcceptedKeepsInfo
keeps_info below settings infos trace program earlier fun entry_point outcome info e on is =
    let k = known below settings infos trace program earlier fun entry_point outcome e on in
    let same : k.info ≡ info = let both = sym k.lower ∙ is in cc in
    subst (λ (i : FunctionInfo). outcome.info ≡ with_stages i outcome.info.available_stages) same (
    subst (λ (l : FunctionOutcome). l.info ≡ with_stages k.info l.info.available_stages) k.of.left refl
    )

pub has_every_mask : AcceptedHasEveryMask
has_every_mask below settings infos trace program earlier fun entry_point outcome info e on is looked =
    let k = known below settings infos trace program earlier fun entry_point outcome e on in
    let same : k.info ≡ info = let both = sym k.lower ∙ is in cc in
    let all = all_by_flag below (context_with below settings infos trace program earlier fun entry_point k.info) (checks_expressions settings.flags) k.stages looked k.expressions in
    subst (λ (i : FunctionInfo). length (expression_masks below (context_with below settings infos trace program earlier fun entry_point i)) ≡ length fun.expressions) same all

pub stages_are_met : AcceptedStagesAreMet
stages_are_met below settings infos trace program earlier fun entry_point outcome info e on is some =
    let k = known below settings infos trace program earlier fun entry_point outcome e on in
    let same : k.info ≡ info = let both = sym k.lower ∙ is in cc in
    let body = accepted_stages_are_met (context_with below settings infos trace program earlier fun entry_point (with_stages k.info k.stages)) outcome k.of some in
    let asked = expressions_are_met below (context_with below settings infos trace program earlier fun entry_point k.info) some k.stages k.expressions in
    let P : FunctionInfo → Type 0 = λ (i : FunctionInfo).
    AreAmong some outcome.info.available_stages ↔ (AreAmong some i.available_stages × AllByRecursion (AreAmong some) (expression_masks below (context_with below settings infos trace program earlier fun entry_point i)) × AllByRecursion (AreOfStatement settings.subgroup_stages earlier some) (nodes_of (body_of fun))) in
    subst P same (
      λ p. let q = body.0 p in let a = asked.0 q.0 in (a.0, a.1, q.1),
      λ p. body.1 (asked.1 (p.0, p.1), p.2),
    )
