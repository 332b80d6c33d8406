-- The steps of a function's judgement, as the code takes them.
use Rattle.std.proofs.Common.{◌≡◌, Bool, true, false, List, [], Option, None, Some, Result, Ok, Err, length, refl, sym, ap, ◌∙◌, subst}
use Rattle.std.specs.Prelude.{if◌then◌else◌}
use Rattle.ir_facts.specs.Fits.{FitsTypes, FitsFunction}
use Rattle.ir_arena.specs.Points.{first_fault, answer, and_then}
use Rattle.ir_module.specs.declared.functions.Function.{Function}
use Rattle.ir_module.specs.declared.module.Module.{Module}
use Rattle.ir_facts.specs.declared.proc.expression_kinds.ExpressionKind.{ExpressionKind}
use Rattle.ir_arena.specs.declared.span.Refusal.{Refusal}
use Rattle.ir_arena.specs.declared.span.Refusal.TheVariants as refusal
use Rattle.ir_facts.specs.declared.valid.info.FunctionInfo.{FunctionInfo}
use Rattle.ir_facts.specs.declared.valid.info.ModuleInfo.{ModuleInfo}
use Rattle.ir_facts.specs.declared.valid.settings.Settings.{Settings}
use Rattle.ir_flags.specs.declared.valid.ShaderStages.{ShaderStages}
use Rattle.ir_types.specs.declared.type_info.TypeInfo.{TypeInfo}
use Rattle.ir_facts.specs.Answers.{IsFirstFault, Answers, Exactly}
use Rattle.ir_facts.specs.Meaning.{Meaning, HasOneTypeEach, HasTypesInRange, HasNoStructValues, HasOneKindEach}
use Rattle.ir_errors.specs.declared.function.FunctionError.{FunctionError}
use Rattle.naga_runs.specs.Judgement.{viewed}
use Rattle.naga_runs.specs.Visits.{Visit}
use Rattle.check_scope.specs.Context.{Context, ContextFits}
use Rattle.check_statement.specs.Declarations.{declaration_points}
use Rattle.check_statement.specs.ExpressionStages.{with_stages, expressions_step}
use Rattle.ir_facts.specs.WhatIsChecked.{checks_blocks}
use Rattle.check_statement.specs.FunctionJudgement.{FunctionOutcome, body_judgement, outcome_left, judged_with, declarations_step, expressions_known, context_with, lower_step, function_judgement}
use Rattle.check_scope.specs.Results.{filled_before, filled_points}
use Rattle.check_statement.specs.walk.AskedContext.{asked_context, known_behind}
use Rattle.check_statement.specs.walk.State.{body_outcome, body_left}
use Rattle.check_statement.specs.declared.state.BodyOutcome.{BodyOutcome}
use Rattle.check_scope.specs.declared.trace.TraceState.{TraceState}
use Rattle.check_laws.proofs.Accepted.{with_blocks}
use Rattle.check_statement.proofs.Traces.{no_trace}

-- what is known of a function whose body leaves this
abbrev pub outcome_with : FunctionInfo → BodyOutcome → FunctionOutcome
outcome_with info left = record { info = with_stages info left.stages; trace = left.trace }

pub viewed_refuses : {A B Fault : Type 0} (view : A → B) (r : Result A Fault) (x : Refusal Fault) → Answers (Exactly r) (Err x) → Answers (Exactly (viewed view r)) (Err x)
viewed_refuses view (Ok a) (refusal.Fault f) h = cc
viewed_refuses view (Err e) (refusal.Fault f) h = let same : e ≡ f = cc in ap Err same
viewed_refuses view r refusal.Memory h = tt

module _ (context : Context) where
  viewed_answer : (o : Option FunctionError) (visits : List Visit) →
      answer o (outcome_left context visits) ≡ viewed (outcome_with context.info) (answer o (body_outcome context visits))
  viewed_answer None visits = refl
  viewed_answer (Some f) visits = refl

  viewed_steps : (judged : Result (List Visit) FunctionError) →
      and_then judged (λ visits. answer (first_fault (filled_points context (filled_before visits))) (outcome_left context visits)) ≡ viewed (outcome_with context.info) (body_left context judged)
  viewed_steps (Ok visits) = viewed_answer (first_fault (filled_points context (filled_before visits))) visits
  viewed_steps (Err f) = refl

  -- where bodies are looked at
  body_looked_at : checks_blocks context.settings.flags ≡ true → judged_with context ≡ viewed (outcome_with context.info) (body_left context (body_judgement context))
  body_looked_at on = with_blocks context on ∙ viewed_steps (body_judgement context)

  -- where they are not
  body_passed_over : checks_blocks context.settings.flags ≡ false → judged_with context ≡ Ok (record { info = context.info; trace = context.trace })
  body_passed_over off =
      ap (λ b. and_then (if b then body_judgement context else Ok []) (λ visits. answer (first_fault (if b then filled_points context (filled_before visits) else [])) (outcome_left context visits))) off
      ∙ ap (λ t. Ok (record { info = context.info; trace = t })) (no_trace context.trace)

  -- what the body answers of a function of which this is known
  pub body_refuses : checks_blocks context.settings.flags ≡ true → (x : Refusal FunctionError) → Answers (Exactly (body_left context (body_judgement context))) (Err x) → Answers (Exactly (judged_with context)) (Err x)
  body_refuses on x h =
      subst (λ j. Answers (Exactly j) (Err x)) (sym (body_looked_at on)) (viewed_refuses (outcome_with context.info) (body_left context (body_judgement context)) x h)

  pub body_passes : checks_blocks context.settings.flags ≡ true → (left : BodyOutcome) → body_left context (body_judgement context) ≡ Ok left → judged_with context ≡ Ok (outcome_with context.info left)
  body_passes on left h = body_looked_at on ∙ ap (viewed (outcome_with context.info)) h

  pub no_body : checks_blocks context.settings.flags ≡ false → judged_with context ≡ Ok (record { info = context.info; trace = context.trace })
  no_body off = body_passed_over off

-- the declarations and the expressions
module _ (below : Meaning) (infos : List TypeInfo) (entry_point : Bool) (context : Context) where
  pub declarations_refuse : (x : Refusal FunctionError) → IsFirstFault (declaration_points context infos entry_point) x → Answers (Exactly (known_behind below infos entry_point context)) (Err x)
  declarations_refuse (refusal.Fault f) h =
      ap (λ o. and_then (answer o context.info) (λ info. expressions_known below (record context { info = info }))) h
  declarations_refuse refusal.Memory h = tt

  declarations_pass : first_fault (declaration_points context infos entry_point) ≡ None → known_behind below infos entry_point context ≡ expressions_known below context
  declarations_pass h =
      ap (λ o. and_then (answer o context.info) (λ info. expressions_known below (record context { info = info }))) h

  pub expressions_refuse : first_fault (declaration_points context infos entry_point) ≡ None → (x : Refusal FunctionError) → Answers (Exactly (expressions_step below context)) (Err x) → Answers (Exactly (known_behind below infos entry_point context)) (Err x)
  expressions_refuse h (refusal.Fault f) e =
      declarations_pass h ∙ ap (λ o. and_then o (λ stages. Ok (with_stages context.info stages))) e
  expressions_refuse h refusal.Memory e = tt

  pub expressions_pass : first_fault (declaration_points context infos entry_point) ≡ None → (stages : ShaderStages) → expressions_step below context ≡ Ok stages →
      known_behind below infos entry_point context ≡ Ok (with_stages context.info stages)
  expressions_pass h stages e =
      declarations_pass h ∙ ap (λ o. and_then o (λ stages. Ok (with_stages context.info stages))) e

-- a context fits whatever stages are left
pub fits_with : (context : Context) (known : FunctionInfo) → known ≡ with_stages context.info known.available_stages → ContextFits context → ContextFits (record context { info = known })
fits_with context known e fits =
    subst (λ i. ContextFits (record context { info = i })) (sym e) (record { types = fits.types; fun = fits.fun; one_type_each = fits.one_type_each; types_in_range = fits.types_in_range; no_struct_values = fits.no_struct_values; one_kind_each = fits.one_kind_each })

-- all steps
module _ (below : Meaning) (settings : Settings) (infos : List TypeInfo) (trace : TraceState) (program : Module) (earlier : ModuleInfo) (fun : Function) (entry_point : Bool) where
  abbrev behind : FunctionInfo → Result FunctionOutcome FunctionError
  behind info =
      and_then (declarations_step infos entry_point (context_with below settings infos trace program earlier fun entry_point info)) (λ known.
      and_then (expressions_known below (context_with below settings infos trace program earlier fun entry_point known)) (λ known. judged_with (context_with below settings infos trace program earlier fun entry_point known)))

  pub lower_refuses : (x : Refusal FunctionError) → Answers (Exactly (lower_step below settings infos trace program earlier fun entry_point)) (Err x) → Answers (Exactly (function_judgement below settings infos trace program earlier fun entry_point)) (Err x)
  unfolding function_judgement
  lower_refuses (refusal.Fault f) h = ap (λ l. and_then l behind) h
  lower_refuses refusal.Memory h = tt

  module _ (info : FunctionInfo) (kinds : List ExpressionKind) (lower : lower_step below settings infos trace program earlier fun entry_point ≡ Ok info) (of : kinds ≡ below.kinds_of fun.expressions) where
    abbrev asked_of : List ExpressionKind → FunctionInfo → Context
    asked_of ks known = asked_context settings trace program earlier fun ks known

    abbrev steps : List ExpressionKind → Result FunctionOutcome FunctionError
    steps ks =
        and_then (declarations_step infos entry_point (asked_of ks info)) (λ known.
        and_then (expressions_known below (asked_of ks known)) (λ known. judged_with (asked_of ks known)))

    behind_lower : function_judgement below settings infos trace program earlier fun entry_point ≡ steps kinds
    unfolding function_judgement
    behind_lower = ap (λ l. and_then l behind) lower ∙ ap steps (sym of)

    grouped : (o : Result FunctionInfo FunctionError) →
        and_then o (λ known. and_then (expressions_known below (asked_of kinds known)) (λ known. judged_with (asked_of kinds known)))
        ≡ and_then (and_then o (λ known. expressions_known below (asked_of kinds known))) (λ known. judged_with (asked_of kinds known))
    grouped (Ok known) = refl
    grouped (Err f) = refl

    by_known : function_judgement below settings infos trace program earlier fun entry_point ≡ and_then (known_behind below infos entry_point (asked_of kinds info)) (λ known. judged_with (asked_of kinds known))
    by_known = behind_lower ∙ grouped (declarations_step infos entry_point (asked_of kinds info))

    pub known_refuses : (x : Refusal FunctionError) → Answers (Exactly (known_behind below infos entry_point (asked_of kinds info))) (Err x) → Answers (Exactly (function_judgement below settings infos trace program earlier fun entry_point)) (Err x)
    known_refuses (refusal.Fault f) h = by_known ∙ ap (λ o. and_then o (λ known. judged_with (asked_of kinds known))) h
    known_refuses refusal.Memory h = tt

    pub body_decides : (known : FunctionInfo) (r : Result FunctionOutcome (Refusal FunctionError)) → known_behind below infos entry_point (asked_of kinds info) ≡ Ok known →
        Answers (Exactly (judged_with (asked_of kinds known))) r → Answers (Exactly (function_judgement below settings infos trace program earlier fun entry_point)) r
    body_decides known r h a =
        subst (λ j. Answers (Exactly j) r) (sym (by_known ∙ ap (λ o. and_then o (λ known. judged_with (asked_of kinds known))) h)) a

    -- that context fits, by the laws of the lower layer
    pub fits_first : HasOneTypeEach below → HasTypesInRange below → HasNoStructValues below → HasOneKindEach below →
        FitsTypes program → FitsFunction fun program (length earlier.functions) → ContextFits (asked_of kinds info)
    fits_first types range structs each there fits =
        record {
          types = there;
          fun = fits;
          one_type_each = types fun program earlier settings.flags settings.capabilities info lower;
          types_in_range = range fun program earlier settings.flags settings.capabilities info lower;
          no_struct_values = structs fun program earlier settings.flags settings.capabilities info lower;
          one_kind_each = ap (λ (l : List ExpressionKind). length l) of ∙ each fun.expressions;
        }

    -- the declarations, in the context of what the lower layer knows
    module _ (context : Context) (same : context ≡ asked_of kinds info) where
      pub declarations_refused : (x : Refusal FunctionError) → IsFirstFault (declaration_points context infos entry_point) x → Answers (Exactly (function_judgement below settings infos trace program earlier fun entry_point)) (Err x)
      declarations_refused x h =
          known_refuses x (declarations_refuse below infos entry_point (asked_of kinds info) x (subst (λ (k : Context). IsFirstFault (declaration_points k infos entry_point) x) same h))

      module _ (none : first_fault (declaration_points context infos entry_point) ≡ None) where
        none_here : first_fault (declaration_points (asked_of kinds info) infos entry_point) ≡ None
        none_here = subst (λ (k : Context). first_fault (declaration_points k infos entry_point) ≡ None) same none

        pub expressions_refused : (x : Refusal FunctionError) → Answers (Exactly (expressions_step below (asked_of kinds info))) (Err x) → Answers (Exactly (function_judgement below settings infos trace program earlier fun entry_point)) (Err x)
        expressions_refused x h =
            known_refuses x (expressions_refuse below infos entry_point (asked_of kinds info) none_here x h)

        -- the body, in the context of what is known after the expressions
        module _ (known : FunctionInfo) (left : expressions_step below (asked_of kinds info) ≡ Ok known.available_stages) (kept : known ≡ with_stages info known.available_stages) where
          known_here : known_behind below infos entry_point (asked_of kinds info) ≡ Ok known
          known_here =
              expressions_pass below infos entry_point (asked_of kinds info) none_here known.available_stages left ∙ ap Ok (sym kept)

          pub body_refused : (later : Context) → later ≡ asked_of kinds known → checks_blocks settings.flags ≡ true → (x : Refusal FunctionError) →
              Answers (Exactly (body_left later (body_judgement later))) (Err x) → Answers (Exactly (function_judgement below settings infos trace program earlier fun entry_point)) (Err x)
          body_refused later is on x h =
              body_decides known (Err x) known_here (body_refuses (asked_of kinds known) on x (subst (λ (k : Context). Answers (Exactly (body_left k (body_judgement k))) (Err x)) is h))

          pub body_passed : (later : Context) → later ≡ asked_of kinds known → checks_blocks settings.flags ≡ true → (outcome : BodyOutcome) →
              body_left later (body_judgement later) ≡ Ok outcome → function_judgement below settings infos trace program earlier fun entry_point ≡ Ok (outcome_with known outcome)
          body_passed later is on outcome h =
              body_decides known (Ok (outcome_with known outcome)) known_here (body_passes (asked_of kinds known) on outcome (subst (λ (k : Context). body_left k (body_judgement k) ≡ Ok outcome) is h))

          pub body_unchecked : checks_blocks settings.flags ≡ false → function_judgement below settings infos trace program earlier fun entry_point ≡ Ok (record { info = known; trace = trace })
          body_unchecked off =
              body_decides known (Ok (record { info = known; trace = trace })) known_here (no_body (asked_of kinds known) off)
