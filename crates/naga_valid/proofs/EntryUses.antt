-- What is known of an accepted function has one use for each global of the module.
use Rattle.std.proofs.Common.{◌≡◌, Bool, List, Option, None, Some, Result, Ok, Err, length, refl, sym, ap, ◌∙◌}
use Rattle.ir_arena.specs.Points.{first_fault, answer, and_then}
use Rattle.ir_module.specs.declared.functions.Function.{Function}
use Rattle.ir_module.specs.declared.module.Module.{Module}
use Rattle.ir_flags.specs.declared.valid.GlobalUse.{GlobalUse}
use Rattle.ir_flags.specs.declared.valid.ShaderStages.{ShaderStages}
use Rattle.ir_facts.specs.declared.valid.info.FunctionInfo.{FunctionInfo}
use Rattle.ir_facts.specs.declared.valid.info.ModuleInfo.{ModuleInfo}
use Rattle.ir_facts.specs.declared.valid.settings.Settings.{Settings}
use Rattle.ir_types.specs.declared.type_info.TypeInfo.{TypeInfo}
use Rattle.ir_facts.specs.Meaning.{Meaning, HasOneUseEach}
use Rattle.ir_errors.specs.declared.function.FunctionError.{FunctionError}
use Rattle.naga_runs.specs.Visits.{Visit}
use Rattle.check_scope.specs.Context.{Context}
use Rattle.check_statement.specs.Declarations.{declaration_points}
use Rattle.check_statement.specs.ExpressionStages.{with_stages, expressions_step}
use Rattle.check_statement.specs.FunctionJudgement.{FunctionOutcome, body_step, unfilled_points, outcome_left, judged_with, context_with, declarations_step, expressions_known, lower_step, function_judgement}
use Rattle.check_scope.specs.declared.trace.TraceState.{TraceState}

by_unfilled : (context : Context) (visits : List Visit) (outcome : FunctionOutcome) (o : Option FunctionError) → answer o (outcome_left context visits) ≡ Ok outcome → outcome.info.global_uses ≡ context.info.global_uses
by_unfilled context visits outcome None e =
    let same : outcome_left context visits ≡ outcome = cc in ap (λ (left : FunctionOutcome). left.info.global_uses) (sym same)
by_unfilled context visits outcome (Some f) e = cc

by_body : (context : Context) (outcome : FunctionOutcome) (o : Result (List Visit) FunctionError) →
    and_then o (λ visits. answer (first_fault (unfilled_points context visits)) (outcome_left context visits)) ≡ Ok outcome → outcome.info.global_uses ≡ context.info.global_uses
by_body context outcome (Ok visits) e = by_unfilled context visits outcome (first_fault (unfilled_points context visits)) e
by_body context outcome (Err f) e = cc

module _ (below : Meaning) (settings : Settings) (infos : List TypeInfo) (trace : TraceState) (program : Module) (earlier : ModuleInfo) (fun : Function) (entry_point : Bool) (outcome : FunctionOutcome) where
  abbrev context_of : FunctionInfo → Context
  context_of info = context_with below settings infos trace program earlier fun entry_point info

  by_expressions : (info : FunctionInfo) (o : Result ShaderStages FunctionError) →
      and_then (and_then o (λ stages. Ok (with_stages info stages))) (λ known. judged_with (context_of known)) ≡ Ok outcome → outcome.info.global_uses ≡ info.global_uses
  by_expressions info (Ok stages) e =
      by_body (context_of (with_stages info stages)) outcome (body_step (context_of (with_stages info stages))) e
  by_expressions info (Err f) e = cc

  by_declarations : (info : FunctionInfo) (o : Option FunctionError) →
      and_then (answer o info) (λ known. and_then (expressions_known below (context_of known)) (λ known. judged_with (context_of known))) ≡ Ok outcome → outcome.info.global_uses ≡ info.global_uses
  by_declarations info None e = by_expressions info (expressions_step below (context_of info)) e
  by_declarations info (Some f) e = cc

  -- the uses are those that the lower layer gives
  record Given : Type 0 where
    info : FunctionInfo
    lower : lower_step below settings infos trace program earlier fun entry_point ≡ Ok info
    uses : outcome.info.global_uses ≡ info.global_uses

  by_lower : (lower : Result FunctionInfo FunctionError) → lower_step below settings infos trace program earlier fun entry_point ≡ lower →
      and_then lower (λ info. and_then (declarations_step infos entry_point (context_of info)) (λ known. and_then (expressions_known below (context_of known)) (λ known. judged_with (context_of known)))) ≡ Ok outcome → Given
  by_lower (Ok info) is e =
      record { info = info; lower = is; uses = by_declarations info (first_fault (declaration_points (context_of info) infos entry_point)) e }
  by_lower (Err f) is e = cc

  given : function_judgement below settings infos trace program earlier fun entry_point ≡ Ok outcome → Given
  unfolding function_judgement
  given e = by_lower (lower_step below settings infos trace program earlier fun entry_point) refl e

  pub one_use_each : HasOneUseEach below → function_judgement below settings infos trace program earlier fun entry_point ≡ Ok outcome →
      length outcome.info.global_uses ≡ length program.global_variables
  one_use_each law e =
      let k = given e in
      ap (λ (l : List GlobalUse). length l) k.uses ∙ law fun program earlier settings.flags settings.capabilities k.info k.lower
