-- What a validator asks of a function, as the definitions have it: work of lemmas, cited by functions that the validator alone
-- calls.
use Rattle.std.specs.Prelude.{Bool, List, Result}
use Rattle.ir_arena.specs.Points.{and_then}
use Rattle.ir_module.specs.declared.functions.Function.{Function}
use Rattle.ir_module.specs.declared.module.Module.{Module}
use Rattle.ir_facts.specs.declared.proc.expression_kinds.ExpressionKind.{ExpressionKind}
use Rattle.ir_facts.specs.declared.valid.info.FunctionInfo.{FunctionInfo}
use Rattle.ir_facts.specs.declared.valid.info.ModuleInfo.{ModuleInfo}
use Rattle.ir_facts.specs.declared.valid.settings.Settings.{Settings}
use Rattle.ir_types.specs.declared.type_info.TypeInfo.{TypeInfo}
use Rattle.ir_facts.specs.Meaning.{Meaning}
use Rattle.ir_errors.specs.declared.function.FunctionError.{FunctionError}
use Rattle.check_scope.specs.Context.{Context}
use Rattle.check_statement.specs.FunctionJudgement.{FunctionOutcome, declarations_step, expressions_known, function_judgement}
use Rattle.check_statement.specs.ValidatorParts.{ValidatorParts}
use Rattle.check_scope.specs.declared.trace.TraceState.{TraceState}

-- the context that a validator with these settings and this trace state judges a function in
abbrev pub asked_context : Settings → TraceState → Module → ModuleInfo → Function → List ExpressionKind → FunctionInfo → Context
asked_context settings trace program earlier fun kinds info =
    record {
      program = program;
      earlier = earlier;
      fun = fun;
      info = info;
      kinds = kinds;
      settings = settings;
      trace = trace;
    }

-- what is known of a function after its declarations and its expressions
abbrev pub known_behind : Meaning → List TypeInfo → Bool → Context → Result FunctionInfo FunctionError
known_behind below infos entry_point context =
    and_then (declarations_step infos entry_point context) (λ info. expressions_known below (record context { info = info }))

-- of a validator of these parts, over a lower layer that means this
module _ {B : Type 0} (parts : ValidatorParts B) where
  -- the context that it judges a function in
  abbrev pub asked_by : Module → ModuleInfo → Function → List ExpressionKind → FunctionInfo → Context
  asked_by program earlier fun kinds info = asked_context parts.settings parts.trace program earlier fun kinds info

  -- its judgement of a function
  abbrev pub judgement_by : Meaning → Module → ModuleInfo → Function → Bool → Result FunctionOutcome FunctionError
  judgement_by below program earlier fun entry_point =
      function_judgement below parts.settings parts.types parts.trace program earlier fun entry_point
