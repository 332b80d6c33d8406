-- The judgement of a function's body, and of a function: a chain of steps, each an answer of the lower layer or the fault
-- of the first of its points that fails.
use Rattle.std.specs.Prelude.{Bool, List, [], Result, Ok, Err, if◌then◌else◌}
use Rattle.ir_arena.specs.Points.{first_fault, answer, and_then}
use Rattle.ir_module.specs.declared.functions.Function.{Function}
use Rattle.ir_module.specs.declared.module.Module.{Module}
use Rattle.ir_facts.specs.declared.valid.info.FunctionInfo.{FunctionInfo}
use Rattle.ir_facts.specs.declared.valid.info.ModuleInfo.{ModuleInfo}
use Rattle.ir_facts.specs.declared.valid.settings.Settings.{Settings}
use Rattle.ir_types.specs.declared.type_info.TypeInfo.{TypeInfo}
use Rattle.ir_facts.specs.Meaning.{Meaning}
use Rattle.ir_errors.specs.declared.function.FunctionError.{FunctionError}
use Rattle.naga_runs.specs.Judgement.{judgement}
use Rattle.naga_runs.specs.Visits.{Visit}
use Rattle.check_scope.specs.BodyTrees.{body_of}
use Rattle.check_scope.specs.Context.{Context, pre_emitted}
use Rattle.check_statement.specs.Declarations.{declaration_points}
use Rattle.check_statement.specs.ExpressionStages.{with_stages, expressions_step}
use Rattle.ir_facts.specs.WhatIsChecked.{checks_blocks}
use Rattle.check_scope.specs.ScopePoints.{Points}
use Rattle.check_scope.specs.Results.{filled_before, filled_points}
use Rattle.check_statement.specs.Rules.{body_rules, stages_left}
use Rattle.check_resources.specs.Traces.{trace_after}
use Rattle.check_scope.specs.declared.trace.TraceState.{TraceState}

-- the judgement of a body: the fault of the first check point that fails, in visit order; else its visits
unfoldable pub body_judgement : Context → Result (List Visit) FunctionError
body_judgement context = judgement (body_rules context) [] (pre_emitted context) (body_of context.fun)

-- the step of the body: where bodies are checked its judgement; elsewhere nothing is visited
abbrev pub body_step : Context → Result (List Visit) FunctionError
body_step context = if checks_blocks context.settings.flags then body_judgement context else Ok []

-- where bodies and expressions are checked, each result is filled after the body
abbrev pub unfilled_points : Context → List Visit → Points
unfilled_points context visits = if checks_blocks context.settings.flags then filled_points context (filled_before visits) else []

-- what is known of an accepted function: its info, and what ray traces leave to later functions
pub record FunctionOutcome : Type 0 where
  pub info : FunctionInfo
  pub trace : TraceState

-- what visits leave of a function: its info with the stages of all statements, and what ray traces leave
abbrev pub outcome_left : Context → List Visit → FunctionOutcome
outcome_left context visits =
    record {
      info = with_stages context.info (stages_left context context.info.available_stages visits);
      trace = trace_after context.trace context visits;
    }

-- the steps after the lower layer's answer: the body, and then its results
abbrev pub judged_with : Context → Result FunctionOutcome FunctionError
judged_with context =
    and_then (body_step context) (λ visits. answer (first_fault (unfilled_points context visits)) (outcome_left context visits))

-- the step of the local variables, the arguments and the result
abbrev pub declarations_step : List TypeInfo → Bool → Context → Result FunctionInfo FunctionError
declarations_step infos entry_point context = answer (first_fault (declaration_points context infos entry_point)) context.info

-- the step of the expressions: the info with the stages that they leave
abbrev pub expressions_known : Meaning → Context → Result FunctionInfo FunctionError
expressions_known below context = and_then (expressions_step below context) (λ stages. Ok (with_stages context.info stages))

-- of a lower layer that means this, where these are the infos of the module's types, and ray traces left this before the
-- function, which is an entry point's or not
module _ (below : Meaning) (settings : Settings) (infos : List TypeInfo) (trace : TraceState) (program : Module)
    (earlier : ModuleInfo) (fun : Function) (entry_point : Bool) where
  -- what the check lists read, where this is known of the function
  abbrev pub context_with : FunctionInfo → Context
  context_with info =
      record {
        program = program;
        earlier = earlier;
        fun = fun;
        info = info;
        kinds = below.kinds_of fun.expressions;
        settings = settings;
        trace = trace;
      }

  -- what the lower layer answers of the function
  abbrev pub lower_step : Result FunctionInfo FunctionError
  lower_step = below.function_info fun program earlier settings.flags settings.capabilities

  -- The judgement of a function, step by step: what the lower layer answers of it; its local variables, arguments and
  -- result; where expressions are checked each of them; where bodies are checked the body; and with both that each
  -- result is filled. It is the first fault; else the info, with the stages that expressions and statements leave, and what
  -- ray traces leave.
  unfoldable pub function_judgement : Result FunctionOutcome FunctionError
  function_judgement =
      and_then lower_step (λ info.
      and_then (declarations_step infos entry_point (context_with info)) (λ info.
      and_then (expressions_known below (context_with info)) (λ info. judged_with (context_with info))))

-- the answer about a function, with what is left of ray traces
abbrev pub outcome_of : {Fault : Type 0} → TraceState → Result FunctionInfo Fault → Result FunctionOutcome Fault
outcome_of trace (Ok info) = Ok (record { info = info; trace = trace })
outcome_of trace (Err fault) = Err fault
