-- What the code keeps along the visits of a body: the stages that are left, the results that are filled, and what ray
-- traces leave. Work of lemmas, cited by functions that the validator alone calls.
use Rattle.std.specs.Prelude.{List, Option, None, Some, Result, ℕ}
use Rattle.ir_arena.specs.Points.{first_fault, answer, and_then}
use Rattle.ir_statements.specs.Tree.{Stmt}
use Rattle.ir_errors.specs.declared.function.FunctionError.{FunctionError}
use Rattle.ir_flags.specs.declared.valid.ShaderStages.{ShaderStages}
use Rattle.naga_runs.specs.Handles.{Handles, no_handles, with_handle}
use Rattle.naga_runs.specs.Judgement.{Rules}
use Rattle.naga_runs.specs.Positions.{BodyNode, StatementNode}
use Rattle.naga_runs.specs.Visits.{Visit}
use Rattle.check_statement.specs.Past.{Past}
use Rattle.check_scope.specs.Context.{Context}
use Rattle.check_scope.specs.Results.{result_of, filled_before, filled_points}
use Rattle.check_statement.specs.Rules.{points_at, stages_behind, stages_left}
use Rattle.check_scope.specs.walk.Table.{filled_in}
use Rattle.check_resources.specs.Traces.{trace_after, with_trace}
use Rattle.check_statement.specs.declared.state.BodyOutcome.{BodyOutcome}
use Rattle.check_scope.specs.declared.table.FilledColumn.{FilledColumn}
use Rattle.check_scope.specs.declared.trace.TraceState.{TraceState}

pub record State : Type 0 where
  pub stages : ShaderStages
  pub filled : Handles
  pub trace : TraceState

-- the state that the code keeps, the results in the table's column
abbrev pub kept : FilledColumn → BodyOutcome → State
kept filled state = record { stages = state.stages; filled = filled_in filled; trace = state.trace }

-- what the check lists ask of it
abbrev pub seen : State → Past
seen state = record { filled = state.filled; payload = state.trace.payload }

-- the results that are filled after a visit
abbrev pub with_result : Handles → Option ℕ → Handles
with_result filled None = filled
with_result filled (Some r) = with_handle filled r

-- the state after a statement
abbrev pub with_statement : Context → State → Stmt → State
with_statement context state x =
    record {
      stages = stages_behind context state.stages (StatementNode x);
      filled = with_result state.filled (result_of (StatementNode x));
      trace = with_trace context state.trace (StatementNode x);
    }

-- a break condition is no statement
abbrev pub state_behind : Context → State → BodyNode → State
state_behind context state (StatementNode x) = with_statement context state x
state_behind context state _ = state

-- the rules of a body over this state
abbrev pub kept_rules : Context → Rules State FunctionError
kept_rules context =
    record {
      points = λ state visit. points_at context (seen state) visit.place visit.node;
      advance = λ state visit. state_behind context state visit.node;
    }

-- what a body begins with: the stages that the lower layer leaves the function, and what earlier ray traces left
abbrev pub begin_state : Context → State
begin_state context = record { stages = context.info.available_stages; filled = no_handles; trace = context.trace }

-- what visits leave
abbrev pub state_left : Context → List Visit → State
state_left context visits =
    record {
      stages = stages_left context context.info.available_stages visits;
      filled = filled_before visits;
      trace = trace_after context.trace context visits;
    }

-- what the code answers of a body: the stages and what ray traces leave, where each result is filled after it
abbrev pub body_outcome : Context → List Visit → BodyOutcome
body_outcome context visits =
    record {
      stages = stages_left context context.info.available_stages visits;
      trace = trace_after context.trace context visits;
    }

abbrev pub body_left : Context → Result (List Visit) FunctionError → Result BodyOutcome FunctionError
body_left context judged =
    and_then judged (λ visits. answer (first_fault (filled_points context (filled_before visits))) (body_outcome context visits))
