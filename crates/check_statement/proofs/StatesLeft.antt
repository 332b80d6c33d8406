-- What visits leave, and what one visit more leaves.
use Rattle.std.proofs.Common.{◌≡◌, List, [], ◌∷◌, ◌++◌, refl, sym, ◌∙◌}
use Rattle.naga_runs.specs.Positions.{BodyNode, NoNode, StatementNode, BreakIfNode}
use Rattle.naga_runs.specs.Visits.{Visit}
use Rattle.check_scope.specs.Context.{Context}
use Rattle.check_statement.specs.Past.{past_of}
use Rattle.check_scope.specs.Results.{result_of, filled_before}
use Rattle.check_statement.specs.Rules.{stages_behind}
use Rattle.check_statement.specs.walk.State.{State, seen, with_result, state_behind, begin_state, state_left}
use Rattle.check_resources.specs.Traces.{payload_before, with_trace}
use Rattle.check_statement.proofs.Fillings.{filled_more, stages_more}
use Rattle.check_statement.proofs.Traces.{no_trace, trace_more}

-- the check lists are asked with the same
pub seen_is : (context : Context) (visits : List Visit) → seen (state_left context visits) ≡ past_of context visits
seen_is context visits i =
    record { filled = filled_before visits; payload = payload_before context.trace context visits }

-- no visits leave what a body begins with
pub left_by_none : (context : Context) → begin_state context ≡ state_left context []
left_by_none context i = record (begin_state context) { trace = sym (no_trace context.trace) i }

abbrev behind_all : Context → State → BodyNode → State
behind_all context state node =
    record {
      stages = stages_behind context state.stages node;
      filled = with_result state.filled (result_of node);
      trace = with_trace context state.trace node;
    }

behind : (context : Context) (state : State) (node : BodyNode) → behind_all context state node ≡ state_behind context state node
behind context state NoNode = λ i. record state { trace = no_trace state.trace i }
behind context state (StatementNode x) = refl
behind context state (BreakIfNode h) = λ i. record state { trace = no_trace state.trace i }

pub state_more : (context : Context) (visits : List Visit) (v : Visit) → state_left context (visits ++ (v ∷ [])) ≡ state_behind context (state_left context visits) v.node
state_more context visits v =
    (λ i. record { stages = stages_more context context.info.available_stages visits v i; filled = filled_more visits v i; trace = trace_more context.trace context visits v i })
    ∙ behind context (state_left context visits) v.node
