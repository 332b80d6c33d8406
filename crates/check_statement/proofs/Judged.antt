-- The judgement by positions, over the visits themselves, is that of the walk from the begin of a body, over what the
-- code keeps of them.
use Rattle.std.proofs.Common.{◌≡◌, None, Result, Ok, Err, List, sym, ap, ◌∙◌}
use Rattle.std.specs.Prelude.{IsErr}
use Rattle.ir_arena.specs.declared.span.Refusal.{Refusal}
use Rattle.ir_arena.specs.declared.span.Refusal.TheVariants as refusal
use Rattle.ir_facts.specs.Answers.{Answers, FirstOf, Exactly}
use Rattle.ir_errors.specs.declared.function.FunctionError.{FunctionError}
use Rattle.naga_runs.proofs.Judgements.{by_tree, earlier_agrees}
use Rattle.ir_arena.specs.Points.{first_fault, answer}
use Rattle.naga_runs.specs.Judgement.{Follows, judgement, viewed}
use Rattle.naga_runs.specs.Visits.{Visit}
use Rattle.check_scope.specs.BodyTrees.{body_of}
use Rattle.check_scope.specs.Context.{Context, pre_emitted}
use Rattle.check_statement.specs.FunctionJudgement.{body_judgement}
use Rattle.check_statement.specs.Past.{past_of}
use Rattle.check_scope.specs.Results.{filled_points}
use Rattle.check_statement.specs.Rules.{points_at, body_rules}
use Rattle.check_statement.specs.walk.State.{State, kept_rules, begin_state, state_left, body_left}
use Rattle.check_statement.specs.declared.state.BodyOutcome.{BodyOutcome}
use Rattle.check_scope.specs.walk.Place.{Sets}
use Rattle.naga_runs.specs.ByTree.{body_abilities}
use Rattle.check_statement.specs.walk.Walk.{body_answer}
use Rattle.check_statement.proofs.StatesLeft.{seen_is, left_by_none, state_more}

follows : (context : Context) → Follows (body_rules context) (kept_rules context) (state_left context)
follows context = record { points = λ visits v. ap (λ past. points_at context past v.place v.node) (sym (seen_is context visits)); advance = λ visits v. state_more context visits v }

pub kept : (context : Context) →
    judgement (kept_rules context) (begin_state context) (pre_emitted context) (body_of context.fun) ≡ viewed (state_left context) (body_judgement context)
unfolding body_judgement
kept context =
    ap (λ state. judgement (kept_rules context) state (pre_emitted context) (body_of context.fun)) (left_by_none context)
    ∙ earlier_agrees (λ earlier v. points_at context (past_of context earlier) v.place v.node) (kept_rules context) (state_left context) (follows context) (pre_emitted context) (body_of context.fun)

-- what is in scope before the first statement, which every run has put
abbrev pub at_first : Context → Sets
at_first context = record { scope = pre_emitted context; must = pre_emitted context }

pub judged : (context : Context) → viewed (state_left context) (body_judgement context) ≡ body_answer context (begin_state context) body_abilities (at_first context) (body_of context.fun)
unfolding body_answer
judged context =
    sym (kept context) ∙ by_tree (kept_rules context) (begin_state context) (pre_emitted context) (body_of context.fun)

-- what the state says of what is left
abbrev pub outcome_in : State → BodyOutcome
outcome_in state = record { stages = state.stages; trace = state.trace }

-- what is left behind a body, from what the code keeps
outcome_is : (context : Context) (judgement : Result (List Visit) FunctionError) (state : State) → viewed (state_left context) judgement ≡ Ok state →
    body_left context judgement ≡ answer (first_fault (filled_points context state.filled)) (outcome_in state)
outcome_is context (Ok visits) state e =
    let same : state_left context visits ≡ state = cc in
    ap (λ (z : State). answer (first_fault (filled_points context z.filled)) (outcome_in z)) same
outcome_is context (Err fault) state e = cc

pub outcome_refuses : (context : Context) (judgement : Result (List Visit) FunctionError) (e : Refusal FunctionError) → Answers (Exactly (viewed (state_left context) judgement)) (Err e) → Answers (Exactly (body_left context judgement)) (Err e)
outcome_refuses context (Ok visits) (refusal.Fault f) h = cc
outcome_refuses context (Err fault) (refusal.Fault f) h = let same : fault ≡ f = cc in ap Err same
outcome_refuses context judgement refusal.Memory h = tt

-- a result that is not filled
pub unfilled_refuses : (context : Context) (judgement : Result (List Visit) FunctionError) (state : State) (r : Result BodyOutcome (Refusal FunctionError)) → viewed (state_left context) judgement ≡ Ok state → IsErr r → Answers (FirstOf (filled_points context state.filled)) r → Answers (Exactly (body_left context judgement)) r
unfilled_refuses context judgement state (Err (refusal.Fault f)) is err h =
    outcome_is context judgement state is ∙ ap (λ o. answer o (outcome_in state)) h
unfilled_refuses context judgement state (Err refusal.Memory) is err h = tt
unfilled_refuses context judgement state (Ok t) is err h = cc

pub all_filled : (context : Context) (judgement : Result (List Visit) FunctionError) (state : State) → viewed (state_left context) judgement ≡ Ok state → first_fault (filled_points context state.filled) ≡ None → body_left context judgement ≡ Ok (outcome_in state)
all_filled context judgement state is h =
    outcome_is context judgement state is ∙ ap (λ o. answer o (outcome_in state)) h
