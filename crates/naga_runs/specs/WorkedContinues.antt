-- What a Continue skips and what it does not: what every run has put, the answer of the plainest rules, and runs beside
-- them, worked by hand from the definitions in words. Handles below 7, at most one turn of each Loop.
use Rattle.std.specs.Prelude.{ℕ, List, None, Ok, Err, map, ◌≡◌, ◌∷◌, []}
use Rattle.ir_statements.specs.declared.statements.Statement as s
use Rattle.ir_statements.specs.Tree.{Act, Stmt, Body, Use, Put, Leaf, Loop, Done, Then}
use Rattle.naga_runs.specs.Machine.{run, events_of, Next, Returned, Stopped, Stuck}
use Rattle.naga_runs.specs.PlainRules.{NotInScope, ContinueOutside}
use Rattle.naga_runs.specs.Positions.{Position, Root, LoopBody, Continuing, Condition, In}
use Rattle.naga_runs.specs.Samples.{given, members_below, nowhere, emit, emit_5, emit_6, reads, one, may_continue_here, sure_loop, continue_in_switch, dead_continue, continue_in_inner_block, continue_in_continuing, continue_behind_return, two_continues, inner_continue_before, emits_round_continue}
use Rattle.naga_runs.specs.Skipped.{skipped_at}
use Rattle.naga_runs.specs.WorkedJudgements.{plainly}
use Rattle.naga_runs.specs.WorkedPlaces.{musts}
use Rattle.naga_runs.specs.WorkedRuns.{ends}

-- the events of a run with these choices: the act, where it stands, what is live before it, and what is skipped there
abbrev pub recorded_by : Body → List ℕ → List (Act × Position × List ℕ × List ℕ)
recorded_by b choices =
    map (λ e. (e.act, e.position, members_below 7 e.live, members_below 7 (skipped_at b e.position e.cuts)))
    (events_of (run b given 1 choices))

-- a Call of function 0 with one argument, and without a result
abbrev pub calls_with : ℕ → Stmt
calls_with h = Leaf (Use h ∷ []) (s.Call 0 (h ∷ []) None) nowhere

-- A Continue in a Block in an If: the index is that of the If, and what stands after the If is skipped.
pub record InnerBlockContinues : Type 0 where
  pub must : musts continue_in_inner_block ≡
      (0 ∷ 1 ∷ 2 ∷ 4 ∷ [])
      ∷ (0 ∷ 1 ∷ 2 ∷ 4 ∷ [])
      ∷ (0 ∷ 1 ∷ 2 ∷ 4 ∷ [])
      ∷ (0 ∷ 1 ∷ 2 ∷ 4 ∷ [])
      ∷ (0 ∷ 1 ∷ 2 ∷ 4 ∷ [])
      ∷ (0 ∷ 1 ∷ 2 ∷ 4 ∷ [])
      ∷ []
  pub refused : plainly continue_in_inner_block ≡ Err (NotInScope 3)
  pub skips : recorded_by continue_in_inner_block (0 ∷ 0 ∷ []) ≡
      (Use 0, In Root 0 ∷ In LoopBody 0 ∷ [], 0 ∷ 1 ∷ 2 ∷ 4 ∷ [], [])
      ∷ (Use 3, In Root 0 ∷ In Condition 0 ∷ [], 0 ∷ 1 ∷ 2 ∷ 4 ∷ [], 3 ∷ [])
      ∷ []
  pub goes_on : ends continue_in_inner_block (0 ∷ 0 ∷ []) ≡ Next

-- A Continue in a Switch in the continuing list of a nested Loop: it is none of the outer Loop, it may not stand there,
-- and a run that comes to it is stuck.
pub record ContinuingContinues : Type 0 where
  pub must : musts continue_in_continuing ≡
      (0 ∷ 1 ∷ 2 ∷ 4 ∷ [])
      ∷ (0 ∷ 1 ∷ 2 ∷ 4 ∷ [])
      ∷ (0 ∷ 1 ∷ 2 ∷ 4 ∷ [])
      ∷ (0 ∷ 1 ∷ 2 ∷ 4 ∷ [])
      ∷ (0 ∷ 1 ∷ 2 ∷ 4 ∷ [])
      ∷ (0 ∷ 1 ∷ 2 ∷ 3 ∷ 4 ∷ [])
      ∷ []
  pub refused : plainly continue_in_continuing ≡ Err ContinueOutside
  pub comes_to_it : recorded_by continue_in_continuing (0 ∷ []) ≡
      (Use 1, In Root 0 ∷ In LoopBody 0 ∷ In Continuing 0 ∷ [], 0 ∷ 1 ∷ 2 ∷ 4 ∷ [], [])
      ∷ []
  pub stuck : ends continue_in_continuing (0 ∷ []) ≡ Stuck

-- A Continue after a Return: no run reaches it or skips anything, and it takes the emission away all the same.
pub record ReturnsFirst : Type 0 where
  pub must : musts continue_behind_return ≡
      (0 ∷ 1 ∷ 2 ∷ 4 ∷ [])
      ∷ (0 ∷ 1 ∷ 2 ∷ 4 ∷ [])
      ∷ (0 ∷ 1 ∷ 2 ∷ 4 ∷ [])
      ∷ (0 ∷ 1 ∷ 2 ∷ 4 ∷ [])
      ∷ (0 ∷ 1 ∷ 2 ∷ 4 ∷ [])
      ∷ (0 ∷ 1 ∷ 2 ∷ 4 ∷ [])
      ∷ []
  pub refused : plainly continue_behind_return ≡ Err (NotInScope 3)
  pub uses : recorded_by continue_behind_return (0 ∷ []) ≡
      (Use 0, In Root 0 ∷ In LoopBody 0 ∷ [], 0 ∷ 1 ∷ 2 ∷ 4 ∷ [], [])
      ∷ []
  pub returns : ends continue_behind_return (0 ∷ []) ≡ Returned
  pub puts : recorded_by continue_behind_return (1 ∷ 0 ∷ []) ≡
      (Use 0, In Root 0 ∷ In LoopBody 0 ∷ [], 0 ∷ 1 ∷ 2 ∷ 4 ∷ [], [])
      ∷ (Put 3, In Root 0 ∷ In LoopBody 1 ∷ [], 0 ∷ 1 ∷ 2 ∷ 4 ∷ [], [])
      ∷ (Use 3, In Root 0 ∷ In Condition 0 ∷ [], 0 ∷ 1 ∷ 2 ∷ 3 ∷ 4 ∷ [], [])
      ∷ []
  pub goes_on : ends continue_behind_return (1 ∷ 0 ∷ []) ≡ Next

-- Two Continues: the list counts before the first alone, and each skips what stands after it.
pub record ContinuesTwice : Type 0 where
  pub must : musts two_continues ≡
      (0 ∷ 1 ∷ 2 ∷ 4 ∷ [])
      ∷ (0 ∷ 1 ∷ 2 ∷ 4 ∷ [])
      ∷ (0 ∷ 1 ∷ 2 ∷ 4 ∷ [])
      ∷ (0 ∷ 1 ∷ 2 ∷ 4 ∷ [])
      ∷ (0 ∷ 1 ∷ 2 ∷ 3 ∷ 4 ∷ [])
      ∷ (0 ∷ 1 ∷ 2 ∷ 3 ∷ 4 ∷ [])
      ∷ (0 ∷ 1 ∷ 2 ∷ 3 ∷ 4 ∷ [])
      ∷ (0 ∷ 1 ∷ 2 ∷ 4 ∷ [])
      ∷ []
  pub refused : plainly two_continues ≡ Err (NotInScope 3)
  pub first : recorded_by two_continues (0 ∷ 0 ∷ []) ≡
      (Use 0, In Root 0 ∷ In LoopBody 0 ∷ [], 0 ∷ 1 ∷ 2 ∷ 4 ∷ [], [])
      ∷ (Use 3, In Root 0 ∷ In Condition 0 ∷ [], 0 ∷ 1 ∷ 2 ∷ 4 ∷ [], 3 ∷ 5 ∷ [])
      ∷ []
  pub second : recorded_by two_continues (1 ∷ 0 ∷ 0 ∷ []) ≡
      (Use 0, In Root 0 ∷ In LoopBody 0 ∷ [], 0 ∷ 1 ∷ 2 ∷ 4 ∷ [], [])
      ∷ (Put 3, In Root 0 ∷ In LoopBody 1 ∷ [], 0 ∷ 1 ∷ 2 ∷ 4 ∷ [], [])
      ∷ (Use 0, In Root 0 ∷ In LoopBody 2 ∷ [], 0 ∷ 1 ∷ 2 ∷ 3 ∷ 4 ∷ [], [])
      ∷ (Use 3, In Root 0 ∷ In Condition 0 ∷ [], 0 ∷ 1 ∷ 2 ∷ 3 ∷ 4 ∷ [], 5 ∷ [])
      ∷ []
  pub neither : recorded_by two_continues (1 ∷ 1 ∷ 0 ∷ []) ≡
      (Use 0, In Root 0 ∷ In LoopBody 0 ∷ [], 0 ∷ 1 ∷ 2 ∷ 4 ∷ [], [])
      ∷ (Put 3, In Root 0 ∷ In LoopBody 1 ∷ [], 0 ∷ 1 ∷ 2 ∷ 4 ∷ [], [])
      ∷ (Use 0, In Root 0 ∷ In LoopBody 2 ∷ [], 0 ∷ 1 ∷ 2 ∷ 3 ∷ 4 ∷ [], [])
      ∷ (Put 5, In Root 0 ∷ In LoopBody 3 ∷ [], 0 ∷ 1 ∷ 2 ∷ 3 ∷ 4 ∷ [], [])
      ∷ (Use 3, In Root 0 ∷ In Condition 0 ∷ [], 0 ∷ 1 ∷ 2 ∷ 3 ∷ 4 ∷ 5 ∷ [], [])
      ∷ []

-- A Continue of a nested Loop, with an emission of the outer Loop after it: the emission is not skipped.
pub record InnerContinues : Type 0 where
  pub must : musts inner_continue_before ≡
      (0 ∷ 1 ∷ 2 ∷ 4 ∷ [])
      ∷ (0 ∷ 1 ∷ 2 ∷ 4 ∷ [])
      ∷ (0 ∷ 1 ∷ 2 ∷ 4 ∷ [])
      ∷ (0 ∷ 1 ∷ 2 ∷ 4 ∷ [])
      ∷ (0 ∷ 1 ∷ 2 ∷ 4 ∷ [])
      ∷ (0 ∷ 1 ∷ 2 ∷ 3 ∷ 4 ∷ [])
      ∷ []
  pub accepted : plainly inner_continue_before ≡ Ok 6
  pub puts : recorded_by inner_continue_before (0 ∷ 0 ∷ []) ≡
      (Use 0, In Root 0 ∷ In LoopBody 0 ∷ In Condition 0 ∷ [], 0 ∷ 1 ∷ 2 ∷ 4 ∷ [], [])
      ∷ (Put 3, In Root 0 ∷ In LoopBody 1 ∷ [], 0 ∷ 1 ∷ 2 ∷ 4 ∷ [], [])
      ∷ (Use 3, In Root 0 ∷ In Condition 0 ∷ [], 0 ∷ 1 ∷ 2 ∷ 3 ∷ 4 ∷ [], [])
      ∷ []
  pub goes_on : ends inner_continue_before (0 ∷ 0 ∷ []) ≡ Next

-- An emission before the Continue and one after it, both used in the continuing list: the first is live in each run,
-- the second is skipped in one.
pub record EmitsRoundContinue : Type 0 where
  pub must : musts emits_round_continue ≡
      (0 ∷ 1 ∷ 2 ∷ 4 ∷ [])
      ∷ (0 ∷ 1 ∷ 2 ∷ 4 ∷ [])
      ∷ (0 ∷ 1 ∷ 2 ∷ 3 ∷ 4 ∷ [])
      ∷ (0 ∷ 1 ∷ 2 ∷ 3 ∷ 4 ∷ [])
      ∷ (0 ∷ 1 ∷ 2 ∷ 3 ∷ 4 ∷ [])
      ∷ (0 ∷ 1 ∷ 2 ∷ 3 ∷ 4 ∷ [])
      ∷ (0 ∷ 1 ∷ 2 ∷ 3 ∷ 4 ∷ [])
      ∷ []
  pub refused : plainly emits_round_continue ≡ Err (NotInScope 5)
  pub skips : recorded_by emits_round_continue (0 ∷ 0 ∷ 0 ∷ []) ≡
      (Put 3, In Root 0 ∷ In LoopBody 0 ∷ [], 0 ∷ 1 ∷ 2 ∷ 4 ∷ [], [])
      ∷ (Use 0, In Root 0 ∷ In LoopBody 1 ∷ [], 0 ∷ 1 ∷ 2 ∷ 3 ∷ 4 ∷ [], [])
      ∷ (Use 3, In Root 0 ∷ In Continuing 0 ∷ [], 0 ∷ 1 ∷ 2 ∷ 3 ∷ 4 ∷ [], 5 ∷ [])
      ∷ (Use 5, In Root 0 ∷ In Continuing 1 ∷ [], 0 ∷ 1 ∷ 2 ∷ 3 ∷ 4 ∷ [], 5 ∷ [])
      ∷ []
  pub puts : recorded_by emits_round_continue (1 ∷ 0 ∷ 0 ∷ []) ≡
      (Put 3, In Root 0 ∷ In LoopBody 0 ∷ [], 0 ∷ 1 ∷ 2 ∷ 4 ∷ [], [])
      ∷ (Use 0, In Root 0 ∷ In LoopBody 1 ∷ [], 0 ∷ 1 ∷ 2 ∷ 3 ∷ 4 ∷ [], [])
      ∷ (Put 5, In Root 0 ∷ In LoopBody 2 ∷ [], 0 ∷ 1 ∷ 2 ∷ 3 ∷ 4 ∷ [], [])
      ∷ (Use 3, In Root 0 ∷ In Continuing 0 ∷ [], 0 ∷ 1 ∷ 2 ∷ 3 ∷ 4 ∷ 5 ∷ [], [])
      ∷ (Use 5, In Root 0 ∷ In Continuing 1 ∷ [], 0 ∷ 1 ∷ 2 ∷ 3 ∷ 4 ∷ 5 ∷ [], [])
      ∷ []
  pub stops : ends emits_round_continue (0 ∷ 0 ∷ 0 ∷ []) ≡ Stopped

-- One run each of bodies that stand among the judgements: what is refused there is not live here, or put while it is.
pub record RowsRun : Type 0 where
  -- loop { emit 3 if 0 { continue } { } } { } break_if 3, where 3 has the operand 0
  pub emitted_first : recorded_by sure_loop (0 ∷ 0 ∷ []) ≡
      (Use 0, In Root 0 ∷ In LoopBody 0 ∷ [], 0 ∷ 1 ∷ 2 ∷ 4 ∷ [], [])
      ∷ (Put 3, In Root 0 ∷ In LoopBody 0 ∷ [], 0 ∷ 1 ∷ 2 ∷ 4 ∷ [], [])
      ∷ (Use 0, In Root 0 ∷ In LoopBody 1 ∷ [], 0 ∷ 1 ∷ 2 ∷ 3 ∷ 4 ∷ [], [])
      ∷ (Use 3, In Root 0 ∷ In Condition 0 ∷ [], 0 ∷ 1 ∷ 2 ∷ 3 ∷ 4 ∷ [], [])
      ∷ []
  -- loop { if 0 { continue } { } emit 3 if 3 { } { } } { }
  pub in_the_body : recorded_by (one (Loop (Then may_continue_here (Then (emit 3) (one (reads 3)))) Done None)) (1 ∷ 0 ∷ []) ≡
      (Use 0, In Root 0 ∷ In LoopBody 0 ∷ [], 0 ∷ 1 ∷ 2 ∷ 4 ∷ [], [])
      ∷ (Put 3, In Root 0 ∷ In LoopBody 1 ∷ [], 0 ∷ 1 ∷ 2 ∷ 4 ∷ [], [])
      ∷ (Use 3, In Root 0 ∷ In LoopBody 2 ∷ [], 0 ∷ 1 ∷ 2 ∷ 3 ∷ 4 ∷ [], [])
      ∷ []
  -- loop { if 0 { continue } { } emit 3 } { emit 3 }
  pub put_again : recorded_by (one (Loop (Then may_continue_here (one (emit 3))) (one (emit 3)) None)) (1 ∷ []) ≡
      (Use 0, In Root 0 ∷ In LoopBody 0 ∷ [], 0 ∷ 1 ∷ 2 ∷ 4 ∷ [], [])
      ∷ (Put 3, In Root 0 ∷ In LoopBody 1 ∷ [], 0 ∷ 1 ∷ 2 ∷ 4 ∷ [], [])
      ∷ (Put 3, In Root 0 ∷ In Continuing 0 ∷ [], 0 ∷ 1 ∷ 2 ∷ 3 ∷ 4 ∷ [], [])
      ∷ []
  -- loop { switch 1 { default { continue } } emit 3 } { } break_if 3
  pub continue_in_switch : recorded_by continue_in_switch (0 ∷ 0 ∷ []) ≡
      (Use 1, In Root 0 ∷ In LoopBody 0 ∷ [], 0 ∷ 1 ∷ 2 ∷ 4 ∷ [], [])
      ∷ (Use 3, In Root 0 ∷ In Condition 0 ∷ [], 0 ∷ 1 ∷ 2 ∷ 4 ∷ [], 3 ∷ [])
      ∷ []
  -- loop { break continue emit 3 } { } break_if 3
  pub dead_continue : recorded_by dead_continue [] ≡
      []
  -- loop { if 0 { continue } { } emit 3 } { loop { if 3 { } { } } { } }
  pub further_in :
      recorded_by (one (Loop (Then may_continue_here (one (emit 3))) (one (Loop (one (reads 3)) Done None)) None)) (0 ∷ 0 ∷ []) ≡
      (Use 0, In Root 0 ∷ In LoopBody 0 ∷ [], 0 ∷ 1 ∷ 2 ∷ 4 ∷ [], [])
      ∷ (Use 3, In Root 0 ∷ In Continuing 0 ∷ In LoopBody 0 ∷ [], 0 ∷ 1 ∷ 2 ∷ 4 ∷ [], 3 ∷ [])
      ∷ []
  -- loop { if 0 { continue } { } emit 5 } { emit 6 }
  pub operand_skipped : recorded_by (one (Loop (Then may_continue_here (one emit_5)) (one emit_6) None)) (0 ∷ []) ≡
      (Use 0, In Root 0 ∷ In LoopBody 0 ∷ [], 0 ∷ 1 ∷ 2 ∷ 4 ∷ [], [])
      ∷ (Use 5, In Root 0 ∷ In Continuing 0 ∷ [], 0 ∷ 1 ∷ 2 ∷ 4 ∷ [], 5 ∷ [])
      ∷ (Put 6, In Root 0 ∷ In Continuing 0 ∷ [], 0 ∷ 1 ∷ 2 ∷ 4 ∷ [], 5 ∷ [])
      ∷ []
  -- loop { if 0 { continue } { } emit 3 } { a call with the argument 3 }
  pub argument_skipped : recorded_by (one (Loop (Then may_continue_here (one (emit 3))) (one (calls_with 3)) None)) (0 ∷ []) ≡
      (Use 0, In Root 0 ∷ In LoopBody 0 ∷ [], 0 ∷ 1 ∷ 2 ∷ 4 ∷ [], [])
      ∷ (Use 3, In Root 0 ∷ In Continuing 0 ∷ [], 0 ∷ 1 ∷ 2 ∷ 4 ∷ [], 3 ∷ [])
      ∷ []
