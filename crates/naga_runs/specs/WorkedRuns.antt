-- Runs of some bodies, worked by hand from the definitions in words. Handles below 7.
use Rattle.ir_statements.specs.declared.operations.SwitchValue.TheVariants.{Default}
use Rattle.std.specs.Prelude.{ℕ, true, List, Option, Some, None, map, ◌≡◌, ◌∷◌, []}
use Rattle.ir_statements.specs.Tree.{Act, Body, Use, Put, Switch, Loop, Break, Continue, Return, Kill, Done, Then, NoCase, OneCase}
use Rattle.naga_runs.specs.Machine.{Outcome, Run, run, events_of, outcome_of, Next, Returned, Ended, Stopped, Stuck}
use Rattle.naga_runs.specs.Positions.{Position, Root, Inner, Accept, Reject, Case, LoopBody, Continuing, Condition, In}
use Rattle.naga_runs.specs.Samples.{given, members_below, one, only_default, siblings, whole_loop, switches, skipping_twice, continue_in_block, three_emits, several_acts}
use Rattle.naga_runs.specs.Skipped.{skipped_at}

abbrev pub trace_of : Run → List (Act × Position)
trace_of r = map (λ e. (e.act, e.position)) (events_of r)

-- what is live before each event
abbrev pub lives_of : Run → List (List ℕ)
lives_of r = map (λ e. members_below 7 e.live) (events_of r)

abbrev pub cuts_of : Run → List (List (Option ℕ))
cuts_of r = map (λ e. e.cuts) (events_of r)

-- what is skipped at each event
abbrev pub skips_of : Body → Run → List (List ℕ)
skips_of b r = map (λ e. members_below 7 (skipped_at b e.position e.cuts)) (events_of r)

-- Choice 0 takes the accept list; what a list puts is taken out as it is left.
pub record SiblingsAccept : Type 0 where
  pub trace : trace_of (run siblings given 0 (0 ∷ [])) ≡
      (Put 3, In Root 0 ∷ In Inner 0 ∷ [])
      ∷ (Use 0, In Root 1 ∷ [])
      ∷ (Put 3, In Root 1 ∷ In Accept 0 ∷ [])
      ∷ (Put 5, In Root 1 ∷ In Accept 1 ∷ [])
      ∷ (Put 3, In Root 2 ∷ [])
      ∷ []
  pub outcome : outcome_of (run siblings given 0 (0 ∷ [])) ≡
      Next
  pub live : lives_of (run siblings given 0 (0 ∷ [])) ≡
      (0 ∷ 1 ∷ 2 ∷ 4 ∷ [])
      ∷ (0 ∷ 1 ∷ 2 ∷ 4 ∷ [])
      ∷ (0 ∷ 1 ∷ 2 ∷ 4 ∷ [])
      ∷ (0 ∷ 1 ∷ 2 ∷ 3 ∷ 4 ∷ [])
      ∷ (0 ∷ 1 ∷ 2 ∷ 4 ∷ [])
      ∷ []

-- Any other choice takes the reject list.
pub record SiblingsReject : Type 0 where
  pub trace : trace_of (run siblings given 0 (7 ∷ [])) ≡
      (Put 3, In Root 0 ∷ In Inner 0 ∷ [])
      ∷ (Use 0, In Root 1 ∷ [])
      ∷ (Put 3, In Root 1 ∷ In Reject 0 ∷ [])
      ∷ (Put 3, In Root 2 ∷ [])
      ∷ []
  pub outcome : outcome_of (run siblings given 0 (7 ∷ [])) ≡
      Next
  pub live : lives_of (run siblings given 0 (7 ∷ [])) ≡
      (0 ∷ 1 ∷ 2 ∷ 4 ∷ [])
      ∷ (0 ∷ 1 ∷ 2 ∷ 4 ∷ [])
      ∷ (0 ∷ 1 ∷ 2 ∷ 4 ∷ [])
      ∷ (0 ∷ 1 ∷ 2 ∷ 4 ∷ [])
      ∷ []

-- Where a choice is wanted and none is left, the run stops.
pub record SiblingsStop : Type 0 where
  pub trace : trace_of (run siblings given 0 []) ≡
      (Put 3, In Root 0 ∷ In Inner 0 ∷ [])
      ∷ (Use 0, In Root 1 ∷ [])
      ∷ []
  pub outcome : outcome_of (run siblings given 0 []) ≡
      Stopped

-- Two turns, the second with a Continue: the continuing list runs with what the body list has put so far.
pub record LoopTwice : Type 0 where
  pub trace : trace_of (run whole_loop given 2 (1 ∷ 1 ∷ 0 ∷ 0 ∷ [])) ≡
      (Put 3, In Root 0 ∷ In LoopBody 0 ∷ [])
      ∷ (Use 0, In Root 0 ∷ In LoopBody 1 ∷ [])
      ∷ (Put 5, In Root 0 ∷ In LoopBody 2 ∷ [])
      ∷ (Put 6, In Root 0 ∷ In Continuing 0 ∷ [])
      ∷ (Use 5, In Root 0 ∷ In Condition 0 ∷ [])
      ∷ (Put 3, In Root 0 ∷ In LoopBody 0 ∷ [])
      ∷ (Use 0, In Root 0 ∷ In LoopBody 1 ∷ [])
      ∷ (Put 6, In Root 0 ∷ In Continuing 0 ∷ [])
      ∷ (Use 5, In Root 0 ∷ In Condition 0 ∷ [])
      ∷ (Put 3, In Root 1 ∷ [])
      ∷ []
  pub outcome : outcome_of (run whole_loop given 2 (1 ∷ 1 ∷ 0 ∷ 0 ∷ [])) ≡
      Next
  pub live : lives_of (run whole_loop given 2 (1 ∷ 1 ∷ 0 ∷ 0 ∷ [])) ≡
      (0 ∷ 1 ∷ 2 ∷ 4 ∷ [])
      ∷ (0 ∷ 1 ∷ 2 ∷ 3 ∷ 4 ∷ [])
      ∷ (0 ∷ 1 ∷ 2 ∷ 3 ∷ 4 ∷ [])
      ∷ (0 ∷ 1 ∷ 2 ∷ 3 ∷ 4 ∷ 5 ∷ [])
      ∷ (0 ∷ 1 ∷ 2 ∷ 3 ∷ 4 ∷ 5 ∷ 6 ∷ [])
      ∷ (0 ∷ 1 ∷ 2 ∷ 4 ∷ [])
      ∷ (0 ∷ 1 ∷ 2 ∷ 3 ∷ 4 ∷ [])
      ∷ (0 ∷ 1 ∷ 2 ∷ 3 ∷ 4 ∷ [])
      ∷ (0 ∷ 1 ∷ 2 ∷ 3 ∷ 4 ∷ 6 ∷ [])
      ∷ (0 ∷ 1 ∷ 2 ∷ 4 ∷ [])
      ∷ []
  pub cuts : cuts_of (run whole_loop given 2 (1 ∷ 1 ∷ 0 ∷ 0 ∷ [])) ≡
      []
      ∷ []
      ∷ []
      ∷ (None ∷ [])
      ∷ (None ∷ [])
      ∷ []
      ∷ []
      ∷ (Some 1 ∷ [])
      ∷ (Some 1 ∷ [])
      ∷ []
      ∷ []
  pub skipped : skips_of whole_loop (run whole_loop given 2 (1 ∷ 1 ∷ 0 ∷ 0 ∷ [])) ≡
      []
      ∷ []
      ∷ []
      ∷ []
      ∷ []
      ∷ []
      ∷ []
      ∷ (5 ∷ [])
      ∷ (5 ∷ [])
      ∷ []
      ∷ []

-- With one turn the same run stops where turn 2 would begin.
pub record LoopOnce : Type 0 where
  pub trace : trace_of (run whole_loop given 1 (1 ∷ 1 ∷ 0 ∷ 0 ∷ [])) ≡
      (Put 3, In Root 0 ∷ In LoopBody 0 ∷ [])
      ∷ (Use 0, In Root 0 ∷ In LoopBody 1 ∷ [])
      ∷ (Put 5, In Root 0 ∷ In LoopBody 2 ∷ [])
      ∷ (Put 6, In Root 0 ∷ In Continuing 0 ∷ [])
      ∷ (Use 5, In Root 0 ∷ In Condition 0 ∷ [])
      ∷ []
  pub outcome : outcome_of (run whole_loop given 1 (1 ∷ 1 ∷ 0 ∷ 0 ∷ [])) ≡
      Stopped

-- With none it stops at the Loop.
pub record LoopNever : Type 0 where
  pub trace : trace_of (run whole_loop given 0 (1 ∷ 1 ∷ 0 ∷ 0 ∷ [])) ≡
      []
  pub outcome : outcome_of (run whole_loop given 0 (1 ∷ 1 ∷ 0 ∷ 0 ∷ [])) ≡
      Stopped

-- A case that falls through runs the next one, with its own puts taken out; a Break ends the Switch.
pub record FallsThrough : Type 0 where
  pub trace : trace_of (run switches given 1 (0 ∷ [])) ≡
      (Use 1, In Root 0 ∷ [])
      ∷ (Put 3, In Root 0 ∷ In (Case 0) 0 ∷ [])
      ∷ []
  pub outcome : outcome_of (run switches given 1 (0 ∷ [])) ≡
      Next
  pub live : lives_of (run switches given 1 (0 ∷ [])) ≡
      (0 ∷ 1 ∷ 2 ∷ 4 ∷ [])
      ∷ (0 ∷ 1 ∷ 2 ∷ 4 ∷ [])
      ∷ []

-- The Switch begins with the chosen case.
pub record SecondCase : Type 0 where
  pub trace : trace_of (run switches given 1 (1 ∷ [])) ≡
      (Use 1, In Root 0 ∷ [])
      ∷ []
  pub outcome : outcome_of (run switches given 1 (1 ∷ [])) ≡
      Next

-- A number past the last case stops the run.
pub record NoSuchCase : Type 0 where
  pub trace : trace_of (run switches given 1 (3 ∷ [])) ≡
      (Use 1, In Root 0 ∷ [])
      ∷ []
  pub outcome : outcome_of (run switches given 1 (3 ∷ [])) ≡
      Stopped

-- A Continue passes through a Switch, a Break in the continuing list ends the inner Switch alone.
pub record ThroughSwitches : Type 0 where
  pub trace : trace_of (run switches given 1 (2 ∷ 0 ∷ 0 ∷ [])) ≡
      (Use 1, In Root 0 ∷ [])
      ∷ (Use 1, In Root 0 ∷ In (Case 2) 0 ∷ In LoopBody 0 ∷ [])
      ∷ (Use 1, In Root 0 ∷ In (Case 2) 0 ∷ In Continuing 0 ∷ [])
      ∷ []
  pub outcome : outcome_of (run switches given 1 (2 ∷ 0 ∷ 0 ∷ [])) ≡
      Stopped
  pub cuts : cuts_of (run switches given 1 (2 ∷ 0 ∷ 0 ∷ [])) ≡
      []
      ∷ []
      ∷ (Some 0 ∷ [])
      ∷ []

-- Both Loops leave by Continue; the inner break condition has lost both emissions, the outer one its own.
pub record SkipsTwice : Type 0 where
  pub trace : trace_of (run skipping_twice given 1 (0 ∷ 0 ∷ 0 ∷ 0 ∷ [])) ≡
      (Use 0, In Root 0 ∷ In LoopBody 0 ∷ [])
      ∷ (Use 0, In Root 0 ∷ In Continuing 0 ∷ In LoopBody 0 ∷ [])
      ∷ (Put 6, In Root 0 ∷ In Continuing 0 ∷ In Continuing 0 ∷ [])
      ∷ (Use 5, In Root 0 ∷ In Continuing 0 ∷ In Condition 0 ∷ [])
      ∷ (Use 3, In Root 0 ∷ In Condition 0 ∷ [])
      ∷ []
  pub outcome : outcome_of (run skipping_twice given 1 (0 ∷ 0 ∷ 0 ∷ 0 ∷ [])) ≡
      Next
  pub live : lives_of (run skipping_twice given 1 (0 ∷ 0 ∷ 0 ∷ 0 ∷ [])) ≡
      (0 ∷ 1 ∷ 2 ∷ 4 ∷ [])
      ∷ (0 ∷ 1 ∷ 2 ∷ 4 ∷ [])
      ∷ (0 ∷ 1 ∷ 2 ∷ 4 ∷ [])
      ∷ (0 ∷ 1 ∷ 2 ∷ 4 ∷ 6 ∷ [])
      ∷ (0 ∷ 1 ∷ 2 ∷ 4 ∷ [])
      ∷ []
  pub cuts : cuts_of (run skipping_twice given 1 (0 ∷ 0 ∷ 0 ∷ 0 ∷ [])) ≡
      []
      ∷ (Some 0 ∷ [])
      ∷ (Some 0 ∷ Some 0 ∷ [])
      ∷ (Some 0 ∷ Some 0 ∷ [])
      ∷ (Some 0 ∷ [])
      ∷ []
  pub skipped : skips_of skipping_twice (run skipping_twice given 1 (0 ∷ 0 ∷ 0 ∷ 0 ∷ [])) ≡
      []
      ∷ (3 ∷ [])
      ∷ (3 ∷ 5 ∷ [])
      ∷ (3 ∷ 5 ∷ [])
      ∷ (3 ∷ [])
      ∷ []

-- The outer Loop alone leaves by Continue.
pub record SkipsOnce : Type 0 where
  pub trace : trace_of (run skipping_twice given 1 (0 ∷ 1 ∷ 0 ∷ 1 ∷ [])) ≡
      (Use 0, In Root 0 ∷ In LoopBody 0 ∷ [])
      ∷ (Use 0, In Root 0 ∷ In Continuing 0 ∷ In LoopBody 0 ∷ [])
      ∷ (Put 5, In Root 0 ∷ In Continuing 0 ∷ In LoopBody 1 ∷ [])
      ∷ (Put 6, In Root 0 ∷ In Continuing 0 ∷ In Continuing 0 ∷ [])
      ∷ (Use 5, In Root 0 ∷ In Continuing 0 ∷ In Condition 0 ∷ [])
      ∷ (Use 3, In Root 0 ∷ In Condition 0 ∷ [])
      ∷ []
  pub outcome : outcome_of (run skipping_twice given 1 (0 ∷ 1 ∷ 0 ∷ 1 ∷ [])) ≡
      Stopped
  pub live : lives_of (run skipping_twice given 1 (0 ∷ 1 ∷ 0 ∷ 1 ∷ [])) ≡
      (0 ∷ 1 ∷ 2 ∷ 4 ∷ [])
      ∷ (0 ∷ 1 ∷ 2 ∷ 4 ∷ [])
      ∷ (0 ∷ 1 ∷ 2 ∷ 4 ∷ [])
      ∷ (0 ∷ 1 ∷ 2 ∷ 4 ∷ 5 ∷ [])
      ∷ (0 ∷ 1 ∷ 2 ∷ 4 ∷ 5 ∷ 6 ∷ [])
      ∷ (0 ∷ 1 ∷ 2 ∷ 4 ∷ [])
      ∷ []
  pub cuts : cuts_of (run skipping_twice given 1 (0 ∷ 1 ∷ 0 ∷ 1 ∷ [])) ≡
      []
      ∷ (Some 0 ∷ [])
      ∷ (Some 0 ∷ [])
      ∷ (Some 0 ∷ None ∷ [])
      ∷ (Some 0 ∷ None ∷ [])
      ∷ (Some 0 ∷ [])
      ∷ []
  pub skipped : skips_of skipping_twice (run skipping_twice given 1 (0 ∷ 1 ∷ 0 ∷ 1 ∷ [])) ≡
      []
      ∷ (3 ∷ [])
      ∷ (3 ∷ [])
      ∷ (3 ∷ [])
      ∷ (3 ∷ [])
      ∷ (3 ∷ [])
      ∷ []

-- The index is that of the body's own statement, the Block: what it put is gone, what stands after it is skipped.
pub record SkipsFromBlock : Type 0 where
  pub trace : trace_of (run continue_in_block given 1 (0 ∷ [])) ≡
      (Put 3, In Root 0 ∷ In LoopBody 0 ∷ [])
      ∷ (Put 5, In Root 0 ∷ In LoopBody 1 ∷ In Inner 0 ∷ [])
      ∷ (Use 6, In Root 0 ∷ In Condition 0 ∷ [])
      ∷ []
  pub outcome : outcome_of (run continue_in_block given 1 (0 ∷ [])) ≡
      Next
  pub live : lives_of (run continue_in_block given 1 (0 ∷ [])) ≡
      (0 ∷ 1 ∷ 2 ∷ 4 ∷ [])
      ∷ (0 ∷ 1 ∷ 2 ∷ 3 ∷ 4 ∷ [])
      ∷ (0 ∷ 1 ∷ 2 ∷ 3 ∷ 4 ∷ [])
      ∷ []
  pub cuts : cuts_of (run continue_in_block given 1 (0 ∷ [])) ≡
      []
      ∷ []
      ∷ (Some 1 ∷ [])
      ∷ []
  pub skipped : skips_of continue_in_block (run continue_in_block given 1 (0 ∷ [])) ≡
      []
      ∷ []
      ∷ (6 ∷ [])
      ∷ []

-- One statement with several acts: each has what was done before it, and a put is live from the next act on.
pub record ActByAct : Type 0 where
  pub trace : trace_of (run several_acts given 0 []) ≡
      (Use 4, In Root 0 ∷ [])
      ∷ (Put 5, In Root 0 ∷ [])
      ∷ (Use 5, In Root 0 ∷ [])
      ∷ (Put 6, In Root 0 ∷ [])
      ∷ []
  pub outcome : outcome_of (run several_acts given 0 []) ≡
      Next
  pub live : lives_of (run several_acts given 0 []) ≡
      (0 ∷ 1 ∷ 2 ∷ 4 ∷ [])
      ∷ (0 ∷ 1 ∷ 2 ∷ 4 ∷ [])
      ∷ (0 ∷ 1 ∷ 2 ∷ 4 ∷ 5 ∷ [])
      ∷ (0 ∷ 1 ∷ 2 ∷ 4 ∷ 5 ∷ [])
      ∷ []

-- the acts that each event says are done
abbrev pub DoneByAct : Type 0
DoneByAct =
    map (λ e. e.done) (events_of (run several_acts given 0 [])) ≡
    []
    ∷ (Use 4 ∷ [])
    ∷ (Use 4 ∷ Put 5 ∷ [])
    ∷ (Use 4 ∷ Put 5 ∷ Use 5 ∷ [])
    ∷ []

-- What is skipped at the break condition of three_emits, by the index of the statement that cut the body list.
abbrev pub SkippedByIndex : Type 0
SkippedByIndex =
    map (λ cut. members_below 7 (skipped_at three_emits (In Root 0 ∷ In Condition 0 ∷ []) (cut ∷ [])))
    (None ∷ Some 0 ∷ Some 1 ∷ Some 2 ∷ []) ≡
    []
    ∷ (5 ∷ 6 ∷ [])
    ∷ (6 ∷ [])
    ∷ []
    ∷ []

-- a Loop of these two lists, without a break condition
abbrev pub loop_of : Body → Body → Body
loop_of b c = one (Loop b c None)

-- how a body ends in at most one turn, with these choices
abbrev pub ends : Body → List ℕ → Outcome
ends b choices = outcome_of (run b given 1 choices)

-- How jumps end a run. A Break or Continue with no target and any jump out of a continuing list but a Kill are stuck.
pub record JumpsEnd : Type 0 where
  pub break : ends (one Break) [] ≡ Stuck
  pub continue : ends (one Continue) [] ≡ Stuck
  pub return : ends (Then (Return None) (one Break)) [] ≡ Returned
  pub kill : ends (one Kill) (0 ∷ []) ≡ Ended
  pub no_kill : ends (one Kill) (1 ∷ []) ≡ Next
  pub kill_unchosen : ends (one Kill) [] ≡ Stopped
  pub break_in_body : ends (loop_of (one Break) Done) [] ≡ Next
  pub continue_in_body : ends (loop_of (one Continue) Done) [] ≡ Stopped
  pub return_in_body : ends (loop_of (one (Return (Some 2))) Done) [] ≡ Returned
  pub kill_in_body : ends (loop_of (one Kill) Done) (0 ∷ []) ≡ Ended
  pub break_in_continuing : ends (loop_of Done (one Break)) [] ≡ Stuck
  pub continue_in_continuing : ends (loop_of Done (one Continue)) [] ≡ Stuck
  pub return_in_continuing : ends (loop_of Done (one (Return None))) [] ≡ Stuck
  pub kill_in_continuing : ends (loop_of Done (one Kill)) (0 ∷ []) ≡ Ended
  pub no_kill_in_continuing : ends (loop_of Done (one Kill)) (1 ∷ []) ≡ Stopped
  pub return_in_inner_loop : ends (loop_of Done (loop_of (one (Return None)) Done)) [] ≡ Stuck
  pub break_in_inner_loop : ends (loop_of Done (loop_of (one Break) Done)) [] ≡ Stopped
  pub break_in_switch : ends (loop_of Done (one (only_default (one Break)))) (0 ∷ []) ≡ Stopped
  pub continue_in_switch : ends (loop_of Done (one (only_default (one Continue)))) (0 ∷ []) ≡ Stuck
  pub last_falls_through : ends (one (Switch 1 (OneCase Default true Done NoCase))) (0 ∷ []) ≡ Next
  pub no_case : ends (one (Switch 1 NoCase)) (0 ∷ []) ≡ Stopped
