-- What one body does, and that the law's conditions refuse it and not all: loop { if 0 { continue } { } emit 3 } { } break_if 3,
-- where 3 has the operand 0.
use Rattle.std.specs.Prelude.{ℕ, true, false, Option, Some, None, ◌≡◌, ◌≢◌, ◌∷◌, []}
use Rattle.ir_statements.specs.Tree.{Use, Put}
use Rattle.naga_runs.specs.Handles.{Handles, with_handle}
use Rattle.naga_runs.specs.Machine.{Event, run, events_of, outcome_of, Stopped, Stuck}
use Rattle.naga_runs.specs.Positions.{Root, LoopBody, Condition, In}
use Rattle.naga_runs.specs.Samples.{given, skipping_loop, sure_loop}
use Rattle.naga_runs.specs.Skipped.{skipped_at}
use Rattle.naga_runs.specs.Soundness.{IsSurelyFit}

-- the use of the If's condition
abbrev pub if_event : Event
if_event = record { act = Use 0; done = []; live = given; position = In Root 0 ∷ In LoopBody 0 ∷ []; cuts = [] }

-- the use of 3's operand, and then the put of 3
abbrev pub operand_event : Event
operand_event = record { act = Use 0; done = []; live = given; position = In Root 0 ∷ In LoopBody 1 ∷ []; cuts = [] }

abbrev pub emit_event : Event
emit_event =
    record { act = Put 3; done = Use 0 ∷ []; live = given; position = In Root 0 ∷ In LoopBody 1 ∷ []; cuts = [] }

-- the use of 3 at the break condition, with these handles live and this cut
abbrev pub break_if_event : Handles → Option ℕ → Event
break_if_event live cut =
    record { act = Use 3; done = []; live = live; position = In Root 0 ∷ In Condition 0 ∷ []; cuts = cut ∷ [] }

-- With one turn, choice 0 at the If and choice 0 at the break condition: the second event is a use of handle 3 at the
-- break condition, where 3 is not live and was skipped.
abbrev pub SkippedIsUsed : Type 0
SkippedIsUsed =
    (events_of (run skipping_loop given 1 (0 ∷ 0 ∷ []))
    ≡ if_event ∷ break_if_event given (Some 0) ∷ [])
    × (given 3 ≡ false)
    × (skipped_at skipping_loop (In Root 0 ∷ In Condition 0 ∷ []) (Some 0 ∷ []) 3 ≡ true)

-- With choice 1 at the If: a use of 0 and a put of 3 by the Emit, and then the use of 3 with 3 live.
abbrev pub PutIsUsed : Type 0
PutIsUsed =
    (events_of (run skipping_loop given 1 (1 ∷ 0 ∷ []))
    ≡ if_event ∷ operand_event ∷ emit_event ∷ break_if_event (with_handle given 3) None ∷ [])
    × (with_handle given 3 3 ≡ true)

-- With choice 1 at the break condition: after the same two events the run stops, unstuck, where turn 2 would begin.
abbrev pub StopsAtTurnTwo : Type 0
StopsAtTurnTwo =
    (events_of (run skipping_loop given 1 (0 ∷ 1 ∷ [])) ≡ events_of (run skipping_loop given 1 (0 ∷ 0 ∷ [])))
    × (outcome_of (run skipping_loop given 1 (0 ∷ 1 ∷ [])) ≡ Stopped)
    × (outcome_of (run skipping_loop given 1 (0 ∷ 1 ∷ [])) ≢ Stuck)

-- It doesn't meet the conditions; with the emission before the Continue it does.
abbrev pub SkippingLoopIsNotSure : Type 0
SkippingLoopIsNotSure = IsSurelyFit given skipping_loop → ⊥

abbrev pub SureLoopIsSurelyFit : Type 0
SureLoopIsSurelyFit = IsSurelyFit given sure_loop
