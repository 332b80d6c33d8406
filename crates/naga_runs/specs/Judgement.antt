-- The judgement of a body: the fault of the first point that fails, over all its visits in visit order; where none
-- fails, the state that the visits leave.
use Rattle.std.specs.Prelude.{List, Result, Ok, Err, ◌≡◌, ◌∷◌, ◌++◌, []}
use Rattle.ir_arena.specs.Points.{Point, first_fault, answer}
use Rattle.ir_statements.specs.Tree.{Body}
use Rattle.naga_runs.specs.Handles.{Handles}
use Rattle.naga_runs.specs.Visits.{Visit, visits_of}

-- The points of a visit, given a state of the visits before it, and what a visit adds to that state.
pub record Rules (State Fault : Type 0) : Type 0 where
  pub points : State → Visit → List (Point Fault)
  pub advance : State → Visit → State

-- the state that visits leave
unfoldable pub state_after : {State Fault : Type 0} → Rules State Fault → State → List Visit → State
state_after R st [] = st
state_after R st (v ∷ vs) = state_after R (R.advance st v) vs

-- the points of visits in their order, each given the state of all visits before it, where those of `earlier`
-- came before the first
abbrev pub points_after : {State Fault : Type 0} →
    Rules State Fault → State → List Visit → List Visit → List (Point Fault)
points_after R st earlier [] = []
points_after R st earlier (v ∷ vs) =
    R.points (state_after R st earlier) v ++ points_after R st (earlier ++ v ∷ []) vs

-- The judgement of a body from a state, where `pre` are the handles that need no emission.
unfoldable pub judgement : {State Fault : Type 0} → Rules State Fault → State → Handles → Body → Result State Fault
judgement R st pre b =
    answer (first_fault (points_after R st [] (visits_of pre b))) (state_after R st (visits_of pre b))

-- The most literal state is the list of the earlier visits itself.
abbrev pub by_earlier : {Fault : Type 0} → (List Visit → Visit → List (Point Fault)) → Rules (List Visit) Fault
by_earlier points = record { points = points; advance = λ earlier v. earlier ++ v ∷ [] }

-- One state is a view of another: the same points, and the same view after each visit.
pub record Follows {State Seen Fault : Type 0} (R : Rules State Fault) (S : Rules Seen Fault)
    (view : State → Seen) : Type 0 where
  pub points : (st : State) (v : Visit) → R.points st v ≡ S.points (view st) v
  pub advance : (st : State) (v : Visit) → view (R.advance st v) ≡ S.advance (view st) v

abbrev pub viewed : {State Seen Fault : Type 0} → (State → Seen) → Result State Fault → Result Seen Fault
viewed view (Ok st) = Ok (view st)
viewed view (Err f) = Err f

-- Then the judgements agree.
abbrev pub FollowedAgrees : (State Seen Fault : Type 0) → Type 0
FollowedAgrees State Seen Fault =
    (R : Rules State Fault) (S : Rules Seen Fault) (view : State → Seen) → Follows R S view →
    (st : State) (pre : Handles) (b : Body) → judgement S (view st) pre b ≡ viewed view (judgement R st pre b)

-- So do a judgement over the earlier visits and one over a view of them.
abbrev pub EarlierAgrees : (Seen Fault : Type 0) → Type 0
EarlierAgrees Seen Fault =
    (points : List Visit → Visit → List (Point Fault)) (S : Rules Seen Fault) (view : List Visit → Seen) →
    Follows (by_earlier points) S view →
    (pre : Handles) (b : Body) → judgement S (view []) pre b ≡ viewed view (judgement (by_earlier points) [] pre b)

-- Over the earlier visits, an accepted body leaves all its visits.
abbrev pub EarlierIsAll : Type 0 → Type 0
EarlierIsAll Fault =
    (points : List Visit → Visit → List (Point Fault)) (end : List Visit) (pre : Handles) (b : Body) →
    judgement (by_earlier points) [] pre b ≡ Ok end → end ≡ visits_of pre b
