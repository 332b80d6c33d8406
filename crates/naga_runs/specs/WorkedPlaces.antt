-- Positions, scope, must and abilities of some bodies, worked by hand from the definitions in words. Handles below 7.
use Rattle.std.specs.Prelude.{ℕ, Bool, true, false, List, map, ◌≡◌, ◌∷◌, []}
use Rattle.ir_statements.specs.Tree.{Body}
use Rattle.naga_runs.specs.Abilities.{may_return, may_break, may_continue}
use Rattle.naga_runs.specs.Must.{must_at}
use Rattle.naga_runs.specs.Positions.{Root, Inner, Accept, Reject, Case, LoopBody, Continuing, Condition, In}
use Rattle.naga_runs.specs.Samples.{given, members_below, siblings, whole_loop, loop_in_continuing, switches, skipping_loop, sure_loop, inner_continue, continue_in_switch, dead_continue, skipping_twice}
use Rattle.naga_runs.specs.Scope.{scope_at}
use Rattle.naga_runs.specs.VisitOrder.{positions}

-- the handles in scope, and those that every run has put, at each position in visit order
abbrev pub scopes : Body → List (List ℕ)
scopes b = map (λ p. members_below 7 (scope_at given b p)) (positions b)

abbrev pub musts : Body → List (List ℕ)
musts b = map (λ p. members_below 7 (must_at given b p)) (positions b)

-- whether Return, Break and Continue are allowed, at each position in visit order
abbrev pub abilities : Body → List (Bool × Bool × Bool)
abilities b = map (λ p. (may_return p, may_break p, may_continue p)) (positions b)

-- A statement, then what lies in it, then the next sibling; accept before reject.
abbrev pub SiblingsInOrder : Type 0
SiblingsInOrder =
    positions siblings ≡
    (In Root 0 ∷ [])
    ∷ (In Root 0 ∷ In Inner 0 ∷ [])
    ∷ (In Root 1 ∷ [])
    ∷ (In Root 1 ∷ In Accept 0 ∷ [])
    ∷ (In Root 1 ∷ In Accept 1 ∷ [])
    ∷ (In Root 1 ∷ In Reject 0 ∷ [])
    ∷ (In Root 2 ∷ [])
    ∷ []

-- What a Block, an accept list and a reject list put leaves scope at the list's end.
abbrev pub SiblingsInScope : Type 0
SiblingsInScope =
    scopes siblings ≡
    (0 ∷ 1 ∷ 2 ∷ 4 ∷ [])
    ∷ (0 ∷ 1 ∷ 2 ∷ 4 ∷ [])
    ∷ (0 ∷ 1 ∷ 2 ∷ 4 ∷ [])
    ∷ (0 ∷ 1 ∷ 2 ∷ 4 ∷ [])
    ∷ (0 ∷ 1 ∷ 2 ∷ 3 ∷ 4 ∷ [])
    ∷ (0 ∷ 1 ∷ 2 ∷ 4 ∷ [])
    ∷ (0 ∷ 1 ∷ 2 ∷ 4 ∷ [])
    ∷ []

-- The body list, the continuing list, the break condition, then the next sibling.
abbrev pub LoopInOrder : Type 0
LoopInOrder =
    positions whole_loop ≡
    (In Root 0 ∷ [])
    ∷ (In Root 0 ∷ In LoopBody 0 ∷ [])
    ∷ (In Root 0 ∷ In LoopBody 1 ∷ [])
    ∷ (In Root 0 ∷ In LoopBody 1 ∷ In Accept 0 ∷ [])
    ∷ (In Root 0 ∷ In LoopBody 2 ∷ [])
    ∷ (In Root 0 ∷ In Continuing 0 ∷ [])
    ∷ (In Root 0 ∷ In Condition 0 ∷ [])
    ∷ (In Root 1 ∷ [])
    ∷ []

-- The continuing list sees all puts of the body list, the break condition those of both lists, the next sibling none.
abbrev pub LoopInScope : Type 0
LoopInScope =
    scopes whole_loop ≡
    (0 ∷ 1 ∷ 2 ∷ 4 ∷ [])
    ∷ (0 ∷ 1 ∷ 2 ∷ 4 ∷ [])
    ∷ (0 ∷ 1 ∷ 2 ∷ 3 ∷ 4 ∷ [])
    ∷ (0 ∷ 1 ∷ 2 ∷ 3 ∷ 4 ∷ [])
    ∷ (0 ∷ 1 ∷ 2 ∷ 3 ∷ 4 ∷ [])
    ∷ (0 ∷ 1 ∷ 2 ∷ 3 ∷ 4 ∷ 5 ∷ [])
    ∷ (0 ∷ 1 ∷ 2 ∷ 3 ∷ 4 ∷ 5 ∷ 6 ∷ [])
    ∷ (0 ∷ 1 ∷ 2 ∷ 4 ∷ [])
    ∷ []

-- Of the body list, what stands after the If that holds a Continue does not count.
abbrev pub LoopInMust : Type 0
LoopInMust =
    musts whole_loop ≡
    (0 ∷ 1 ∷ 2 ∷ 4 ∷ [])
    ∷ (0 ∷ 1 ∷ 2 ∷ 4 ∷ [])
    ∷ (0 ∷ 1 ∷ 2 ∷ 3 ∷ 4 ∷ [])
    ∷ (0 ∷ 1 ∷ 2 ∷ 3 ∷ 4 ∷ [])
    ∷ (0 ∷ 1 ∷ 2 ∷ 3 ∷ 4 ∷ [])
    ∷ (0 ∷ 1 ∷ 2 ∷ 3 ∷ 4 ∷ [])
    ∷ (0 ∷ 1 ∷ 2 ∷ 3 ∷ 4 ∷ 6 ∷ [])
    ∷ (0 ∷ 1 ∷ 2 ∷ 4 ∷ [])
    ∷ []

-- All in the body list, nothing in the continuing list, at the break condition what the Loop itself has.
abbrev pub LoopAllows : Type 0
LoopAllows =
    abilities whole_loop ≡
    (true, false, false)
    ∷ (true, true, true)
    ∷ (true, true, true)
    ∷ (true, true, true)
    ∷ (true, true, true)
    ∷ (false, false, false)
    ∷ (true, false, false)
    ∷ (true, false, false)
    ∷ []

-- A Loop in a continuing list, with its own break condition before the outer one.
abbrev pub InnerLoopInOrder : Type 0
InnerLoopInOrder =
    positions loop_in_continuing ≡
    (In Root 0 ∷ [])
    ∷ (In Root 0 ∷ In LoopBody 0 ∷ [])
    ∷ (In Root 0 ∷ In Continuing 0 ∷ [])
    ∷ (In Root 0 ∷ In Continuing 0 ∷ In LoopBody 0 ∷ [])
    ∷ (In Root 0 ∷ In Continuing 0 ∷ In Continuing 0 ∷ [])
    ∷ (In Root 0 ∷ In Continuing 0 ∷ In Condition 0 ∷ [])
    ∷ (In Root 0 ∷ In Condition 0 ∷ [])
    ∷ []

-- In a continuing list of a continuing list both body lists count; the inner puts leave scope after the inner Loop.
abbrev pub InnerLoopInScope : Type 0
InnerLoopInScope =
    scopes loop_in_continuing ≡
    (0 ∷ 1 ∷ 2 ∷ 4 ∷ [])
    ∷ (0 ∷ 1 ∷ 2 ∷ 4 ∷ [])
    ∷ (0 ∷ 1 ∷ 2 ∷ 3 ∷ 4 ∷ [])
    ∷ (0 ∷ 1 ∷ 2 ∷ 3 ∷ 4 ∷ [])
    ∷ (0 ∷ 1 ∷ 2 ∷ 3 ∷ 4 ∷ 5 ∷ [])
    ∷ (0 ∷ 1 ∷ 2 ∷ 3 ∷ 4 ∷ 5 ∷ 6 ∷ [])
    ∷ (0 ∷ 1 ∷ 2 ∷ 3 ∷ 4 ∷ [])
    ∷ []

-- Without a Continue every put of a body list counts.
abbrev pub InnerLoopInMust : Type 0
InnerLoopInMust =
    musts loop_in_continuing ≡
    (0 ∷ 1 ∷ 2 ∷ 4 ∷ [])
    ∷ (0 ∷ 1 ∷ 2 ∷ 4 ∷ [])
    ∷ (0 ∷ 1 ∷ 2 ∷ 3 ∷ 4 ∷ [])
    ∷ (0 ∷ 1 ∷ 2 ∷ 3 ∷ 4 ∷ [])
    ∷ (0 ∷ 1 ∷ 2 ∷ 3 ∷ 4 ∷ 5 ∷ [])
    ∷ (0 ∷ 1 ∷ 2 ∷ 3 ∷ 4 ∷ 5 ∷ 6 ∷ [])
    ∷ (0 ∷ 1 ∷ 2 ∷ 3 ∷ 4 ∷ [])
    ∷ []

-- In a continuing list an inner body list may break and continue, but not return.
abbrev pub InnerLoopAllows : Type 0
InnerLoopAllows =
    abilities loop_in_continuing ≡
    (true, false, false)
    ∷ (true, true, true)
    ∷ (false, false, false)
    ∷ (false, true, true)
    ∷ (false, false, false)
    ∷ (false, false, false)
    ∷ (true, false, false)
    ∷ []

-- Cases in order, each with all that lies in it.
abbrev pub CasesInOrder : Type 0
CasesInOrder =
    positions switches ≡
    (In Root 0 ∷ [])
    ∷ (In Root 0 ∷ In (Case 0) 0 ∷ [])
    ∷ (In Root 0 ∷ In (Case 1) 0 ∷ [])
    ∷ (In Root 0 ∷ In (Case 2) 0 ∷ [])
    ∷ (In Root 0 ∷ In (Case 2) 0 ∷ In LoopBody 0 ∷ [])
    ∷ (In Root 0 ∷ In (Case 2) 0 ∷ In LoopBody 0 ∷ In (Case 0) 0 ∷ [])
    ∷ (In Root 0 ∷ In (Case 2) 0 ∷ In Continuing 0 ∷ [])
    ∷ (In Root 0 ∷ In (Case 2) 0 ∷ In Continuing 0 ∷ In (Case 0) 0 ∷ [])
    ∷ []

-- What a case puts leaves scope at its end, also where it falls through.
abbrev pub CasesInScope : Type 0
CasesInScope =
    scopes switches ≡
    (0 ∷ 1 ∷ 2 ∷ 4 ∷ [])
    ∷ (0 ∷ 1 ∷ 2 ∷ 4 ∷ [])
    ∷ (0 ∷ 1 ∷ 2 ∷ 4 ∷ [])
    ∷ (0 ∷ 1 ∷ 2 ∷ 4 ∷ [])
    ∷ (0 ∷ 1 ∷ 2 ∷ 4 ∷ [])
    ∷ (0 ∷ 1 ∷ 2 ∷ 4 ∷ [])
    ∷ (0 ∷ 1 ∷ 2 ∷ 4 ∷ [])
    ∷ (0 ∷ 1 ∷ 2 ∷ 4 ∷ [])
    ∷ []

-- A case may break, and continue where the Switch may; in a continuing list it may break and nothing else.
abbrev pub CasesAllow : Type 0
CasesAllow =
    abilities switches ≡
    (true, false, false)
    ∷ (true, true, false)
    ∷ (true, true, false)
    ∷ (true, true, false)
    ∷ (true, true, true)
    ∷ (true, true, true)
    ∷ (false, false, false)
    ∷ (false, true, false)
    ∷ []

-- The emission that a Continue may skip is in scope at the break condition.
abbrev pub SkippingLoopInScope : Type 0
SkippingLoopInScope =
    scopes skipping_loop ≡
    (0 ∷ 1 ∷ 2 ∷ 4 ∷ [])
    ∷ (0 ∷ 1 ∷ 2 ∷ 4 ∷ [])
    ∷ (0 ∷ 1 ∷ 2 ∷ 4 ∷ [])
    ∷ (0 ∷ 1 ∷ 2 ∷ 4 ∷ [])
    ∷ (0 ∷ 1 ∷ 2 ∷ 3 ∷ 4 ∷ [])
    ∷ []

-- It is not among what every run has put there.
abbrev pub SkippingLoopInMust : Type 0
SkippingLoopInMust =
    musts skipping_loop ≡
    (0 ∷ 1 ∷ 2 ∷ 4 ∷ [])
    ∷ (0 ∷ 1 ∷ 2 ∷ 4 ∷ [])
    ∷ (0 ∷ 1 ∷ 2 ∷ 4 ∷ [])
    ∷ (0 ∷ 1 ∷ 2 ∷ 4 ∷ [])
    ∷ (0 ∷ 1 ∷ 2 ∷ 4 ∷ [])
    ∷ []

-- An emission before the Continue is.
abbrev pub SureLoopInMust : Type 0
SureLoopInMust =
    musts sure_loop ≡
    (0 ∷ 1 ∷ 2 ∷ 4 ∷ [])
    ∷ (0 ∷ 1 ∷ 2 ∷ 4 ∷ [])
    ∷ (0 ∷ 1 ∷ 2 ∷ 3 ∷ 4 ∷ [])
    ∷ (0 ∷ 1 ∷ 2 ∷ 3 ∷ 4 ∷ [])
    ∷ (0 ∷ 1 ∷ 2 ∷ 3 ∷ 4 ∷ [])
    ∷ []

-- A Continue in an inner Loop is not one of the outer Loop.
abbrev pub InnerContinueInMust : Type 0
InnerContinueInMust =
    musts inner_continue ≡
    (0 ∷ 1 ∷ 2 ∷ 4 ∷ [])
    ∷ (0 ∷ 1 ∷ 2 ∷ 4 ∷ [])
    ∷ (0 ∷ 1 ∷ 2 ∷ 4 ∷ [])
    ∷ (0 ∷ 1 ∷ 2 ∷ 4 ∷ [])
    ∷ (0 ∷ 1 ∷ 2 ∷ 3 ∷ 4 ∷ [])
    ∷ []

-- A Continue in a Switch is one of the Loop round it.
abbrev pub SwitchContinueInMust : Type 0
SwitchContinueInMust =
    musts continue_in_switch ≡
    (0 ∷ 1 ∷ 2 ∷ 4 ∷ [])
    ∷ (0 ∷ 1 ∷ 2 ∷ 4 ∷ [])
    ∷ (0 ∷ 1 ∷ 2 ∷ 4 ∷ [])
    ∷ (0 ∷ 1 ∷ 2 ∷ 4 ∷ [])
    ∷ (0 ∷ 1 ∷ 2 ∷ 4 ∷ [])
    ∷ []

-- So is a Continue that no run reaches.
abbrev pub DeadContinueInMust : Type 0
DeadContinueInMust =
    musts dead_continue ≡
    (0 ∷ 1 ∷ 2 ∷ 4 ∷ [])
    ∷ (0 ∷ 1 ∷ 2 ∷ 4 ∷ [])
    ∷ (0 ∷ 1 ∷ 2 ∷ 4 ∷ [])
    ∷ (0 ∷ 1 ∷ 2 ∷ 4 ∷ [])
    ∷ (0 ∷ 1 ∷ 2 ∷ 4 ∷ [])
    ∷ []

-- Both Loops share their scope with their continuing lists and break conditions.
abbrev pub TwiceInScope : Type 0
TwiceInScope =
    scopes skipping_twice ≡
    (0 ∷ 1 ∷ 2 ∷ 4 ∷ [])
    ∷ (0 ∷ 1 ∷ 2 ∷ 4 ∷ [])
    ∷ (0 ∷ 1 ∷ 2 ∷ 4 ∷ [])
    ∷ (0 ∷ 1 ∷ 2 ∷ 4 ∷ [])
    ∷ (0 ∷ 1 ∷ 2 ∷ 3 ∷ 4 ∷ [])
    ∷ (0 ∷ 1 ∷ 2 ∷ 3 ∷ 4 ∷ [])
    ∷ (0 ∷ 1 ∷ 2 ∷ 3 ∷ 4 ∷ [])
    ∷ (0 ∷ 1 ∷ 2 ∷ 3 ∷ 4 ∷ [])
    ∷ (0 ∷ 1 ∷ 2 ∷ 3 ∷ 4 ∷ 5 ∷ [])
    ∷ (0 ∷ 1 ∷ 2 ∷ 3 ∷ 4 ∷ 5 ∷ 6 ∷ [])
    ∷ (0 ∷ 1 ∷ 2 ∷ 3 ∷ 4 ∷ [])
    ∷ []

-- Neither emission after a Continue counts, the one in the inner continuing list does.
abbrev pub TwiceInMust : Type 0
TwiceInMust =
    musts skipping_twice ≡
    (0 ∷ 1 ∷ 2 ∷ 4 ∷ [])
    ∷ (0 ∷ 1 ∷ 2 ∷ 4 ∷ [])
    ∷ (0 ∷ 1 ∷ 2 ∷ 4 ∷ [])
    ∷ (0 ∷ 1 ∷ 2 ∷ 4 ∷ [])
    ∷ (0 ∷ 1 ∷ 2 ∷ 4 ∷ [])
    ∷ (0 ∷ 1 ∷ 2 ∷ 4 ∷ [])
    ∷ (0 ∷ 1 ∷ 2 ∷ 4 ∷ [])
    ∷ (0 ∷ 1 ∷ 2 ∷ 4 ∷ [])
    ∷ (0 ∷ 1 ∷ 2 ∷ 4 ∷ [])
    ∷ (0 ∷ 1 ∷ 2 ∷ 4 ∷ 6 ∷ [])
    ∷ (0 ∷ 1 ∷ 2 ∷ 4 ∷ [])
    ∷ []
