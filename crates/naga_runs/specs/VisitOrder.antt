-- Visit order: a statement, then what lies in its parts in written order, a break condition after both lists of its
-- Loop; of two siblings the one with the lower index first, with all that lies in it.
use Rattle.std.specs.List.{AllByRecursion}
use Rattle.std.specs.Prelude.{⊤, ℕ, suc, List, Option, Some, None, map, Contains, ◌≡◌, ◌≢◌, ◌↔◌, ◌∷◌, ◌++◌, [], ◌<◌}
use Rattle.ir_statements.specs.Tree.{Stmt, Body, Cases, Block, Branch, Switch, Loop, Done, Then, NoCase, OneCase, Leaf, Break, Continue, Return, Kill}
use Rattle.naga_runs.specs.Positions.{Part, PositionStep, Position, node_at, Root, Inner, Accept, Reject, Case, LoopBody, Continuing, Condition, In, NoNode}

abbrev pub condition_positions : Option ℕ → List Position
condition_positions None = []
condition_positions (Some h) = (In Condition 0 ∷ []) ∷ []

-- the positions of a list whose first statement has this index, those below a statement, and those of cases from
-- case k on
abbrev mutual
  pub positions_from : Part → ℕ → Body → List Position
  positions_from part i Done = []
  positions_from part i (Then x b) =
      (In part i ∷ []) ∷ (map (λ p. In part i ∷ p) (positions_below x) ++ positions_from part (suc i) b)

  pub positions_below : Stmt → List Position
  positions_below (Block b) = positions_from Inner 0 b
  positions_below (Branch h a r) = positions_from Accept 0 a ++ positions_from Reject 0 r
  positions_below (Switch h cs) = positions_of_cases 0 cs
  positions_below (Loop b c q) =
      positions_from LoopBody 0 b ++ (positions_from Continuing 0 c ++ condition_positions q)
  positions_below (Leaf acts statement span) = []
  positions_below Break = []
  positions_below Continue = []
  positions_below (Return v) = []
  positions_below Kill = []

  pub positions_of_cases : ℕ → Cases → List Position
  positions_of_cases k NoCase = []
  positions_of_cases k (OneCase v falls b cs) = positions_from (Case k) 0 b ++ positions_of_cases (suc k) cs

-- All positions of a body, in visit order.
abbrev pub positions : Body → List Position
positions b = positions_from Root 0 b

-- the place of a part among the parts of one statement, in written order
abbrev pub rank_of : Part → ℕ
rank_of Reject = 1
rank_of (Case k) = k
rank_of Continuing = 1
rank_of Condition = 2
rank_of _ = 0

-- Visit order word by word: p comes before q where q lies in p; or where, going in from a position that both lie in, p
-- goes on in an earlier part, or in the same part at a lower index.
pub data IsBefore (p q : Position) : Type 0 where
  LiesIn : (step : PositionStep) (r : Position) → q ≡ p ++ step ∷ r → IsBefore p q
  EarlierPart : (a : Position) (x y : Part) (i j : ℕ) (r s : Position) →
      p ≡ a ++ In x i ∷ r → q ≡ a ++ In y j ∷ s → rank_of x < rank_of y → IsBefore p q
  LowerIndex : (a : Position) (part : Part) (i j : ℕ) (r s : Position) →
      p ≡ a ++ In part i ∷ r → q ≡ a ++ In part j ∷ s → i < j → IsBefore p q

-- each position comes before all that follow it
abbrev pub IsInOrder : List Position → Type 0
IsInOrder [] = ⊤
IsInOrder (p ∷ ps) = AllByRecursion (λ q. IsBefore p q) ps × IsInOrder ps

-- it begins with a statement of the body's own list
pub record StartsAtRoot (p : Position) : Type 0 where
  pub index : ℕ
  pub rest : Position
  pub starts : p ≡ In Root index ∷ rest

-- The positions of a body are in visit order, and they are those where something stands.
pub record PositionsAreVisits : Type 0 where
  pub order : (b : Body) → IsInOrder (positions b)
  pub listed : (b : Body) (i : ℕ) (p : Position) →
      (Contains (positions b) (In Root i ∷ p)) ↔ (node_at b (In Root i ∷ p) ≢ NoNode)
  pub from_root : (b : Body) → AllByRecursion StartsAtRoot (positions b)
