-- What holds at each position of the list holds wherever something stands.
use Rattle.std.specs.List.{AllByRecursion}
use Rattle.std.specs.Prelude.{ℕ, zero, suc, List, Option, Some, None, map, ◌≡◌, ◌⊎◌, ◌∷◌, ◌++◌, [], ◌+◌}
use Rattle.std.proofs.Common.{refl, ap, subst, arith, inl, inr}
use Rattle.ir_statements.specs.Tree.{Stmt, Body, Cases, Block, Branch, Switch, Loop, Done, Then, NoCase, OneCase}
use Rattle.naga_runs.specs.Positions.{Part, Position, BodyNode, case_at, list_below, condition_node, node_below, node_at, Root, Inner, Accept, Reject, Case, LoopBody, Continuing, Condition, In, NoNode}
use Rattle.naga_runs.specs.VisitOrder.{condition_positions, positions_from, positions_below, positions_of_cases, positions}

pub node_none : (p : Position) → node_at Done p ≡ NoNode
node_none [] = refl
node_none (In part i ∷ []) = refl
node_none (In part i ∷ In next j ∷ p) = node_none (In next j ∷ p)

all_of : (Q : Position → Type 0) (f : Position → Position) (ps : List Position) → AllByRecursion Q (map f ps) →
    AllByRecursion (λ p. Q (f p)) ps
all_of Q f [] a = tt
all_of Q f (p ∷ ps) a = (a.0, all_of Q f ps a.1)

all_left : (Q : Position → Type 0) (ps qs : List Position) → AllByRecursion Q (ps ++ qs) → AllByRecursion Q ps
all_left Q [] qs a = tt
all_left Q (p ∷ ps) qs a = (a.0, all_left Q ps qs a.1)

all_right : (Q : Position → Type 0) (ps qs : List Position) → AllByRecursion Q (ps ++ qs) → AllByRecursion Q qs
all_right Q [] qs a = a
all_right Q (p ∷ ps) qs a = all_right Q ps qs a.1

-- nothing stands there, or Q holds
abbrev Holds : (Position → Type 0) → BodyNode → Position → Type 0
Holds Q node p = (node ≡ NoNode) ⊎ Q p

holds_at : (Q : Position → Type 0) (node : BodyNode) (p q : Position) → p ≡ q → Holds Q node p → Holds Q node q
holds_at Q node p q e h = subst (λ x. Holds Q node x) e h

from_zero : (Q : Position → Type 0) (node : BodyNode) (part : Part) (j : ℕ) (r : Position) →
    Holds Q node (In part (0 + j) ∷ r) → Holds Q node (In part j ∷ r)
from_zero Q node part j r h = let e : 0 + j ≡ j = omega arith in holds_at Q node _ _ (ap (λ m. In part m ∷ r) e) h

condition_every : (q : Option ℕ) (Q : Position → Type 0) → AllByRecursion Q (condition_positions q) →
    Holds Q (condition_node q) (In Condition 0 ∷ [])
condition_every None Q a = inl refl
condition_every (Some h) Q a = inr a.0

mutual
  body_every : (b : Body) (part : Part) (i : ℕ) (Q : Position → Type 0) →
      AllByRecursion Q (positions_from part i b) → (j : ℕ) (r : Position) → Holds Q (node_at b (In part j ∷ r))
      (In part (i + j) ∷ r)
  body_every Done part i Q a j r = inl (node_none (In part j ∷ r))
  body_every (Then x b) part i Q a zero [] = let e : i ≡ i + 0 = omega arith in inr
      (subst (λ m. Q (In part m ∷ [])) e a.0)
  body_every (Then x b) part i Q a zero (In next j ∷ r) =
      let e : i ≡ i + 0 = omega arith in
      holds_at Q _ (In part i ∷ In next j ∷ r) _ (ap (λ m. In part m ∷ In next j ∷ r) e)
      (stmt_every x (λ p. Q (In part i ∷ p))
      (all_of Q _ (positions_below x) (all_left Q _ (positions_from part (suc i) b) a.1)) next j r)
  body_every (Then x b) part i Q a (suc j) r =
      let e : suc i + j ≡ i + suc j = omega arith in
      holds_at Q _ (In part (suc i + j) ∷ r) _ (ap (λ m. In part m ∷ r) e)
      (body_every b part (suc i) Q (all_right Q (map (λ p. In part i ∷ p) (positions_below x)) _ a.1) j r)

  stmt_every : (x : Stmt) (Q : Position → Type 0) → AllByRecursion Q (positions_below x) →
      (part : Part) (j : ℕ) (r : Position) →
      Holds Q (node_below (Some x) (In part j ∷ r) (node_at (list_below (Some x) (In part j ∷ r)) (In part j ∷ r)))
      (In part j ∷ r)
  stmt_every (Block b) Q a Inner j r = from_zero Q _ Inner j r (body_every b Inner 0 Q a j r)
  stmt_every (Block b) Q a part j r = inl (node_none (In part j ∷ r))
  stmt_every (Branch h x y) Q a Accept j r =
      from_zero Q _ Accept j r (body_every x Accept 0 Q (all_left Q _ (positions_from Reject 0 y) a) j r)
  stmt_every (Branch h x y) Q a Reject j r =
      from_zero Q _ Reject j r (body_every y Reject 0 Q (all_right Q (positions_from Accept 0 x) _ a) j r)
  stmt_every (Branch h x y) Q a part j r = inl (node_none (In part j ∷ r))
  stmt_every (Switch h cs) Q a (Case k) j r =
      let e : 0 + k ≡ k = omega arith in
      holds_at Q _ (In (Case (0 + k)) j ∷ r) _ (ap (λ m. In (Case m) j ∷ r) e) (cases_every cs 0 Q a k j r)
  stmt_every (Switch h cs) Q a part j r = inl (node_none (In part j ∷ r))
  stmt_every (Loop b c q) Q a LoopBody j r =
      from_zero Q _ LoopBody j r (body_every b LoopBody 0 Q
      (all_left Q _ (positions_from Continuing 0 c ++ condition_positions q) a) j r)
  stmt_every (Loop b c q) Q a Continuing j r =
      from_zero Q _ Continuing j r (body_every c Continuing 0 Q
      (all_left Q _ (condition_positions q) (all_right Q (positions_from LoopBody 0 b) _ a)) j r)
  stmt_every (Loop b c q) Q a Condition zero [] =
      condition_every q Q (all_right Q (positions_from Continuing 0 c) _
      (all_right Q (positions_from LoopBody 0 b) _ a))
  stmt_every (Loop b c q) Q a part j r = inl (node_none (In part j ∷ r))
  stmt_every x Q a part j r = inl (node_none (In part j ∷ r))

  cases_every : (cs : Cases) (k : ℕ) (Q : Position → Type 0) → AllByRecursion Q (positions_of_cases k cs) →
      (m j : ℕ) (r : Position) → Holds Q (node_at (case_at cs m) (In (Case m) j ∷ r)) (In (Case (k + m)) j ∷ r)
  cases_every NoCase k Q a m j r = inl (node_none (In (Case m) j ∷ r))
  cases_every (OneCase v falls b cs) k Q a zero j r =
      let e : k ≡ k + 0 = omega arith in
      from_zero Q _ (Case (k + 0)) j r (holds_at Q _ (In (Case k) (0 + j) ∷ r) _
      (ap (λ m. In (Case m) (0 + j) ∷ r) e)
      (body_every b (Case k) 0 Q (all_left Q _ (positions_of_cases (suc k) cs) a) j r))
  cases_every (OneCase v falls b cs) k Q a (suc m) j r =
      let e : suc k + m ≡ k + suc m = omega arith in
      holds_at Q _ (In (Case (suc k + m)) j ∷ r) _ (ap (λ m. In (Case m) j ∷ r) e)
      (cases_every cs (suc k) Q (all_right Q (positions_from (Case k) 0 b) _ a) m j r)

pub at_every : (b : Body) (Q : Position → Type 0) → AllByRecursion Q (positions b) → (i : ℕ) (p : Position) →
    Holds Q (node_at b (In Root i ∷ p)) (In Root i ∷ p)
at_every b Q a i p = from_zero Q _ Root i p (body_every b Root 0 Q a i p)
