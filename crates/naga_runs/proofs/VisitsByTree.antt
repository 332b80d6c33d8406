-- The visits by positions are those of the walk.
use Rattle.std.specs.Prelude.{ℕ, suc, List, Option, Some, None, map, ◌≡◌, ◌∷◌, ◌++◌, [], ◌+◌}
use Rattle.std.proofs.Common.{refl, ap, arith, ◌∙◌}
use Rattle.ir_statements.specs.Tree.{Stmt, Body, Cases, Leaf, Block, Branch, Switch, Loop, Break, Continue, Return, Kill, Done, Then, NoCase, OneCase}
use Rattle.naga_runs.specs.ByTree.{past, in_case, in_loop, in_continuing, at_break_if, break_if_visits, body_visits, part_visits, case_visits, VisitsAreByTree}
use Rattle.naga_runs.specs.Must.{with_sure}
use Rattle.naga_runs.specs.Positions.{Part, Position, case_at, list_below, node_below, node_at, Root, Inner, Accept, Reject, Case, LoopBody, Continuing, Condition, In, StatementNode}
use Rattle.naga_runs.specs.PutsAndUses.{with_body}
use Rattle.naga_runs.specs.Scope.{with_lists, known_at}
use Rattle.naga_runs.specs.VisitOrder.{condition_positions, positions_from, positions_below, positions_of_cases}
use Rattle.naga_runs.specs.Visits.{VisitPlace, Visit, abilities_from, place_from, at_begin, visit_at}

pub map-append : {A B : Type 0} (f : A → B) (xs ys : List A) → map f (xs ++ ys) ≡ map f xs ++ map f ys
map-append f [] ys = refl
map-append f (x ∷ xs) ys = ap (λ zs. f x ∷ zs) (map-append f xs ys)

map-map : {A B C : Type 0} (f : B → C) (g : A → B) (xs : List A) → map f (map g xs) ≡ map (λ x. f (g x)) xs
map-map f g [] = refl
map-map f g (x ∷ xs) = ap (λ zs. f (g x) ∷ zs) (map-map f g xs)

-- the visit at the rest of a position below a statement
abbrev in_stmt : Stmt → VisitPlace → Position → Visit
in_stmt x c p =
    record {
      place = record {
        abilities = abilities_from c.abilities p;
        scope = known_at with_body (with_lists with_body c.scope (Some x) p) (list_below (Some x) p) p;
        must = known_at with_sure (with_lists with_sure c.must (Some x) p) (list_below (Some x) p) p;
      };
      node = node_below (Some x) p (node_at (list_below (Some x) p) p);
    }

-- at an index of a list, and below what stands there
abbrev in_list : Body → VisitPlace → ℕ → Position → Visit
in_list b c j p = record { place = place_from c b (In Root j ∷ p); node = node_at b (In Root j ∷ p) }

-- at a statement itself
here_is : (x : Stmt) (c : VisitPlace) → in_stmt x c [] ≡ record { place = c; node = StatementNode x }
here_is (Leaf acts x' sp) c = refl
here_is (Block b) c = refl
here_is (Branch h a r) c = refl
here_is (Switch h cs) c = refl
here_is (Loop b d q) c = refl
here_is Break c = refl
here_is Continue c = refl
here_is (Return v) c = refl
here_is Kill c = refl

break_if_is : (b d : Body) (q : Option ℕ) (G : Position → Visit) (c : VisitPlace) →
    ((p : Position) → G p ≡ in_stmt (Loop b d q) c p) →
    map G (condition_positions q) ≡ break_if_visits (at_break_if b d c) q
break_if_is b d None G c says = refl
break_if_is b d (Some h) G c says = ap (λ v. v ∷ []) (says (In Condition 0 ∷ []))

-- what is said of a whole list
from_zero : (b : Body) (part : Part) (G : Position → Visit) (c : VisitPlace) →
    ((j : ℕ) (p : Position) → G (In part j ∷ p) ≡ in_list b c j p) → (j : ℕ) (p : Position) →
    G (In part (0 + j) ∷ p) ≡ in_list b c j p
from_zero b part G c says j p = let same : 0 + j ≡ j = omega arith in ap (λ n. G (In part n ∷ p)) same ∙ says j p

mutual
  -- a list whose first statement has index i
  body_is : (b : Body) (part : Part) (i : ℕ) (G : Position → Visit) (c : VisitPlace) →
      ((j : ℕ) (p : Position) → G (In part (i + j) ∷ p) ≡ in_list b c j p) →
      map G (positions_from part i b) ≡ body_visits c b
  body_is Done part i G c says = refl
  body_is (Then x b) part i G c says =
      let first : (p : Position) → G (In part i ∷ p) ≡ in_stmt x c p =
      λ p. let same : i ≡ i + 0 = omega arith in ap (λ n. G (In part n ∷ p)) same ∙ says 0 p in
      let rest : map G (positions_from part (suc i) b) ≡ body_visits (past x c) b =
      body_is b part (suc i) G (past x c) (λ j p. let same : suc i + j ≡ i + suc j = omega arith in ap
      (λ n. G (In part n ∷ p)) same ∙ says (suc j) p) in
      ap (λ v. v ∷ map G (map (λ p. In part i ∷ p) (positions_below x) ++ positions_from part (suc i) b))
      (first [] ∙ here_is x c)
      ∙ ap (λ vs. record { place = c; node = StatementNode x } ∷ vs) (
      map-append G (map (λ p. In part i ∷ p) (positions_below x)) (positions_from part (suc i) b)
      ∙ ap (λ vs. vs ++ map G (positions_from part (suc i) b))
      (map-map G (λ p. In part i ∷ p) (positions_below x) ∙ parts_are x (λ p. G (In part i ∷ p)) c first)
      ∙ ap (λ vs. part_visits c x ++ vs) rest
      )

  parts_are : (x : Stmt) (G : Position → Visit) (c : VisitPlace) → ((p : Position) → G p ≡ in_stmt x c p) →
      map G (positions_below x) ≡ part_visits c x
  parts_are (Block b) G c says = body_is b Inner 0 G c (from_zero b Inner G c (λ j p. says (In Inner j ∷ p)))
  parts_are (Branch h a r) G c says =
      map-append G (positions_from Accept 0 a) (positions_from Reject 0 r)
      ∙ ap (λ vs. vs ++ map G (positions_from Reject 0 r))
      (body_is a Accept 0 G c (from_zero a Accept G c (λ j p. says (In Accept j ∷ p))))
      ∙ ap (λ vs. body_visits c a ++ vs) (body_is r Reject 0 G c
      (from_zero r Reject G c (λ j p. says (In Reject j ∷ p))))
  parts_are (Switch h cs) G c says =
      cases_are cs 0 G (in_case c) (λ k j p. let same : 0 + k ≡ k = omega arith in ap
      (λ n. G (In (Case n) j ∷ p)) same ∙ says (In (Case k) j ∷ p))
  parts_are (Loop b d q) G c says =
      map-append G (positions_from LoopBody 0 b) (positions_from Continuing 0 d ++ condition_positions q)
      ∙ ap (λ vs. vs ++ map G (positions_from Continuing 0 d ++ condition_positions q))
      (body_is b LoopBody 0 G (in_loop c)
      (from_zero b LoopBody G (in_loop c) (λ j p. says (In LoopBody j ∷ p))))
      ∙ ap (λ vs. body_visits (in_loop c) b ++ vs) (
      map-append G (positions_from Continuing 0 d) (condition_positions q)
      ∙ ap (λ vs. vs ++ map G (condition_positions q))
      (body_is d Continuing 0 G (in_continuing b c)
      (from_zero d Continuing G (in_continuing b c) (λ j p. says (In Continuing j ∷ p))))
      ∙ ap (λ vs. body_visits (in_continuing b c) d ++ vs) (break_if_is b d q G c says)
      )
  parts_are (Leaf acts x' sp) G c says = refl
  parts_are Break G c says = refl
  parts_are Continue G c says = refl
  parts_are (Return v) G c says = refl
  parts_are Kill G c says = refl

  -- cases, of which the first is case k
  cases_are : (cs : Cases) (k : ℕ) (G : Position → Visit) (c : VisitPlace) →
      ((m j : ℕ) (p : Position) → G (In (Case (k + m)) j ∷ p) ≡ in_list (case_at cs m) c j p) → map G
      (positions_of_cases k cs) ≡ case_visits c cs
  cases_are NoCase k G c says = refl
  cases_are (OneCase v falls b cs) k G c says =
      map-append G (positions_from (Case k) 0 b) (positions_of_cases (suc k) cs)
      ∙ ap (λ vs. vs ++ map G (positions_of_cases (suc k) cs))
      (body_is b (Case k) 0 G c (from_zero b (Case k) G c
      (λ j p. let same : k ≡ k + 0 = omega arith in ap (λ n. G (In (Case n) j ∷ p)) same ∙ says 0 j p)))
      ∙ ap (λ vs. body_visits c b ++ vs) (cases_are cs (suc k) G c
      (λ m j p. let same : suc k + m ≡ k + suc m = omega arith in ap (λ n. G (In (Case n) j ∷ p)) same ∙ says
      (suc m) j p))

-- at_begin's own step is Root, which changes no ability
pub visits_are : VisitsAreByTree
visits_are pre b = body_is b Root 0 (visit_at pre b) (at_begin pre)
    (from_zero b Root (visit_at pre b) (at_begin pre) (λ j p. refl))
