-- The positions of a body are in visit order, and they are those where something stands.
use Rattle.std.specs.List.{AllByRecursion}
use Rattle.std.specs.Prelude.{get_or, ℕ, zero, suc, List, Option, Some, None, map, Contains, length, ◌≡◌, ◌≢◌, ◌↔◌, ◌⊎◌, ◌∷◌, ◌++◌, [], ◌<◌, ◌≤◌}
use Rattle.std.proofs.Common.{refl, sym, ap, subst, arith, inl, inr}
use Rattle.ir_statements.specs.Tree.{Stmt, Body, Cases, Leaf, Block, Branch, Switch, Loop, Break, Continue, Return, Kill, Done, Then, NoCase, OneCase}
use Rattle.naga_runs.specs.ByTree.{past, in_case, in_loop, in_continuing, at_break_if, break_if_visits, body_visits, part_visits, case_visits}
use Rattle.naga_runs.specs.Handles.{no_handles}
use Rattle.naga_runs.specs.Positions.{Part, PositionStep, Position, node_at, Root, Inner, Accept, Reject, Case, LoopBody, Continuing, Condition, In, NoNode}
use Rattle.naga_runs.specs.VisitOrder.{condition_positions, positions_from, positions_below, positions_of_cases, positions, rank_of, IsBefore, IsInOrder, StartsAtRoot, PositionsAreVisits, LiesIn, EarlierPart, LowerIndex}
use Rattle.naga_runs.specs.Visits.{VisitPlace, Visit, at_begin, visit_at}
use Rattle.naga_runs.proofs.EachOf.{all_append, all_mono}
use Rattle.naga_runs.proofs.EveryPosition.{at_every}
use Rattle.naga_runs.proofs.Laws.{all_listed}
use Rattle.naga_runs.proofs.VisitsByTree.{visits_are}

all_map : {A B : Type 0} (P : B → Type 0) (g : A → B) (xs : List A) → AllByRecursion (λ x. P (g x)) xs →
    AllByRecursion P (map g xs)
all_map P g [] a = tt
all_map P g (x ∷ xs) a = (a.0, all_map P g xs a.1)

-- a position that goes on in a part, from an index on
record GoesIn (part : Part) (from : ℕ) (p : Position) : Type 0 where
  index : ℕ
  rest : Position
  is : p ≡ In part index ∷ rest
  low : from ≤ index

-- one that goes on in a case, from case k on
record GoesInCase (from : ℕ) (p : Position) : Type 0 where
  case : ℕ
  index : ℕ
  rest : Position
  is : p ≡ In (Case case) index ∷ rest
  low : from ≤ case

-- one that goes on
record GoesOn (p : Position) : Type 0 where
  step : PositionStep
  rest : Position
  is : p ≡ step ∷ rest

lift : (step : PositionStep) (p q : Position) → IsBefore p q → IsBefore (step ∷ p) (step ∷ q)
lift step p q (LiesIn s r e) = LiesIn s r (ap (λ l. step ∷ l) e)
lift step p q (EarlierPart a x y i j r s e f lt) = EarlierPart (step ∷ a) x y i j r s (ap (λ l. step ∷ l) e)
    (ap (λ l. step ∷ l) f) lt
lift step p q (LowerIndex a part i j r s e f lt) = LowerIndex (step ∷ a) part i j r s (ap (λ l. step ∷ l) e)
    (ap (λ l. step ∷ l) f) lt

lifted : (step : PositionStep) (ps : List Position) → IsInOrder ps → IsInOrder (map (λ p. step ∷ p) ps)
lifted step [] o = tt
lifted step (p ∷ ps) o = (
  all_map (λ q. IsBefore (step ∷ p) q) (λ q. step ∷ q) ps
      (all_mono (λ q. IsBefore p q) (λ q. IsBefore (step ∷ p) (step ∷ q)) ps (λ q b. lift step p q b) o.0),
  lifted step ps o.1,
)

-- one list and then another
appended : (P Q : Position → Type 0) (ps qs : List Position) → ((p q : Position) → P p → Q q → IsBefore p q) →
    AllByRecursion P ps → AllByRecursion Q qs → IsInOrder ps → IsInOrder qs → IsInOrder (ps ++ qs)
appended P Q [] qs f a b o u = u
appended P Q (p ∷ ps) qs f a b o u = (
  all_append (λ q. IsBefore p q) ps qs o.0 (all_mono Q (λ q. IsBefore p q) qs (λ q c. f p q a.0 c) b),
  appended P Q ps qs f a.1 b o.1 u,
)

-- where positions go on
part_goes : (b : Body) (part : Part) (i : ℕ) → AllByRecursion (GoesIn part i) (positions_from part i b)
part_goes Done part i = tt
part_goes (Then x b) part i = (
  record { index = i; rest = []; is = refl; low = omega (arith) },
  all_append (GoesIn part i)
      (map (λ p. In part i ∷ p) (positions_below x)) (positions_from part (suc i) b)
      (all_map (GoesIn part i) (λ p. In part i ∷ p) (positions_below x)
      (all_of (positions_below x) (λ p. record { index = i; rest = p; is = refl; low = omega (arith) })))
      (all_mono (GoesIn part (suc i)) (GoesIn part i) (positions_from part (suc i) b)
      (λ p g. let low = g.low in record { index = g.index; rest = g.rest; is = g.is; low = omega (arith) })
      (part_goes b part (suc i))),
)
  where
    all_of : {P : Position → Type 0} (ps : List Position) → ((p : Position) → P p) → AllByRecursion P ps
    all_of [] f = tt
    all_of (p ∷ ps) f = (f p, all_of ps f)

cases_go : (cs : Cases) (k : ℕ) → AllByRecursion (GoesInCase k) (positions_of_cases k cs)
cases_go NoCase k = tt
cases_go (OneCase v falls b cs) k =
    all_append (GoesInCase k) (positions_from (Case k) 0 b) (positions_of_cases (suc k) cs)
    (all_mono (GoesIn (Case k) 0) (GoesInCase k) (positions_from (Case k) 0 b)
    (λ p g. record { case = k; index = g.index; rest = g.rest; is = g.is; low = omega (arith) })
    (part_goes b (Case k) 0)) (all_mono (GoesInCase (suc k)) (GoesInCase k) (positions_of_cases (suc k) cs)
    (λ p g. let low = g.low in record {
      case = g.case;
      index = g.index;
      rest = g.rest;
      is = g.is;
      low = omega
          (arith);
    }) (cases_go cs (suc k)))

goes_on : (part : Part) (i : ℕ) (ps : List Position) → AllByRecursion (GoesIn part i) ps → AllByRecursion GoesOn ps
goes_on part i ps a =
    all_mono (GoesIn part i) GoesOn ps (λ p g. record { step = In part g.index; rest = g.rest; is = g.is }) a

condition_goes : (q : Option ℕ) → AllByRecursion (GoesIn Condition 0) (condition_positions q)
condition_goes None = tt
condition_goes (Some h) = (record { index = 0; rest = []; is = refl; low = omega (arith) }, tt)

condition_order : (q : Option ℕ) → IsInOrder (condition_positions q)
condition_order None = tt
condition_order (Some h) = (tt, tt)

below_goes : (x : Stmt) → AllByRecursion GoesOn (positions_below x)
below_goes (Block b) = goes_on Inner 0 _ (part_goes b Inner 0)
below_goes (Branch h a r) =
    all_append GoesOn (positions_from Accept 0 a) (positions_from Reject 0 r)
    (goes_on Accept 0 _ (part_goes a Accept 0)) (goes_on Reject 0 _ (part_goes r Reject 0))
below_goes (Switch h cs) =
    all_mono (GoesInCase 0) GoesOn (positions_of_cases 0 cs)
    (λ p g. record { step = In (Case g.case) g.index; rest = g.rest; is = g.is }) (cases_go cs 0)
below_goes (Loop b c q) =
    all_append GoesOn (positions_from LoopBody 0 b) (positions_from Continuing 0 c ++ condition_positions q)
    (goes_on LoopBody 0 _ (part_goes b LoopBody 0))
    (all_append GoesOn (positions_from Continuing 0 c) (condition_positions q)
    (goes_on Continuing 0 _ (part_goes c Continuing 0)) (goes_on Condition 0 _ (condition_goes q)))
below_goes (Leaf acts x span) = tt
below_goes Break = tt
below_goes Continue = tt
below_goes (Return v) = tt
below_goes Kill = tt

-- an earlier part comes first
by_part : (x y : Part) (i j : ℕ) → rank_of x < rank_of y → (p q : Position) → GoesIn x i p → GoesIn y j q →
    IsBefore p q
by_part x y i j lt p q g h = EarlierPart [] x y g.index h.index g.rest h.rest g.is h.is lt

-- what a step leads to
record Behind (step : PositionStep) (p : Position) : Type 0 where
  rest : Position
  is : p ≡ step ∷ rest

all_behind : (step : PositionStep) (ps : List Position) → AllByRecursion (Behind step) (map (λ p. step ∷ p) ps)
all_behind step [] = tt
all_behind step (p ∷ ps) = (record { rest = p; is = refl }, all_behind step ps)

mutual
  body_order : (b : Body) (part : Part) (i : ℕ) → IsInOrder (positions_from part i b)
  body_order Done part i = tt
  body_order (Then x b) part i = (
    all_append (λ q. IsBefore (In part i ∷ []) q) (map (λ p. In part i ∷ p) (positions_below x))
        (positions_from part (suc i) b) (all_map (λ q. IsBefore (In part i ∷ []) q) (λ p. In part i ∷ p)
        (positions_below x) (all_mono GoesOn (λ p. IsBefore (In part i ∷ []) (In part i ∷ p)) (positions_below x)
        (λ p g. LiesIn g.step g.rest (ap (λ l. In part i ∷ l) g.is)) (below_goes x)))
        (all_mono (GoesIn part (suc i)) (λ q. IsBefore (In part i ∷ []) q) (positions_from part (suc i) b)
        (λ q g. let low = g.low in LowerIndex [] part i g.index [] g.rest refl g.is (omega (arith)))
        (part_goes b part (suc i))),
    appended (Behind (In part i)) (GoesIn part (suc i))
        (map (λ p. In part i ∷ p) (positions_below x)) (positions_from part (suc i) b)
        (λ p q f g. let low = g.low in LowerIndex [] part i g.index f.rest g.rest f.is g.is (omega (arith)))
        (all_behind (In part i) (positions_below x)) (part_goes b part (suc i))
        (lifted (In part i) (positions_below x) (below_order x)) (body_order b part (suc i)),
  )

  below_order : (x : Stmt) → IsInOrder (positions_below x)
  below_order (Block b) = body_order b Inner 0
  below_order (Branch h a r) =
      appended (GoesIn Accept 0) (GoesIn Reject 0) (positions_from Accept 0 a) (positions_from Reject 0 r)
      (by_part Accept Reject 0 0 (omega (arith))) (part_goes a Accept 0) (part_goes r Reject 0)
      (body_order a Accept 0) (body_order r Reject 0)
  below_order (Switch h cs) = cases_order cs 0
  below_order (Loop b c q) =
      appended (GoesIn LoopBody 0) (λ p. GoesIn Continuing 0 p ⊎ GoesIn Condition 0 p) (positions_from LoopBody 0 b)
      (positions_from Continuing 0 c ++ condition_positions q) (λ p r f g. after_body p r f g)
      (part_goes b LoopBody 0) (all_append (λ p. GoesIn Continuing 0 p ⊎ GoesIn Condition 0 p)
      (positions_from Continuing 0 c) (condition_positions q)
      (all_mono (GoesIn Continuing 0) (λ p. GoesIn Continuing 0 p ⊎ GoesIn Condition 0 p) _ (λ p g. inl g)
      (part_goes c Continuing 0)) (all_mono (GoesIn Condition 0)
      (λ p. GoesIn Continuing 0 p ⊎ GoesIn Condition 0 p) _ (λ p g. inr g) (condition_goes q)))
      (body_order b LoopBody 0) (appended (GoesIn Continuing 0) (GoesIn Condition 0)
      (positions_from Continuing 0 c) (condition_positions q) (by_part Continuing Condition 0 0 (omega (arith)))
      (part_goes c Continuing 0) (condition_goes q) (body_order c Continuing 0) (condition_order q))
    where
      after_body : (p r : Position) → GoesIn LoopBody 0 p → GoesIn Continuing 0 r ⊎ GoesIn Condition 0 r →
          IsBefore p r
      after_body p r f (inl g) = by_part LoopBody Continuing 0 0 (omega (arith)) p r f g
      after_body p r f (inr g) = by_part LoopBody Condition 0 0 (omega (arith)) p r f g
  below_order (Leaf acts x span) = tt
  below_order Break = tt
  below_order Continue = tt
  below_order (Return v) = tt
  below_order Kill = tt

  cases_order : (cs : Cases) (k : ℕ) → IsInOrder (positions_of_cases k cs)
  cases_order NoCase k = tt
  cases_order (OneCase v falls b cs) k =
      appended (GoesIn (Case k) 0) (GoesInCase (suc k)) (positions_from (Case k) 0 b)
      (positions_of_cases (suc k) cs) (λ p q f g. let low = g.low in EarlierPart [] (Case k)
      (Case g.case) f.index g.index f.rest g.rest f.is g.is (omega (arith))) (part_goes b (Case k) 0)
      (cases_go cs (suc k)) (body_order b (Case k) 0) (cases_order cs (suc k))

-- something stands at each visit
abbrev Stood : Visit → Type 0
Stood v = v.node ≢ NoNode

condition_stood : (c : VisitPlace) (q : Option ℕ) → AllByRecursion Stood (break_if_visits c q)
condition_stood c None = tt
condition_stood c (Some h) = (λ e. cc, tt)

mutual
  body_stood : (b : Body) (c : VisitPlace) → AllByRecursion Stood (body_visits c b)
  body_stood Done c = tt
  body_stood (Then x b) c = (
    λ e. cc,
    all_append Stood (part_visits c x) (body_visits (past x c) b) (parts_stood x c)
        (body_stood b (past x c)),
  )

  parts_stood : (x : Stmt) (c : VisitPlace) → AllByRecursion Stood (part_visits c x)
  parts_stood (Block b) c = body_stood b c
  parts_stood (Branch h a r) c = all_append Stood (body_visits c a) (body_visits c r) (body_stood a c)
      (body_stood r c)
  parts_stood (Switch h cs) c = cases_stood cs (in_case c)
  parts_stood (Loop b d q) c =
      all_append Stood (body_visits (in_loop c) b)
      (body_visits (in_continuing b c) d ++ break_if_visits (at_break_if b d c) q) (body_stood b (in_loop c))
      (all_append Stood (body_visits (in_continuing b c) d) (break_if_visits (at_break_if b d c) q)
      (body_stood d (in_continuing b c)) (condition_stood (at_break_if b d c) q))
  parts_stood (Leaf acts x span) c = tt
  parts_stood Break c = tt
  parts_stood Continue c = tt
  parts_stood (Return v) c = tt
  parts_stood Kill c = tt

  cases_stood : (cs : Cases) (c : VisitPlace) → AllByRecursion Stood (case_visits c cs)
  cases_stood NoCase c = tt
  cases_stood (OneCase v falls b cs) c =
      all_append Stood (body_visits c b) (case_visits c cs) (body_stood b c) (cases_stood cs c)

pub unmap : {A B : Type 0} (P : B → Type 0) (g : A → B) (xs : List A) → AllByRecursion P (map g xs) →
    AllByRecursion (λ x. P (g x)) xs
unmap P g [] a = tt
unmap P g (x ∷ xs) a = (a.0, unmap P g xs a.1)

all_at : {A : Type 0} (P : A → Type 0) (xs : List A) (x : A) (k : ℕ) → k < length xs → get_or xs k x ≡ x →
    AllByRecursion P xs → P x
all_at P [] x k lt e a = absurd (omega (arith))
all_at P (y ∷ ys) x zero lt e a = subst P e a.0
all_at P (y ∷ ys) x (suc k) lt e a = all_at P ys x k (omega (arith)) e a.1

all_stood : (b : Body) → AllByRecursion (λ p. node_at b p ≢ NoNode) (positions b)
all_stood b =
    unmap Stood (visit_at no_handles b) (positions b)
    (subst (λ vs. AllByRecursion Stood vs) (sym (visits_are no_handles b)) (body_stood b (at_begin no_handles)))

listed_where : (b : Body) (i : ℕ) (p : Position) →
    (Contains (positions b) (In Root i ∷ p)) ↔ (node_at b (In Root i ∷ p) ≢ NoNode)
listed_where b i p = (
  λ c. all_at (λ q. node_at b q ≢ NoNode) (positions b) (In Root i ∷ p) c.0 c.1 c.2 (all_stood b),
  λ stands. go stands (at_every b (λ q. Contains (positions b) q)
      (all_listed (λ q. Contains (positions b) q) (positions b) (λ q c. c)) i p),
)
  where
    go : node_at b (In Root i ∷ p) ≢ NoNode →
        (node_at b (In Root i ∷ p) ≡ NoNode) ⊎ Contains (positions b) (In Root i ∷ p) → Contains (positions b)
        (In Root i ∷ p)
    go stands (inl none) = absurd (stands none)
    go stands (inr listed) = listed

pub positions_are_visits : PositionsAreVisits
positions_are_visits =
    record {
      order = λ b. body_order b Root 0;
      listed = listed_where;
      from_root = λ b. all_mono (GoesIn Root 0) StartsAtRoot (positions b)
          (λ p g. record { index = g.index; rest = g.rest; starts = g.is }) (part_goes b Root 0);
    }
