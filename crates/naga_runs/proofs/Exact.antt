-- Exactness, from what every run comes to and from the runs that there are.
use Rattle.std.proofs.lemmas.List.Elements.{All-contains, All-from_recursion, Contains-append_right, Contains-push, Contains-push_cases}
use Rattle.std.specs.List.{AllByRecursion, list_any}
use Rattle.std.specs.Prelude.{ℕ, Bool, true, false, not, List, Contains, ◌≡◌, ◌⊎◌, ◌∷◌, ◌++◌, ◌||◌, [], ◌+◌}
use Rattle.std.proofs.Common.{refl, sym, ap, subst, arith, inl, inr, ◌∙◌}
use Rattle.ir_statements.specs.Tree.{Body}
use Rattle.naga_runs.specs.Abilities.{Jump, node_jump, may_return, may_break, may_continue, NoJump, ToBreak, ToContinue, ToReturn}
use Rattle.naga_runs.specs.ComesTo.{Comes, IsComeTo, HasNoDeadCode, IsStuckBy}
use Rattle.naga_runs.specs.DeadCode.{may_come, dead_code}
use Rattle.naga_runs.specs.Exactness.{AlwaysLive, MustIsLive, MustIsExact, JumpsAreExact, EarlierIsLive, DeadCodeIsExact, TrailIsOfRun}
use Rattle.naga_runs.specs.Handles.{Handles, no_handles}
use Rattle.naga_runs.specs.Machine.{Outcome, Run, whole, run, run_body, outcome_of, Next, Broken, Continued, Returned, Ended, Stopped, Stuck, Ran}
use Rattle.naga_runs.specs.Must.{must_at}
use Rattle.naga_runs.specs.Positions.{Position, BodyNode, node_at, Root, In, NoNode}
use Rattle.naga_runs.specs.Scope.{known_at}
use Rattle.naga_runs.specs.Soundness.{Allowed, HasAbility}
use Rattle.naga_runs.specs.Trail.{Arrival, trail}
use Rattle.naga_runs.specs.Unions.{EarlierSibling}
use Rattle.naga_runs.specs.VisitOrder.{positions, StartsAtRoot}
use Rattle.naga_runs.proofs.Alive.{Alive, known_same}
use Rattle.naga_runs.proofs.Arrivals.{LastLacks, Settled, Fine, from_start, body_law}
use Rattle.naga_runs.proofs.Bools.{not_true, or_none}
use Rattle.naga_runs.proofs.EveryPosition.{at_every}
use Rattle.naga_runs.proofs.Meets.{Found, Arrives, ListMeets, Stands, list_met, moved}
use Rattle.naga_runs.proofs.Laws.{all_listed}
use Rattle.naga_runs.proofs.Settings.{Setting, ListEnds}
use Rattle.naga_runs.proofs.Tallies.{Within}
use Rattle.naga_runs.proofs.TrailEvents.{run_records}
use Rattle.naga_runs.proofs.UnionsAre.{must_is_union}
use Rattle.naga_runs.proofs.VisitOrders.{positions_are_visits}
use Rattle.naga_runs.proofs.Ways.{with_turn}

-- what holds of each arrival
pub record Arrived (pre : Handles) (b : Body) (a : Arrival) : Type 0 where
  pub node : a.node ≡ node_at b a.position
  pub must : Within (must_at pre b a.position) a.live
  pub come : may_come b a.position ≡ true

abbrev pub Able : Arrival → Type 0
Able a = HasAbility (node_jump a.node) a.position

abbrev pub at_root : Handles → Setting
at_root pre = record { must = pre; ret = true; brk = false; cont = false }

abbrev pub is_unstuck : Outcome → Bool
is_unstuck Stuck = false
is_unstuck _ = true

whole_fine : (n : ℕ) (Q A : Arrival → Type 0) (pre : Handles) (b : Body) (r : Run) (t : List Arrival) →
    Fine n Q A (at_root pre) (ListEnds b (at_root pre)) r t →
    AllByRecursion Q t × Settled n Q A (is_unstuck (outcome_of (whole r))) t
whole_fine n Q A pre b (Ran es Next i l cs) t f = (f.0, f.1)
whole_fine n Q A pre b (Ran es Broken i l cs) t f = (f.0, f.1)
whole_fine n Q A pre b (Ran es Continued i l cs) t f = (f.0, f.1)
whole_fine n Q A pre b (Ran es Returned i l cs) t f = (f.0, f.1)
whole_fine n Q A pre b (Ran es Ended i l cs) t f = (f.0, f.1)
whole_fine n Q A pre b (Ran es Stopped i l cs) t f = (f.0, f.1)
whole_fine n Q A pre b (Ran es Stuck i l cs) t f = (f.0, f.1)

able_here : (a : Arrival) (node : BodyNode) (p : Position) → a.position ≡ p → a.node ≡ node →
    Able a ≡ HasAbility (node_jump node) p
able_here a node p e f =
    ap (λ q. HasAbility (node_jump a.node) q) e ∙ ap (λ x. HasAbility (node_jump x) p) f

cast : {A B : Type 0} → A ≡ B → A → B
cast e a = subst (λ X. X) e a

pub every_run : (pre : Handles) (b : Body) (n : ℕ) (cs : List ℕ) →
    AllByRecursion (Arrived pre b) (trail b pre n cs)
    × Settled n (Arrived pre b) Able (is_unstuck (outcome_of (run b pre n cs))) (trail b pre n cs)
every_run pre b n cs =
    whole_fine n (Arrived pre b) Able pre b (run_body b n Root 0 [] [] pre cs) (trail b pre n cs)
    (body_law n (Arrived pre b) Able b (at_root pre) Root 0 [] [] pre cs (record { at = λ h e. e })
    (from_start n (Arrived pre b) Able b (at_root pre) Root [] (λ j r a eq en w come. (
      record {
        node = en ∙ ap (node_at b) (sym eq);
        must = subst (λ p. Within (must_at pre b p) a.live) (sym eq) w;
        come = subst (λ p. may_come b p ≡ true) (sym eq) come;
      },
      cast (able_here a (node_at b (In Root j ∷ r)) (In Root j ∷ r) eq en),
      cast (sym (able_here a (node_at b (In Root j ∷ r)) (In Root j ∷ r) eq en)),
    ))))

-- one arrival of a trail
pub arrived : (pre : Handles) (b : Body) (n : ℕ) (cs : List ℕ) (a : Arrival) → Contains (trail b pre n cs) a →
    Arrived pre b a
arrived pre b n cs a c =
    All-contains (Arrived pre b) (trail b pre n cs) a
    (All-from_recursion (Arrived pre b) (trail b pre n cs) (every_run pre b n cs).0) c

-- a listed position stands in the body's own list, and something stands there
record Listed (b : Body) (p : Position) : Type 0 where
  index : ℕ
  rest : Position
  is : p ≡ In Root index ∷ rest
  stands : Stands (node_at b (In Root index ∷ rest))

listed : (b : Body) (p : Position) → Contains (positions b) p → Listed b p
listed b p c =
    let start : StartsAtRoot p = All-contains StartsAtRoot (positions b) p
    (All-from_recursion StartsAtRoot (positions b) (positions_are_visits.from_root b)) c in
    record {
      index = start.index;
      rest = start.rest;
      is = start.starts;
      stands = (positions_are_visits.listed b start.index start.rest).0
          (subst (λ q. Contains (positions b) q) start.starts c);
    }

may_come_to : (b : Body) (p : Position) → IsComeTo b p → may_come b p ≡ true
may_come_to b p c =
    subst (λ q. may_come b q ≡ true) c.comes.there
    (arrived c.given b c.bound c.choices c.comes.arrival c.comes.in_trail).come

pub alive_of : (b : Body) → HasNoDeadCode b → Alive b
alive_of b clean i r stands = go (at_every b (IsComeTo b) clean i r)
  where
    go : (node_at b (In Root i ∷ r) ≡ NoNode) ⊎ IsComeTo b (In Root i ∷ r) → may_come b (In Root i ∷ r) ≡ true
    go (inl none) = absurd (stands none)
    go (inr c) = may_come_to b (In Root i ∷ r) c

-- the run that there is
pub record Witness (pre : Handles) (b : Body) (p : Position) (live : Handles) : Type 0 where
  pub bound : ℕ
  pub choices : List ℕ
  pub comes : Comes pre b bound choices p live

record Picked (P : Arrival → Type 0) (t : List Arrival) : Type 0 where
  arrival : Arrival
  in_trail : Contains t arrival
  holds : P arrival

picked : (P : Arrival → Type 0) (t : List Arrival) → Found P t → Picked P t
picked P [] f = absurd f
picked P (a ∷ t) (inl p) = record { arrival = a; in_trail = (0, omega arith, refl); holds = p }
picked P (a ∷ t) (inr f) =
    let more = picked P t f in
    record {
      arrival = more.arrival;
      in_trail = Contains-append_right (a ∷ []) t more.arrival more.in_trail;
      holds = more.holds;
    }

witness_there : (pre : Handles) (b : Body) (i : ℕ) (r : Position) → may_come b (In Root i ∷ r) ≡ true →
    Stands (node_at b (In Root i ∷ r)) →
    Witness pre b (In Root i ∷ r) (known_at with_turn pre b (In Root i ∷ r))
witness_there pre b i r come stands =
    let met : ListMeets b i r = list_met b i r come stands in
    let e : 0 + i ≡ i = omega arith in
    let found : Picked (Arrives (In Root i ∷ r) (known_at with_turn pre b (In Root i ∷ r)))
    (trail b pre met.bound (met.used ++ [])) = picked _ _ (moved (In Root (0 + i) ∷ r) (In Root i ∷ r) _ _
    (ap (λ m. In Root m ∷ r) e) (met.meets met.bound (omega arith) Root 0 [] [] pre [])) in
    record {
      bound = met.bound;
      choices = met.used ++ [];
      comes = record {
        arrival = found.arrival;
        in_trail = found.in_trail;
        there = found.holds.there;
        lives = found.holds.lives;
      };
    }

pub witness : (pre : Handles) (b : Body) (p : Position) → Contains (positions b) p → may_come b p ≡ true →
    Witness pre b p (known_at with_turn pre b p)
witness pre b p c come =
    let here : Listed b p = listed b p c in
    subst (λ q. Witness pre b q (known_at with_turn pre b q)) (sym here.is)
    (witness_there pre b here.index here.rest (subst (λ q. may_come b q ≡ true) here.is come) here.stands)

pub must_is_live : MustIsLive
must_is_live pre b p h e n cs live c =
    let a = arrived pre b n cs c.arrival c.in_trail in
    subst (λ l. l h ≡ true) c.lives
    (a.must.at h (subst (λ q. must_at pre b q h ≡ true) (sym c.there) e))

pub clean_come : (b : Body) → HasNoDeadCode b → (p : Position) → Contains (positions b) p → may_come b p ≡ true
clean_come b clean p c =
    may_come_to b p (All-contains (IsComeTo b) (positions b) p
    (All-from_recursion (IsComeTo b) (positions b) clean) c)

pub must_is_exact : MustIsExact
must_is_exact pre b clean p c h = (must_is_live pre b p h, back)
  where
    back : AlwaysLive pre b p h → must_at pre b p h ≡ true
    back always =
        let run = witness pre b p c (clean_come b clean p c) in
        subst (λ s. s h ≡ true) (known_same p b pre (alive_of b clean))
        (always run.bound run.choices (known_at with_turn pre b p) run.comes)

pub earlier_is_live : EarlierIsLive
earlier_is_live pre b a part i j r h lt put =
    must_is_live pre b (a ++ In part i ∷ r) h
    ((must_is_union pre b (a ++ In part i ∷ r) h).1 (EarlierSibling a part i j r refl lt put))

-- jumps
allowed_or : (jump : Jump) (r b c : Bool) → Allowed jump r b c ⊎ (Allowed jump r b c → ⊥)
allowed_or NoJump r b c = inl tt
allowed_or ToReturn true b c = inl refl
allowed_or ToReturn false b c = inr (λ e. not_true e)
allowed_or ToBreak r true c = inl refl
allowed_or ToBreak r false c = inr (λ e. not_true e)
allowed_or ToContinue r b true = inl refl
allowed_or ToContinue r b false = inr (λ e. not_true e)

unstuck_is : (o : Outcome) → is_unstuck o ≡ false → o ≡ Stuck
unstuck_is Stuck e = refl
unstuck_is Next e = cc
unstuck_is Broken e = cc
unstuck_is Continued e = cc
unstuck_is Returned e = cc
unstuck_is Ended e = cc
unstuck_is Stopped e = cc

abbrev last_with : Arrival → List Arrival → Arrival
last_with d [] = d
last_with d (a ∷ t) = last_with a t

last_is : (d : Arrival) (t : List Arrival) (a : Arrival) → last_with d (t ++ a ∷ []) ≡ a
last_is d [] a = refl
last_is d (c ∷ t) a = last_is c t a

same_last : (t u : List Arrival) (a c : Arrival) → t ++ a ∷ [] ≡ u ++ c ∷ [] → a ≡ c
same_last t u a c e = sym (last_is a t a) ∙ (ap (last_with a) e ∙ last_is a u c)

-- where an arrival's ability is the position's
able_is : (pre : Handles) (b : Body) (n : ℕ) (cs : List ℕ) (a : Arrival) (p : Position) →
    Contains (trail b pre n cs) a → a.position ≡ p → Able a ≡ HasAbility (node_jump (node_at b p)) p
able_is pre b n cs a p c there =
    able_here a (node_at b p) p there ((arrived pre b n cs a c).node ∙ ap (node_at b) there)

never_stuck : (pre : Handles) (b : Body) (p : Position) (n : ℕ) (cs : List ℕ) →
    HasAbility (node_jump (node_at b p)) p → IsStuckBy pre b n cs p → ⊥
never_stuck pre b p n cs able s =
    let lacking : LastLacks n (Arrived pre b) Able (trail b pre n cs) =
    subst (λ u. Settled n (Arrived pre b) Able u (trail b pre n cs)) (ap is_unstuck s.stuck)
    (every_run pre b n cs).1 in
    let same : lacking.last ≡ s.last =
    same_last lacking.before s.before lacking.last s.last (sym lacking.is ∙ s.ends) in
    let c : Contains (trail b pre n cs) s.last =
    subst (λ t. Contains t s.last) (sym s.ends) (Contains-push s.before s.last) in
    lacking.lacks (subst Able (sym same) (cast (sym (able_is pre b n cs s.last p c s.there)) able))

-- a run that comes to a jump without its ability is stuck by it
pub stuck_by : (pre : Handles) (b : Body) (p : Position) (n : ℕ) (cs : List ℕ) (live : Handles) →
    (HasAbility (node_jump (node_at b p)) p → ⊥) → Comes pre b n cs p live → IsStuckBy pre b n cs p
stuck_by pre b p n cs live lacks c =
    go (is_unstuck (outcome_of (run b pre n cs))) refl (every_run pre b n cs).1
  where
    lacks_here : Able c.arrival → ⊥
    lacks_here able = lacks (cast (able_is pre b n cs c.arrival p c.in_trail c.there) able)

    able_in : (t : List Arrival) → AllByRecursion Able t → Contains t c.arrival → Able c.arrival
    able_in t all k = All-contains Able t c.arrival (All-from_recursion Able t all) k

    go : (u : Bool) → is_unstuck (outcome_of (run b pre n cs)) ≡ u →
        Settled n (Arrived pre b) Able u (trail b pre n cs) → IsStuckBy pre b n cs p
    go true e all = absurd (lacks_here (able_in (trail b pre n cs) all c.in_trail))
    go false e lacking =
        which (Contains-push_cases lacking.before lacking.last c.arrival
        (subst (λ t. Contains t c.arrival) lacking.is c.in_trail))
      where
        which : Contains lacking.before c.arrival ⊎ (lacking.last ≡ c.arrival) → IsStuckBy pre b n cs p
        which (inl k) = absurd (lacks_here (able_in lacking.before lacking.able k))
        which (inr same) =
            record {
              stuck = unstuck_is (outcome_of (run b pre n cs)) e;
              before = lacking.before;
              last = lacking.last;
              ends = lacking.is;
              there = ap (λ a. a.position) same ∙ c.there;
            }

pub jumps_are_exact : JumpsAreExact
jumps_are_exact pre b clean p c = (λ able n cs s. never_stuck pre b p n cs able s, back)
  where
    back : ((n : ℕ) (cs : List ℕ) → IsStuckBy pre b n cs p → ⊥) → HasAbility (node_jump (node_at b p)) p
    back never = go (allowed_or (node_jump (node_at b p)) (may_return p) (may_break p) (may_continue p))
      where
        go : HasAbility (node_jump (node_at b p)) p ⊎ (HasAbility (node_jump (node_at b p)) p → ⊥) →
            HasAbility (node_jump (node_at b p)) p
        go (inl able) = able
        go (inr lacks) =
            let run = witness pre b p c (clean_come b clean p c) in
            absurd (never run.bound run.choices (stuck_by pre b p run.bound run.choices _ lacks run.comes))

-- dead code over the tree
not_false : (m : Bool) → not m ≡ false → m ≡ true
not_false true e = refl
not_false false e = cc

is_come_to : (b : Body) (p : Position) → Contains (positions b) p → may_come b p ≡ true → IsComeTo b p
is_come_to b p c come =
    let run = witness no_handles b p c come in
    record {
      given = no_handles;
      bound = run.bound;
      choices = run.choices;
      live = known_at with_turn no_handles b p;
      comes = run.comes;
    }

none_dead : (b : Body) (ps : List Position) → list_any (λ p. not (may_come b p)) ps ≡ false →
    AllByRecursion (λ p. may_come b p ≡ true) ps
none_dead b [] e = tt
none_dead b (p ∷ ps) e =
    let e' = or_none (not (may_come b p)) (list_any (λ p. not (may_come b p)) ps) e in
    (not_false (may_come b p) e'.0, none_dead b ps e'.1)

all_come : (b : Body) (ps : List Position) → AllByRecursion (λ p. may_come b p ≡ true) ps →
    list_any (λ p. not (may_come b p)) ps ≡ false
all_come b [] a = refl
all_come b (p ∷ ps) a =
    ap (λ m. not m || list_any (λ p. not (may_come b p)) ps) a.0 ∙ all_come b ps a.1

pub dead_code_is_exact : DeadCodeIsExact
dead_code_is_exact =
    record {
      positions = λ b p c. (is_come_to b p c, may_come_to b p);
      bodies = λ b. (
        λ e. clean b e,
        λ a. all_come b (positions b)
            (all_listed (λ p. may_come b p ≡ true) (positions b) (λ p c. clean_come b a p c)),
      );
    }
  where
    clean : (b : Body) → dead_code b ≡ false → HasNoDeadCode b
    clean b e =
        all_listed (IsComeTo b) (positions b) (λ p c. is_come_to b p c
        (All-contains (λ p. may_come b p ≡ true) (positions b) p
        (All-from_recursion (λ p. may_come b p ≡ true) (positions b) (none_dead b (positions b) e)) c))

every_node : (pre : Handles) (b : Body) (t : List Arrival) → AllByRecursion (Arrived pre b) t →
    AllByRecursion (λ a. a.node ≡ node_at b a.position) t
every_node pre b [] a = tt
every_node pre b (x ∷ t) a = (a.0.node, every_node pre b t a.1)

pub trail_is_of_run : TrailIsOfRun
trail_is_of_run =
    record {
      events = λ pre b n cs. run_records pre b n cs;
      nodes = λ pre b n cs. every_node pre b (trail b pre n cs) (every_run pre b n cs).0;
    }
