-- The law, from what holds inside a body.
use Rattle.std.proofs.lemmas.List.Elements.{Contains-append_right}
use Rattle.std.specs.List.{AllByRecursion}
use Rattle.std.specs.Prelude.{ℕ, Bool, true, false, List, Option, Contains, ◌≡◌, ◌↔◌, ◌⊎◌, ◌∷◌, ◌++◌, []}
use Rattle.std.proofs.Common.{refl, sym, ap, subst, arith, append_assoc, inl, inr, ◌∙◌}
use Rattle.ir_statements.specs.Tree.{Act, Body, Use, Put}
use Rattle.naga_runs.specs.Handles.{Handles, no_handles, with_handle}
use Rattle.naga_runs.specs.Abilities.{node_jump}
use Rattle.naga_runs.specs.Machine.{Event, Run, run_body, whole, run, events_of, outcome_of, Next, Broken, Continued, Returned, Ended, Stopped, Stuck, Ran}
use Rattle.naga_runs.specs.Must.{must_at}
use Rattle.naga_runs.specs.Positions.{Position, node_at, Root, In, NoNode}
use Rattle.naga_runs.specs.PutsAndUses.{node_acts, with_acts}
use Rattle.naga_runs.specs.Scope.{scope_at}
use Rattle.naga_runs.specs.Skipped.{skipped_at}
use Rattle.naga_runs.specs.Soundness.{Fit, HasAbility, SurelyFitsAt, IsSurelyFit, IsSure, SurelyFitIsSure}
use Rattle.naga_runs.specs.VisitOrder.{positions}
use Rattle.naga_runs.proofs.Bools.{not_true}
use Rattle.naga_runs.proofs.Contexts.{Context, At, BodyEnds}
use Rattle.naga_runs.proofs.EveryPosition.{at_every}
use Rattle.naga_runs.proofs.Induction.{Fine, from_start, body_law}
use Rattle.naga_runs.proofs.Tallies.{Tally, acts_grow, acts-append, Fresh, outside, alive, skipped}

fit_fresh : (acts : List Act) (u s : Handles) → Fit u s acts → Fresh s acts
fit_fresh [] u s f = tt
fit_fresh (Use h ∷ acts) u s f = fit_fresh acts u s f.1
fit_fresh (Put h ∷ acts) u s f = (f.0, fit_fresh acts (with_handle u h) (with_handle s h) f.1)

-- what the conditions say of one act
fit_use : (done rest : List Act) (h : ℕ) (u s : Handles) → Fit u s (done ++ Use h ∷ rest) →
    with_acts u done h ≡ true
fit_use [] rest h u s f = f.0
fit_use (Use g ∷ done) rest h u s f = fit_use done rest h u s f.1
fit_use (Put g ∷ done) rest h u s f = fit_use done rest h (with_handle u g) (with_handle s g) f.1

fit_put : (done rest : List Act) (h : ℕ) (u s : Handles) → Fit u s (done ++ Put h ∷ rest) →
    with_acts s done h ≡ false
fit_put [] rest h u s f = f.0
fit_put (Use g ∷ done) rest h u s f = fit_put done rest h u s f.1
fit_put (Put g ∷ done) rest h u s f = fit_put done rest h (with_handle u g) (with_handle s g) f.1

live_scope : {l s k : Bool} → Tally l s k → l ≡ true → s ≡ true
live_scope outside e = e
live_scope alive e = e
live_scope skipped e = cc

lost : {l s k : Bool} → Tally l s k → s ≡ true → l ≡ false → k ≡ true
lost outside e f = cc
lost alive e f = cc
lost skipped e f = refl

skipped_dead : {l s k : Bool} → Tally l s k → k ≡ true → l ≡ false
skipped_dead outside e = refl
skipped_dead alive e = cc
skipped_dead skipped e = refl

new_dead : {l s k : Bool} → Tally l s k → s ≡ false → l ≡ false
new_dead outside e = refl
new_dead alive e = cc
new_dead skipped e = refl

-- the outermost context
abbrev outermost : Handles → Context
outermost pre = record { scope = pre; skip = no_handles; must = pre; ret = true; brk = false; cont = false }

all_live : (s : Bool) → Tally s s false
all_live true = alive
all_live false = outside

whole_fine : (n : ℕ) (P : Event → Type 0) (b : Body) (pre : Handles) (r : Run) →
    Fine n P (BodyEnds b (outermost pre) 0) r → AllByRecursion P (events_of (whole r)) ×
    (outcome_of (whole r) ≡ Stuck → ⊥)
whole_fine n P b pre (Ran es Next i l cs) f = (f.0, λ e. cc)
whole_fine n P b pre (Ran es Broken i l cs) f = absurd (not_true f.1)
whole_fine n P b pre (Ran es Continued i l cs) f = absurd (not_true f.1.able)
whole_fine n P b pre (Ran es Returned i l cs) f = (f.0, λ e. cc)
whole_fine n P b pre (Ran es Ended i l cs) f = (f.0, λ e. cc)
whole_fine n P b pre (Ran es Stopped i l cs) f = (f.0, λ e. cc)
whole_fine n P b pre (Ran es Stuck i l cs) f = absurd f.1

-- a law of every event, from what it says at a position
run_law : (b : Body) (pre : Handles) (n : ℕ) (cs : List ℕ) (P : Event → Type 0) →
    ((i : ℕ) (p : Position) → Fresh (scope_at pre b (In Root i ∷ p)) (node_acts (node_at b (In Root i ∷ p)))) →
    ((i : ℕ) (p : Position) → HasAbility (node_jump (node_at b (In Root i ∷ p))) (In Root i ∷ p)) →
    ((i : ℕ) (p : Position) (ks : List (Option ℕ)) (a : Act) (d : List Act) (l : Handles) →
    At (scope_at pre b (In Root i ∷ p)) (skipped_at b (In Root i ∷ p) ks) (must_at pre b (In Root i ∷ p))
    (node_acts (node_at b (In Root i ∷ p))) a d l → P
    (record { act = a; done = d; live = l; position = In Root i ∷ p; cuts = ks })) → AllByRecursion P
    (events_of (run b pre n cs)) × (outcome_of (run b pre n cs) ≡ Stuck → ⊥)
run_law b pre n cs P fresh able says =
    whole_fine n P b pre (run_body b n Root 0 [] [] pre cs)
    (body_law n P b (outermost pre) Root 0 [] [] pre cs (record { fresh = fresh; able = able })
    (record { tally = record { at = λ h. all_live (pre h) }; sure = record { at = λ h e. e } })
    (from_start n P b (outermost pre) Root [] []
    (λ j r ks q qs a d l eq es at. subst (λ p. P
    (record { act = a; done = d; live = l; position = p; cuts = qs })) (sym eq)
    (subst (λ c. P (record { act = a; done = d; live = l; position = In Root j ∷ r; cuts = c })) (sym es)
    (says j r ks a d l at)))))

module _ (pre : Handles) (b : Body) (p : Position) (ks : List (Option ℕ)) (a : Act) (d : List Act) (l : Handles)
    (at : At (scope_at pre b p) (skipped_at b p ks) (must_at pre b p) (node_acts (node_at b p)) a d l) where
  skips : (h : ℕ) → ((scope_at pre b p h ≡ true) × (l h ≡ false)) ↔ (skipped_at b p ks h ≡ true)
  skips h = (
    λ e. lost (at.tally.at h) ((acts_grow d (scope_at pre b p)).at h e.0) e.1,
    λ e.
        (at.within.at h e, skipped_dead (at.tally.at h) e),
  )

  -- the acts at the position, about this one
  abbrev FitHere : List Act → Type 0
  FitHere acts = Fit (must_at pre b p) (scope_at pre b p) acts

  of_use : (h : ℕ) → FitHere (node_acts (node_at b p)) → a ≡ Use h → with_acts (must_at pre b p) d h ≡ true
  of_use h f e = fit_use d at.rest h (must_at pre b p) (scope_at pre b p)
      (subst (λ x. FitHere (d ++ x ∷ at.rest)) e (subst FitHere at.split f))

  of_put : (h : ℕ) → FitHere (node_acts (node_at b p)) → a ≡ Put h → with_acts (scope_at pre b p) d h ≡ false
  of_put h f e = fit_put d at.rest h (must_at pre b p) (scope_at pre b p)
      (subst (λ x. FitHere (d ++ x ∷ at.rest)) e (subst FitHere at.split f))

  was_used : (h : ℕ) → FitHere (node_acts (node_at b p)) →
      (before between : List Act) → d ≡ before ++ Use h ∷ between → with_acts (must_at pre b p) d h ≡ true
  was_used h f before between e =
      let split : node_acts (node_at b p) ≡ before ++ Use h ∷ (between ++ a ∷ at.rest) = at.split ∙
      (ap (λ xs. xs ++ a ∷ at.rest) e ∙ append_assoc before (Use h ∷ between) (a ∷ at.rest)) in
      let known = fit_use before (between ++ a ∷ at.rest) h (must_at pre b p) (scope_at pre b p)
      (subst FitHere split f) in
      subst (λ xs. with_acts (must_at pre b p) xs h ≡ true) (sym e)
      (subst (λ s. s h ≡ true) (sym (acts-append before (Use h ∷ between) (must_at pre b p)))
      ((acts_grow between (with_acts (must_at pre b p) before)).at h known))

  sure_at : Contains (positions b) p → FitHere (node_acts (node_at b p)) →
      IsSure pre b (record { act = a; done = d; live = l; position = p; cuts = ks })
  sure_at listed f =
      record {
        stands = record { listed = listed; rest = at.rest; acts = at.split };
        in_scope = λ h e. live_scope (at.tally.at h) e;
        lost = skips;
        must = λ h e. at.sure.at h ((acts_grow d (must_at pre b p)).at h e);
        uses = λ h e. at.sure.at h (of_use h f e);
        used = λ h before between e. at.sure.at h (was_used h f before between e);
        puts = λ h e. new_dead (at.tally.at h) (of_put h f e);
      }

-- what the conditions say where something stands, they say of every path
every_acts : (pre : Handles) (b : Body) → IsSurelyFit pre b → (i : ℕ) (p : Position) →
    Fit (must_at pre b (In Root i ∷ p)) (scope_at pre b (In Root i ∷ p)) (node_acts (node_at b (In Root i ∷ p)))
every_acts pre b all i p = go (at_every b _ all i p)
  where
    go : (node_at b (In Root i ∷ p) ≡ NoNode) ⊎ SurelyFitsAt pre b (In Root i ∷ p) →
        Fit (must_at pre b (In Root i ∷ p)) (scope_at pre b (In Root i ∷ p)) (node_acts (node_at b (In Root i ∷ p)))
    go (inl none) = subst
        (λ x. Fit (must_at pre b (In Root i ∷ p)) (scope_at pre b (In Root i ∷ p)) (node_acts x)) (sym none) tt
    go (inr some) = some.0

every_jump : (pre : Handles) (b : Body) → IsSurelyFit pre b → (i : ℕ) (p : Position) →
    HasAbility (node_jump (node_at b (In Root i ∷ p))) (In Root i ∷ p)
every_jump pre b all i p = go (at_every b _ all i p)
  where
    go : (node_at b (In Root i ∷ p) ≡ NoNode) ⊎ SurelyFitsAt pre b (In Root i ∷ p) →
        HasAbility (node_jump (node_at b (In Root i ∷ p))) (In Root i ∷ p)
    go (inl none) = subst (λ x. HasAbility (node_jump x) (In Root i ∷ p)) (sym none) tt
    go (inr some) = some.1

pub all_listed : {A : Type 0} (P : A → Type 0) (xs : List A) → ((x : A) → Contains xs x → P x) → AllByRecursion P xs
all_listed P [] f = tt
all_listed P (x ∷ xs) f =
    (f x (0, omega (arith), refl), all_listed P xs (λ y c. f y (Contains-append_right (x ∷ []) xs y c)))

no_act : (done rest : List Act) (a : Act) → [] ≡ done ++ a ∷ rest → ⊥
no_act [] rest a e = cc
no_act (x ∷ done) rest a e = cc

-- where something acts, there is a position of the list
is_listed : (b : Body) (i : ℕ) (p : Position) (a : Act) (done rest : List Act) →
    node_acts (node_at b (In Root i ∷ p)) ≡ done ++ a ∷ rest → Contains (positions b) (In Root i ∷ p)
is_listed b i p a done rest e =
    go (at_every b (λ q. Contains (positions b) q)
    (all_listed (λ q. Contains (positions b) q) (positions b) (λ q c. c)) i p)
  where
    go : (node_at b (In Root i ∷ p) ≡ NoNode) ⊎ Contains (positions b) (In Root i ∷ p) →
        Contains (positions b) (In Root i ∷ p)
    go (inl none) = absurd (no_act done rest a (ap node_acts (sym none) ∙ e))
    go (inr listed) = listed

every_run_sure : (pre : Handles) (b : Body) → IsSurelyFit pre b → (n : ℕ) (cs : List ℕ) →
    AllByRecursion (IsSure pre b) (events_of (run b pre n cs)) × (outcome_of (run b pre n cs) ≡ Stuck → ⊥)
every_run_sure pre b fit n cs =
    run_law b pre n cs (IsSure pre b) (λ i p. fit_fresh _ _ _ (every_acts pre b fit i p))
    (every_jump pre b fit) (λ i p ks a d l at. sure_at pre b (In Root i ∷ p) ks a d l at
    (is_listed b i p a d at.rest at.split) (every_acts pre b fit i p))

pub surely_fit_is_sure : SurelyFitIsSure
surely_fit_is_sure pre b fit =
    record {
      events = λ n cs. (every_run_sure pre b fit n cs).0;
      unstuck = λ n cs.
          (every_run_sure pre b fit n cs).1;
    }
