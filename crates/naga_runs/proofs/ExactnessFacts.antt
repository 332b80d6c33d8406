-- The facts beside exactness.
use Rattle.std.proofs.lemmas.List.Elements.{All-contains, All-from_recursion}
use Rattle.std.specs.List.{AllByRecursion}
use Rattle.std.specs.Prelude.{ℕ, zero, suc, true, false, List, None, ◌≡◌, ◌∷◌, ◌++◌, []}
use Rattle.std.proofs.Common.{refl, subst}
use Rattle.ir_statements.specs.Tree.{Stmt, Body, Loop, Break, Then}
use Rattle.naga_runs.specs.DeadCode.{may_come}
use Rattle.naga_runs.specs.ExactnessFacts.{alone, continue_if_0, emits_3, dead_loop, DeadCodeIsRefused, put_twice, second_put, PutIsRefused, continuing_loop, falling_switch, LawApplies}
use Rattle.naga_runs.specs.Judgement.{judgement, state_after}
use Rattle.naga_runs.specs.Machine.{Run, run_stmt, run_body, Next, Ran}
use Rattle.naga_runs.specs.Positions.{Position, Root, LoopBody, Continuing, In, StatementNode}
use Rattle.naga_runs.specs.Samples.{given}
use Rattle.naga_runs.specs.Trail.{Arrival, where_next, trail_turns, trail_stmt, trail_body, trail}
use Rattle.naga_runs.proofs.Bools.{not_true}
use Rattle.naga_runs.proofs.EachOf.{all_append}
use Rattle.naga_runs.proofs.Exact.{arrived, dead_code_is_exact}

pub dead_code_is_refused : DeadCodeIsRefused
unfolding judgement state_after
dead_code_is_refused =
    record {
      refused = refl;
      never_met = λ pre n cs live c. not_true (subst (λ p. may_come dead_loop p ≡ true) c.there
          (arrived pre dead_loop n cs c.arrival c.in_trail).come);
    }

-- 3 isn't live where the second emission begins
record Unput (a : Arrival) : Type 0 where
  there : a.position ≡ second_put → a.live 3 ≡ false

elsewhere : (a : Arrival) → (a.position ≡ second_put → ⊥) → Unput a
elsewhere a e = record { there = λ f. absurd (e f) }

abbrev loop_body : Body
loop_body = Then continue_if_0 (Then emits_3 (alone Break))

abbrev at_loop : Position
at_loop = In Root 0 ∷ []

abbrev the_loop : Stmt
the_loop = Loop loop_body (alone emits_3) None

turns_unput : (n m : ℕ) (cs : List ℕ) →
    AllByRecursion Unput (trail_turns n (λ rest. run_body loop_body m LoopBody 0 at_loop [] given rest)
    (λ rest. trail_body loop_body m LoopBody 0 at_loop [] given rest)
    (λ cut l rest. run_body (alone emits_3) m Continuing 0 at_loop ([] ++ cut ∷ []) l rest)
    (λ cut l rest. trail_body (alone emits_3) m Continuing 0 at_loop ([] ++ cut ∷ []) l rest) None at_loop [] cs)
turns_unput zero m cs = tt
turns_unput (suc n) m [] = (elsewhere _ (λ e. cc), tt)
turns_unput (suc n) m (zero ∷ cs) = (
  elsewhere _ (λ e. cc),
  (elsewhere _ (λ e. cc), (record { there = λ e. refl }, turns_unput n m cs)),
)
turns_unput (suc n) m (suc c ∷ cs) =
    (elsewhere _ (λ e. cc), (elsewhere _ (λ e. cc), (elsewhere _ (λ e. cc), tt)))

none_after : (t : List Arrival) (r : Run) → AllByRecursion Unput t →
    AllByRecursion Unput (where_next t r (λ l rest. []))
none_after t (Ran es Next i l cs) a = all_append Unput t [] a tt
none_after t (Ran es o i l cs) a = a

trail_unput : (n : ℕ) (cs : List ℕ) → AllByRecursion Unput (trail put_twice given n cs)
trail_unput n cs =
    none_after
    (record { node = StatementNode the_loop; position = at_loop; cuts = []; live = given }
    ∷ trail_stmt the_loop n at_loop [] given cs) (run_stmt the_loop n at_loop [] given cs)
    (elsewhere _ (λ e. cc), turns_unput n n cs)

pub put_is_refused : PutIsRefused
unfolding judgement state_after
put_is_refused =
    record {
      refused = refl;
      clean = (dead_code_is_exact.bodies put_twice).0 refl;
      never_live = λ n cs live c. subst (λ l. l 3 ≡ false) c.lives
          ((All-contains Unput (trail put_twice given n cs) c.arrival
          (All-from_recursion Unput (trail put_twice given n cs) (trail_unput n cs)) c.in_trail).there c.there);
    }

pub law_applies : LawApplies
law_applies =
    ((dead_code_is_exact.bodies continuing_loop).0 refl, (dead_code_is_exact.bodies falling_switch).0 refl)
