-- What is in scope before the first statement, and which results are to be filled, as a loop over the expressions marks them.
use Rattle.std.proofs.Common.{◌≡◌, ℕ, zero, suc, ◌+◌, ◌<◌, ◌==◌, Some, Bool, true, false, List, [], ◌∷◌, length, take, get_or, slice_get, refl, sym, ap, ◌∙◌, arith, Option, None, not, ◌&&◌, ◌≤◌}
use Rattle.std.specs.Prelude.{if◌then◌else◌}
use Rattle.std.proofs.lemmas.Bool.Decides.{nat_tests}
use Rattle.std.proofs.lemmas.List.{take_all}
use Rattle.ir_module.specs.declared.expressions.Expression.{Expression}
use Rattle.naga_runs.specs.Handles.{Handles, no_handles, with_handle}
use Rattle.check_scope.specs.Context.{Context}
use Rattle.check_scope.specs.Results.{is_to_fill, is_unfilled}

-- those of these expressions that are chosen
abbrev pub chosen_in : (Option Expression → Bool) → List Expression → Handles
chosen_in chosen es h = chosen (slice_get es h)

-- none of the first i is the one behind them
pub is_new : (chosen : Option Expression → Bool) → chosen None ≡ false → (es : List Expression) (i : ℕ) → chosen_in chosen (take i es) i ≡ false
is_new chosen none es zero = none
is_new chosen none [] (suc i) = none
is_new chosen none (e ∷ es) (suc i) = is_new chosen none es i

abbrev with_next : Bool → Bool → Bool → Bool
with_next here b c = if here then b else c

step : (chosen : Option Expression → Bool) (es : List Expression) (i h : ℕ) (d : Expression) → i < length es → chosen_in chosen (take (suc i) es) h ≡ with_next (i == h) (chosen (Some (get_or es i d))) (chosen_in chosen (take i es) h)
step chosen [] i h d lt = absurd (omega arith)
step chosen (e ∷ es) zero zero d lt = refl
step chosen (e ∷ es) zero (suc h) d lt =
    let other : (0 == suc h) ≡ false = grind (arith, nat_tests) in sym (ap (λ b. with_next b (chosen (Some e)) (chosen None)) other)
step chosen (e ∷ es) (suc i) zero d lt =
    let other : (suc i == 0) ≡ false = grind (arith, nat_tests) in
    sym (ap (λ b. with_next b (chosen (Some (get_or es i d))) (chosen (Some e))) other)
step chosen (e ∷ es) (suc i) (suc h) d lt =
    let same : (i == h) ≡ (suc i == suc h) = grind (arith, nat_tests) in
    step chosen es i h d (omega arith) ∙ ap (λ b. with_next b (chosen (Some (get_or es i d))) (chosen_in chosen (take i es) h)) same

module _ (chosen : Option Expression → Bool) (none : chosen None ≡ false) (es : List Expression) (i : ℕ) (d : Expression) (lt : i < length es) where
  one : (h : ℕ) (b : Bool) → chosen (Some (get_or es i d)) ≡ b → chosen_in chosen (take (i + 1) es) h ≡ with_next (i == h) b (chosen_in chosen (take i es) h)
  one h b e =
      let next : i + 1 ≡ suc i = omega arith in
      ap (λ k. chosen_in chosen (take k es) h) next ∙ step chosen es i h d lt ∙ ap (λ c. with_next (i == h) c (chosen_in chosen (take i es) h)) e

  pub one_more : chosen (Some (get_or es i d)) ≡ true → with_handle (chosen_in chosen (take i es)) i ≡ chosen_in chosen (take (i + 1) es)
  one_more e j h = sym (one h true e) j

  unchanged : (here b : Bool) → (here ≡ true → b ≡ false) → with_next here false b ≡ b
  unchanged true b is = sym (is refl)
  unchanged false b is = refl

  pub none_more : chosen (Some (get_or es i d)) ≡ false → chosen_in chosen (take i es) ≡ chosen_in chosen (take (i + 1) es)
  none_more e j h =
      sym (one h false e ∙ unchanged (i == h) (chosen_in chosen (take i es) h) (λ same. let is : i ≡ h = grind (arith, nat_tests) in ap (chosen_in chosen (take i es)) (sym is) ∙ is_new chosen none es i)) j

and_true : (b : Bool) → b ≡ (b && true)
and_true true = refl
and_true false = refl

-- where nothing is filled, what is marked of all expressions are the results that are to be filled
pub results_known : (context : Context) (filled unfilled : Handles) (n : ℕ) → length context.fun.expressions ≤ n → filled ≡ no_handles → unfilled ≡ chosen_in is_to_fill (take n context.fun.expressions) → (h : ℕ) → unfilled h ≡ is_unfilled context filled h
results_known context filled unfilled n all none marked h =
    (λ i. marked i h)
    ∙ ap (λ es. chosen_in is_to_fill es h) (take_all n context.fun.expressions all)
    ∙ and_true (is_to_fill (slice_get context.fun.expressions h))
    ∙ ap (λ (s : Handles). is_to_fill (slice_get context.fun.expressions h) && not (s h)) (sym none)
