-- The results that are filled and the stages that are left: as the code keeps them, and as the visits before say.
use Rattle.std.proofs.Common.{◌≡◌, ℕ, suc, ◌+◌, ◌-◌, ◌<◌, ◌≤◌, ◌==◌, Bool, true, false, not, ◌&&◌, ◌||◌, List, [], ◌∷◌, ◌++◌, Option, None, Some, cond, refl, sym, ap, ◌∙◌, arith}
use Rattle.std.specs.Prelude.{if◌then◌else◌}
use Rattle.std.proofs.lemmas.List.Folds.{list_any-append}
use Rattle.ir_flags.specs.declared.valid.ShaderStages.{ShaderStages}
use Rattle.ir_errors.specs.declared.function.FunctionError.{FunctionError}
use Rattle.ir_errors.specs.declared.function.FunctionError.TheVariants.{UnvisitedExpression}
use Rattle.ir_arena.proofs.Points.{not_holds}
use Rattle.naga_runs.specs.Handles.{Handles}
use Rattle.ir_arena.specs.Points.{first_fault}
use Rattle.naga_runs.specs.Visits.{Visit}
use Rattle.check_scope.specs.Context.{Context}
use Rattle.ir_facts.specs.WhatIsChecked.{checks_expressions}
use Rattle.check_scope.specs.ExpressionTypes.{expression_at}
use Rattle.check_scope.specs.Results.{result_of, is_this, fills, is_to_fill, is_fresh, filled_before, is_unfilled, filled_points_from}
use Rattle.check_statement.specs.Rules.{stages_behind, stages_left}
use Rattle.check_statement.specs.walk.State.{with_result}

pub or_false : (b : Bool) → (b || false) ≡ b
or_false true = refl
or_false false = refl

or_chosen : (b c : Bool) → (if b then true else c) ≡ (c || b)
or_chosen true true = refl
or_chosen true false = refl
or_chosen false true = refl
or_chosen false false = refl

pub with_is : (o : Option ℕ) (filled : Handles) (r : ℕ) → with_result filled o r ≡ (filled r || is_this r o)
with_is None filled r = sym (or_false (filled r))
with_is (Some q) filled r = or_chosen (q == r) (filled r)

-- one visit more
pub filled_more : (visits : List Visit) (v : Visit) → filled_before (visits ++ (v ∷ [])) ≡ with_result (filled_before visits) (result_of v.node)
filled_more visits v i r =
    (list_any-append (λ w. fills r w.node) visits (v ∷ []) ∙ ap (λ b. filled_before visits r || b) (or_false (fills r v.node)) ∙ sym (with_is (result_of v.node) (filled_before visits) r)) i

pub stages_more : (context : Context) (stages : ShaderStages) (visits : List Visit) (v : Visit) →
    stages_left context stages (visits ++ (v ∷ [])) ≡ stages_behind context (stages_left context stages visits) v.node
stages_more context stages [] v = refl
stages_more context stages (w ∷ visits) v = stages_more context (stages_behind context stages w.node) visits v

-- the points behind a body, from one expression on
module _ (context : Context) (filled : Handles) (h end : ℕ) where
  abbrev left : ℕ → Option FunctionError
  left k = first_fault (filled_points_from context filled k (end - k))

  turn : h < end → left h ≡ cond (not (is_unfilled context filled h)) (left (h + 1)) (Some (UnvisitedExpression h))
  turn lt =
      let count : end - h ≡ suc (end - (h + 1)) = omega arith in
      let next : suc h ≡ h + 1 = omega arith in
      ap (λ n. first_fault (filled_points_from context filled h n)) count
      ∙ ap (λ k. cond (not (is_unfilled context filled h)) (first_fault (filled_points_from context filled k (end - (h + 1)))) (Some (UnvisitedExpression h))) next

  pub filled_stops : h < end → is_unfilled context filled h ≡ true → left h ≡ Some (UnvisitedExpression h)
  filled_stops lt e = turn lt ∙ ap (λ b. cond (not b) (left (h + 1)) (Some (UnvisitedExpression h))) e

  pub filled_next : h < end → is_unfilled context filled h ≡ false → left h ≡ left (h + 1)
  filled_next lt e = turn lt ∙ ap (λ b. cond (not b) (left (h + 1)) (Some (UnvisitedExpression h))) e

  pub filled_end : end ≤ h → left h ≡ None
  filled_end le =
      let none : end - h ≡ 0 = omega arith in ap (λ n. first_fault (filled_points_from context filled h n)) none

last : (a b c : Bool) → (a && (b && not c)) ≡ true → c ≡ false
last true true c e = not_holds c e
last true false c e = cc
last false b c e = cc

-- a fresh result is not filled
pub unfilled : (context : Context) (filled : Handles) (r : ℕ) → is_fresh context filled r ≡ true → filled r ≡ false
unfilled context filled r e =
    last (checks_expressions context.settings.flags) (is_to_fill (expression_at context r)) (filled r) e
