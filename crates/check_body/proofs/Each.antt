-- What an answer says of the points of each item of a list, item by item.
use Rattle.std.proofs.Common.{◌≡◌, ℕ, ◌<◌, ◌+◌, ◌++◌, List, Option, None, Ok, Err, Result, length, drop, get_or, sym, ap, ◌∙◌}
use Rattle.std.specs.Option.{option_or}
use Rattle.std.specs.Prelude.{IsErr}
use Rattle.ir_arena.proofs.Points.{first_turn, first_of_both}
use Rattle.ir_arena.specs.Points.{first_fault, points_from}
use Rattle.ir_arena.specs.declared.span.Refusal.{Refusal}
use Rattle.ir_arena.specs.declared.span.Refusal.TheVariants as refusal
use Rattle.ir_errors.specs.declared.function.FunctionError.{FunctionError}
use Rattle.ir_facts.specs.Answers.{Answers, FirstOf}
use Rattle.check_scope.specs.ScopePoints.{Points}

module _ {A : Type 0} (points : ℕ → A → Points) (xs : List A) (i : ℕ) where
  -- the fault of this item is that of all, where those before it have none
  pub each_stops : {T : Type 0} (r : Result T (Refusal FunctionError)) (x : A) → i < length xs → x ≡ get_or xs i x →
      first_fault (points_from points i (drop i xs)) ≡ first_fault (points_from points 0 xs) →
      IsErr r → Answers (FirstOf (points i x)) r → Answers (FirstOf (points_from points 0 xs)) r
  each_stops (Ok t) x lt is left err h = cc
  each_stops (Err (refusal.Fault f)) x lt is left err h =
      sym left ∙ first_turn points xs i x lt is ∙ ap (λ o. option_or o (first_fault (points_from points (i + 1) (drop (i + 1) xs)))) h
  each_stops (Err refusal.Memory) x lt is left err h = tt

  -- an item without a fault leaves what is behind it
  pub each_passes : (x : A) → i < length xs → x ≡ get_or xs i x →
      first_fault (points_from points i (drop i xs)) ≡ first_fault (points_from points 0 xs) →
      first_fault (points i x) ≡ None → first_fault (points_from points (i + 1) (drop (i + 1) xs)) ≡ first_fault (points_from points 0 xs)
  each_passes x lt is left h =
      sym (first_turn points xs i x lt is ∙ ap (λ o. option_or o (first_fault (points_from points (i + 1) (drop (i + 1) xs)))) h) ∙ left

-- what the third of three lists of points says, where the first two have no fault
pub third_decides : (a b c : Points) (o : Option FunctionError) → first_fault a ≡ None → first_fault b ≡ None → first_fault c ≡ o → first_fault (a ++ (b ++ c)) ≡ o
third_decides a b c o p q e =
    first_of_both a (b ++ c)
    ∙ ap (λ z. option_or z (first_fault (b ++ c))) p
    ∙ first_of_both b c
    ∙ ap (λ z. option_or z (first_fault c)) q
    ∙ e
