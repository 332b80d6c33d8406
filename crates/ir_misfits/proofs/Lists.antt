-- The points of each item of a list, item by item.
use Rattle.std.proofs.Common.{◌≡◌, ◌<◌, ◌+◌, ℕ, zero, suc, List, [], ◌∷◌, length, drop, get_or, refl, sym, ap, ◌∙◌, arith}
use Rattle.std.proofs.lemmas.Option.{slice_get_read}
use Rattle.std.specs.Option.{option_or}
use Rattle.std.specs.Prelude.{Option, None, Some, slice_get}
use Rattle.ir_facts.proofs.Each.{from_here}
use Rattle.ir_arena.proofs.Points.{first_of_both}
use Rattle.ir_arena.specs.Points.{Point, first_fault, points_from, points_of_each}
use Rattle.ir_misfits.specs.MisfitPoints.{points_if}

-- where a list has no item, its end is before
pub none_is_past : {A : Type 0} (xs : List A) (k : ℕ) → slice_get xs k ≡ None → k < length xs → ⊥
none_is_past [] k e lt = omega (arith, lt)
none_is_past (x ∷ xs) zero e lt = cc
none_is_past (x ∷ xs) (suc k) e lt = none_is_past xs k e (omega (arith, lt))

module _ {A Fault : Type 0} (points : ℕ → A → List (Point Fault)) (xs : List A) (i : ℕ) where
  abbrev Rest : ℕ → Option Fault
  Rest k = first_fault (points_from points k (drop k xs))

  turn_at : (o : Option A) → slice_get xs i ≡ o → i < length xs → Rest i ≡ option_or (first_fault (points_if (points i) o)) (Rest (i + 1))
  turn_at None e lt = absurd (none_is_past xs i e lt)
  turn_at (Some x) e lt =
      let next : suc i ≡ i + 1 = omega arith in
      ap (λ l. first_fault (points_from points i l)) (from_here xs i x e)
      ∙ first_of_both (points i x) (points_from points (suc i) (drop (i + 1) xs))
      ∙ ap (λ k. option_or (first_fault (points i x)) (first_fault (points_from points k (drop (i + 1) xs)))) next

  -- a point of the item that stands here fails
  pub stops_at : i < length xs → Rest i ≡ first_fault (points_of_each points xs) → (told : Fault) →
      Some told ≡ first_fault (points_if (points i) (slice_get xs i)) → Some told ≡ first_fault (points_of_each points xs)
  stops_at lt left told h =
      ap (λ o. option_or o (Rest (i + 1))) h ∙ sym (turn_at (slice_get xs i) refl lt) ∙ left

  -- none of it fails
  pub passes_at : i < length xs → Rest i ≡ first_fault (points_of_each points xs) →
      None ≡ first_fault (points_if (points i) (slice_get xs i)) → Rest (i + 1) ≡ first_fault (points_of_each points xs)
  passes_at lt left h =
      ap (λ o. option_or o (Rest (i + 1))) h ∙ sym (turn_at (slice_get xs i) refl lt) ∙ left

  -- the same of an item that was read
  pub item_stops : (x : A) → i < length xs → x ≡ get_or xs i x → Rest i ≡ first_fault (points_of_each points xs) → (told : Fault) →
      Some told ≡ first_fault (points i x) → Some told ≡ first_fault (points_of_each points xs)
  item_stops x lt is left told h =
      let there : slice_get xs i ≡ Some x = slice_get_read xs (length xs) i x refl lt is in
      stops_at lt left told (h ∙ sym (ap (λ o. first_fault (points_if (points i) o)) there))

  pub item_passes : (x : A) → i < length xs → x ≡ get_or xs i x → Rest i ≡ first_fault (points_of_each points xs) →
      None ≡ first_fault (points i x) → Rest (i + 1) ≡ first_fault (points_of_each points xs)
  item_passes x lt is left h =
      let there : slice_get xs i ≡ Some x = slice_get_read xs (length xs) i x refl lt is in
      passes_at lt left (h ∙ sym (ap (λ o. first_fault (points_if (points i) o)) there))
