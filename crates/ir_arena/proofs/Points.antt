-- What it says that no point fails, and which point fails first.
use Rattle.std.specs.Option.{option_map, option_or}
use Rattle.std.specs.Prelude.{ℕ, suc, ◌<◌, ◌≤◌, ◌+◌, Bool, true, false, not, List, None, ◌≡◌, ◌∷◌, ◌++◌, [], drop, get_or, length}
use Rattle.std.proofs.Common.{arith, refl, sym, ap, ◌∙◌}
use Rattle.std.proofs.lemmas.List.{at_drop_more, at_drop_all}
use Rattle.ir_arena.specs.Points.{Point, first_fault, within, points_from}

module _ {Fault : Type 0} where
  -- of the first point and the others
  pub first_holds : (c : Bool) (f : Fault) (ps : List (Point Fault)) → first_fault ((c, f) ∷ ps) ≡ None →
      (c ≡ true) × (first_fault ps ≡ None)
  first_holds true f ps e = (refl, e)
  first_holds false f ps e = cc

  -- of some points and others
  pub both_hold : (ps qs : List (Point Fault)) → first_fault (ps ++ qs) ≡ None →
      (first_fault ps ≡ None) × (first_fault qs ≡ None)
  both_hold [] qs e = (refl, e)
  both_hold ((true, f) ∷ ps) qs e = both_hold ps qs e
  both_hold ((false, f) ∷ ps) qs e = cc

pub not_holds : (c : Bool) → not c ≡ true → c ≡ false
not_holds true e = cc
not_holds false e = refl

-- of some points and then others
first_step : {Fault : Type 0} (b : Bool) (f : Fault) (ps qs : List (Point Fault)) → first_fault (ps ++ qs) ≡ option_or (first_fault ps) (first_fault qs) → first_fault ((b, f) ∷ ps ++ qs) ≡ option_or (first_fault ((b, f) ∷ ps)) (first_fault qs)
first_step true f ps qs rest = rest
first_step false f ps qs rest = refl

pub first_of_both : {Fault : Type 0} (ps qs : List (Point Fault)) → first_fault (ps ++ qs) ≡ option_or (first_fault ps) (first_fault qs)
first_of_both [] qs = refl
first_of_both (p ∷ ps) qs = first_step p.0 p.1 ps qs (first_of_both ps qs)

-- of points whose faults stand inside another
within_step : {Inner Outer : Type 0} (outer : Inner → Outer) (b : Bool) (f : Inner) (ps : List (Point Inner)) → first_fault (within outer ps) ≡ option_map outer (first_fault ps) → first_fault (within outer ((b, f) ∷ ps)) ≡ option_map outer (first_fault ((b, f) ∷ ps))
within_step outer true f ps rest = rest
within_step outer false f ps rest = refl

pub first_within : {Inner Outer : Type 0} (outer : Inner → Outer) (ps : List (Point Inner)) → first_fault (within outer ps) ≡ option_map outer (first_fault ps)
first_within outer [] = refl
first_within outer (p ∷ ps) = within_step outer p.0 p.1 ps (first_within outer ps)

-- of the points of each item, one step on and at the end
module _ {A Fault : Type 0} (points : ℕ → A → List (Point Fault)) (xs : List A) (i : ℕ) where
  pub first_turn : (x : A) → i < length xs → x ≡ get_or xs i x →
      first_fault (points_from points i (drop i xs)) ≡ option_or (first_fault (points i x)) (first_fault (points_from points (i + 1) (drop (i + 1) xs)))
  first_turn x lt e =
      let next : suc i ≡ i + 1 = omega arith in
      at_drop_more (λ l. first_fault (points_from points i l)) xs i x lt
      ∙ ap (λ z. first_fault (points_from points i (z ∷ drop (i + 1) xs))) (sym e)
      ∙ first_of_both (points i x) (points_from points (suc i) (drop (i + 1) xs))
      ∙ ap (λ k. option_or (first_fault (points i x)) (first_fault (points_from points k (drop (i + 1) xs)))) next

  pub first_end : length xs ≤ i → first_fault (points_from points i (drop i xs)) ≡ None
  first_end le = at_drop_all (λ l. first_fault (points_from points i l)) xs i le
