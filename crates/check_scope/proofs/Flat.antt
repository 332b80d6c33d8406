-- What it says that no point of a list fails: of one of them by its index, of those behind some, and of a use and a put.
use Rattle.std.proofs.Common.{◌≡◌, ℕ, zero, suc, Bool, true, List, [], ◌∷◌, None, refl}
use Rattle.ir_arena.proofs.Points.{first_holds}
use Rattle.ir_arena.specs.Points.{Point, first_fault}

-- the condition of a point, and the points behind some
abbrev pub condition_at : {Fault : Type 0} → ℕ → List (Point Fault) → Bool
condition_at n [] = true
condition_at zero (p ∷ ps) = p.0
condition_at (suc n) (p ∷ ps) = condition_at n ps

abbrev pub points_behind : {Fault : Type 0} → ℕ → List (Point Fault) → List (Point Fault)
points_behind zero ps = ps
points_behind (suc n) [] = []
points_behind (suc n) (p ∷ ps) = points_behind n ps

module _ {Fault : Type 0} where
  pub holds_at : (n : ℕ) (ps : List (Point Fault)) → first_fault ps ≡ None → condition_at n ps ≡ true
  holds_at n [] e = refl
  holds_at zero (p ∷ ps) e = (first_holds p.0 p.1 ps e).0
  holds_at (suc n) (p ∷ ps) e = holds_at n ps (first_holds p.0 p.1 ps e).1

  pub holds_behind : (n : ℕ) (ps : List (Point Fault)) → first_fault ps ≡ None → first_fault (points_behind n ps) ≡ None
  holds_behind zero ps e = e
  holds_behind (suc n) [] e = refl
  holds_behind (suc n) (p ∷ ps) e = holds_behind n ps (first_holds p.0 p.1 ps e).1
