-- A machine that has refused something.
use Rattle.std.proofs.Common.{◌≡◌, List, [], ◌∷◌, Option, None, refl}
use Rattle.case_notation.specs.Feeding.{feeds}

-- it takes nothing any more
pub gone : {S T : Type 0} (f : S → T → Option S) (ts : List T) → feeds f None ts ≡ None
unfolding feeds
gone f [] = refl
gone f (t ∷ ts) = gone f ts
