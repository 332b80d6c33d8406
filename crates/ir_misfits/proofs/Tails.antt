-- What is left of a list from a place on.
use Rattle.std.proofs.Common.{◌≡◌, ◌<◌, ◌+◌, ℕ, List, ◌∷◌, length, drop, get_or, refl}
use Rattle.std.proofs.lemmas.Option.{slice_get_read}
use Rattle.ir_facts.proofs.Each.{from_here}

-- the item that stands there, and those behind it
pub tail : {A : Type 0} (xs : List A) (i : ℕ) (x : A) → i < length xs → x ≡ get_or xs i x → drop i xs ≡ x ∷ drop (i + 1) xs
tail xs i x lt is = from_here xs i x (slice_get_read xs (length xs) i x refl lt is)
