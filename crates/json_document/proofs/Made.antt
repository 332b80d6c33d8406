-- What is made from what some fields stand for.
use Rattle.std.proofs.Common.{◌≡◌, Option, Some, None, ap}
use Rattle.std.specs.Prelude.{option_map}

-- they stand for something
pub made : {A B : Type 0} (make : A → B) (o : Option A) (x : A) → o ≡ Some x → option_map make o ≡ Some (make x)
made make o x e = ap (option_map make) e

-- they stand for nothing
pub not_made : {A B : Type 0} (make : A → B) (o : Option A) → o ≡ None → option_map make o ≡ None
not_made make o e = ap (option_map make) e
