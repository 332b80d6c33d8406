-- What holds of each item of a list.
use Rattle.std.specs.List.{AllByRecursion}
use Rattle.std.specs.Prelude.{List, ◌∷◌, ◌++◌, []}

pub all_append : {A : Type 0} (P : A → Type 0) (xs ys : List A) → AllByRecursion P xs → AllByRecursion P ys →
    AllByRecursion P (xs ++ ys)
all_append P [] ys a b = b
all_append P (x ∷ xs) ys a b = (a.0, all_append P xs ys a.1 b)

pub all_mono : {A : Type 0} (P Q : A → Type 0) (xs : List A) → ((x : A) → P x → Q x) → AllByRecursion P xs →
    AllByRecursion Q xs
all_mono P Q [] f a = tt
all_mono P Q (x ∷ xs) f a = (f x a.0, all_mono P Q xs f a.1)
