-- Lists that are read item by item.
use Rattle.std.proofs.Common.{◌≡◌, List, [], ◌∷◌, ◌++◌, Option, Some, None, refl, ap, sym, ◌∙◌}
use Rattle.std.specs.Prelude.{option_and_then, option_map}
use Rattle.std.proofs.lemmas.List.{append-nil, append_assoc}
use Rattle.serde_json.specs.Data.{Data, Items, no_items, item}
use Rattle.json_values.specs.Form.{each_of}

-- what the items stand for, behind those that were read
abbrev pub each_behind : {T : Type 0} → (Data → Option T) → List T → Items → Option (List T)
each_behind f done ds = option_map (λ xs. done ++ xs) (each_of f ds)

module _ {T : Type 0} (f : Data → Option T) where
  moved : (done : List T) (x : T) (o : Option (List T)) → option_map (λ xs. done ++ xs) (option_map (λ xs. x ∷ xs) o) ≡ option_map (λ xs. (done ++ x ∷ []) ++ xs) o
  moved done x None = refl
  moved done x (Some xs) = ap Some (sym (append_assoc done (x ∷ []) xs))

  unmoved : (o : Option (List T)) → option_map (λ xs. [] ++ xs) o ≡ o
  unmoved None = refl
  unmoved (Some xs) = refl

  -- one item is read
  one_more : (done : List T) (d : Data) (ds : Items) (x : T) → f d ≡ Some x → each_behind f done (item d ds) ≡ each_behind f (done ++ x ∷ []) ds
  one_more done d ds x h = rw h (moved done x (each_of f ds))

  -- none is read yet
  pub begun : (done : List T) (ds : Items) (o : Option Items) → done ≡ [] → o ≡ Some ds → each_behind f done ds ≡ option_and_then (each_of f) o
  begun done ds o none is = ap (λ xs. each_behind f xs ds) none ∙ unmoved (each_of f ds) ∙ sym (ap (option_and_then (each_of f)) is)

  -- the next item is read, and put behind those before it
  pub read_on : (done new : List T) (ds es : Items) (d : Data) (x : T) (r : Option (List T))
      → ds ≡ item d es → f d ≡ Some x → new ≡ done ++ x ∷ []
      → each_behind f done ds ≡ r → each_behind f new es ≡ r
  read_on done new ds es d x r is read more rest = rw more (sym (one_more done d es x read) ∙ sym (ap (each_behind f done) is) ∙ rest)

  -- all are read
  pub ended : (done : List T) (ds : Items) (r : Option (List T)) → ds ≡ no_items → each_behind f done ds ≡ r → r ≡ Some done
  ended done ds r is rest = sym rest ∙ ap (each_behind f done) is ∙ ap Some (append-nil done)
