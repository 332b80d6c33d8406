-- How a document is made: objects with exactly the fields of their form, variants, lists.
use Rattle.std.specs.Prelude.{ℕ, ◌&&◌, List, [], ◌∷◌, Bool, true, Option, Some, None, option_and_then, option_map, is_some, if◌then◌else◌, ⊤}
use Rattle.std.specs.Str.{bytes_eq}
use Rattle.serde_json.specs.Data.{Data, Items, no_items, item}
use Rattle.serde_json.specs.Find.{get, as_array, as_object, as_str, as_null}
use Rattle.json_nodes.specs.Fields.{only_of, has_no_other, has_each}

-- what follows from a value, if there is one
abbrev pub given : {A B : Type 0} → Option A → (A → Option B) → Option B
given o f = option_and_then f o

-- whether it is an object with this field
abbrev pub has_field : List ℕ → Data → Bool
has_field name d = is_some (get name d)

-- whether it is an object with exactly these fields
abbrev pub has_only : List (List ℕ) → Data → Bool
has_only names d = has_no_other names d && has_each names d

-- an object with exactly these fields
abbrev pub fields_of : List (List ℕ) → Data → Option Data
fields_of names d = if has_only names d then Some d else None

-- what an object with exactly these fields stands for
abbrev pub fielded : {T : Type 0} → List (List ℕ) → (Data → Option T) → Data → Option T
fielded names f d = given (fields_of names d) f

-- what a field stands for
abbrev pub field_of : {T : Type 0} → (Data → Option T) → List ℕ → Data → Option T
field_of f name d = option_and_then f (get name d)

-- what the field of an object with exactly this one stands for
unfoldable pub one_field : {A : Type 0} → List ℕ → (Data → Option A) → Data → Option A
one_field n f = fielded (n ∷ []) (field_of f n)

-- what the fields of an object with exactly these stand for, if each stands for something
unfoldable pub two_fields : {A B : Type 0} → List ℕ → (Data → Option A) → List ℕ → (Data → Option B)
    → Data → Option (A × B)
two_fields n0 f n1 g d =
    given (fields_of (n0 ∷ n1 ∷ []) d) (λ d.
    given (field_of f n0 d) (λ x. given (field_of g n1 d) (λ y. Some (x, y))))

unfoldable pub three_fields : {A B C : Type 0} → List ℕ → (Data → Option A) → List ℕ → (Data → Option B)
    → List ℕ → (Data → Option C) → Data → Option (A × B × C)
three_fields n0 f n1 g n2 h d =
    given (fields_of (n0 ∷ n1 ∷ n2 ∷ []) d) (λ d.
    given (field_of f n0 d) (λ x. given (field_of g n1 d) (λ y. given (field_of h n2 d) (λ z. Some (x, y, z)))))

unfoldable pub four_fields : {A B C D : Type 0} → List ℕ → (Data → Option A) → List ℕ → (Data → Option B)
    → List ℕ → (Data → Option C) → List ℕ → (Data → Option D) → Data → Option (A × B × C × D)
four_fields n0 f n1 g n2 h n3 i d =
    given (fields_of (n0 ∷ n1 ∷ n2 ∷ n3 ∷ []) d) (λ d.
    given (field_of f n0 d) (λ x. given (field_of g n1 d) (λ y. given (field_of h n2 d) (λ z.
    given (field_of i n3 d) (λ w. Some (x, y, z, w))))))

unfoldable pub five_fields : {A B C D E : Type 0} → List ℕ → (Data → Option A) → List ℕ → (Data → Option B)
    → List ℕ → (Data → Option C) → List ℕ → (Data → Option D) → List ℕ → (Data → Option E)
    → Data → Option (A × B × C × D × E)
five_fields n0 f n1 g n2 h n3 i n4 j d =
    given (fields_of (n0 ∷ n1 ∷ n2 ∷ n3 ∷ n4 ∷ []) d) (λ d.
    given (field_of f n0 d) (λ x. given (field_of g n1 d) (λ y. given (field_of h n2 d) (λ z.
    given (field_of i n3 d) (λ w. given (field_of j n4 d) (λ u. Some (x, y, z, w, u)))))))

unfoldable pub six_fields : {A B C D E F : Type 0} → List ℕ → (Data → Option A) → List ℕ → (Data → Option B)
    → List ℕ → (Data → Option C) → List ℕ → (Data → Option D) → List ℕ → (Data → Option E)
    → List ℕ → (Data → Option F) → Data → Option (A × B × C × D × E × F)
six_fields n0 f n1 g n2 h n3 i n4 j n5 k d =
    given (fields_of (n0 ∷ n1 ∷ n2 ∷ n3 ∷ n4 ∷ n5 ∷ []) d) (λ d.
    given (field_of f n0 d) (λ x. given (field_of g n1 d) (λ y. given (field_of h n2 d) (λ z.
    given (field_of i n3 d) (λ w. given (field_of j n4 d) (λ u. given (field_of k n5 d) (λ v. Some (x, y, z, w, u, v))))))))

unfoldable pub eight_fields : {A B C D E F G H : Type 0} → List ℕ → (Data → Option A) → List ℕ → (Data → Option B)
    → List ℕ → (Data → Option C) → List ℕ → (Data → Option D) → List ℕ → (Data → Option E)
    → List ℕ → (Data → Option F) → List ℕ → (Data → Option G) → List ℕ → (Data → Option H)
    → Data → Option (A × B × C × D × E × F × G × H)
eight_fields n0 f n1 g n2 h n3 i n4 j n5 k n6 l n7 m d =
    given (fields_of (n0 ∷ n1 ∷ n2 ∷ n3 ∷ n4 ∷ n5 ∷ n6 ∷ n7 ∷ []) d) (λ d.
    given (field_of f n0 d) (λ x. given (field_of g n1 d) (λ y. given (field_of h n2 d) (λ z.
    given (field_of i n3 d) (λ w. given (field_of j n4 d) (λ u. given (field_of k n5 d) (λ v.
    given (field_of l n6 d) (λ s. given (field_of m n7 d) (λ t. Some (x, y, z, w, u, v, s, t))))))))))

-- what is made from all that some fields stand for
abbrev pub made_of_two : {A B Made : Type 0} → (A → B → Made) → Option (A × B) → Option Made
made_of_two make o = option_map (λ z. make z.0 z.1) o

abbrev pub made_of_three : {A B C Made : Type 0} → (A → B → C → Made) → Option (A × B × C) → Option Made
made_of_three make o = option_map (λ z. make z.0 z.1 z.2) o

abbrev pub made_of_four : {A B C D Made : Type 0} → (A → B → C → D → Made) → Option (A × B × C × D) → Option Made
made_of_four make o = option_map (λ z. make z.0 z.1 z.2 z.3) o

abbrev pub made_of_five : {A B C D E Made : Type 0} → (A → B → C → D → E → Made) → Option (A × B × C × D × E)
    → Option Made
made_of_five make o = option_map (λ z. make z.0 z.1 z.2 z.3 z.4) o

abbrev pub made_of_six : {A B C D E F Made : Type 0} → (A → B → C → D → E → F → Made)
    → Option (A × B × C × D × E × F) → Option Made
made_of_six make o = option_map (λ z. make z.0 z.1 z.2 z.3 z.4 z.5) o

abbrev pub made_of_eight : {A B C D E F G H Made : Type 0} → (A → B → C → D → E → F → G → H → Made)
    → Option (A × B × C × D × E × F × G × H) → Option Made
made_of_eight make o = option_map (λ z. make z.0 z.1 z.2 z.3 z.4 z.5 z.6 z.7) o

-- what stands beside a text in a table, the first time
abbrev pub lookup : {T : Type 0} → List (List ℕ × T) → List ℕ → Option T
lookup [] name = None
lookup ((text, x) ∷ rest) name = if bytes_eq name text then Some x else lookup rest name

-- one of the names of a table
abbrev pub named : {T : Type 0} → List (List ℕ × T) → Data → Option T
named table d = option_and_then (lookup table) (as_str d)

-- a variant as it is written: its name alone, or its name and what it holds
pub data WrittenVariant : Type 0 where
  plain : List ℕ → WrittenVariant
  holding : List ℕ → Data → WrittenVariant

abbrev pub written_variant_from : Option (List ℕ) → Option (List ℕ × Data) → Option WrittenVariant
written_variant_from (Some name) o = Some (plain name)
written_variant_from None o = option_map (λ f. holding f.0 f.1) o

-- a text is the name of a variant that holds nothing; the only member of an object has the name and what the variant holds
abbrev pub written_variant_of : Data → Option WrittenVariant
written_variant_of d = written_variant_from (as_str d) (given (as_object d) only_of)

-- the items of a list, each as what it stands for
abbrev pub each_of : {T : Type 0} → (Data → Option T) → Items → Option (List T)
each_of f no_items = Some []
each_of f (item d ds) = given (f d) (λ x. option_map (λ xs. x ∷ xs) (each_of f ds))

abbrev pub list_of : {T : Type 0} → (Data → Option T) → Data → Option (List T)
list_of f d = option_and_then (each_of f) (as_array d)

abbrev pub unless_null : {T : Type 0} → Option ⊤ → Option T → Option (Option T)
unless_null (Some x) o = Some None
unless_null None o = option_map Some o

-- null, or a value
abbrev pub optional : {T : Type 0} → (Data → Option T) → Data → Option (Option T)
optional f d = unless_null (as_null d) (f d)

-- the items, if there are two
abbrev pub pair_in : Items → Option (Data × Data)
pair_in no_items = None
pair_in (item a no_items) = None
pair_in (item a (item b no_items)) = Some (a, b)
pair_in (item a (item b (item c ds))) = None

-- a list of two
abbrev pub two_of : {A B : Type 0} → (Data → Option A) → (Data → Option B) → Data → Option (A × B)
two_of f g d =
    given (given (as_array d) pair_in) (λ p. given (f p.0) (λ x. given (g p.1) (λ y. Some (x, y))))

-- the items, if there are three
abbrev pub triple_in : Items → Option (Data × Data × Data)
triple_in no_items = None
triple_in (item a ds) = option_map (λ p. (a, p.0, p.1)) (pair_in ds)

-- a list of three
abbrev pub three_of : {A B C : Type 0} → (Data → Option A) → (Data → Option B) → (Data → Option C) → Data → Option (A × B × C)
three_of f g h d =
    given (given (as_array d) triple_in) (λ t.
    given (f t.0) (λ x. given (g t.1) (λ y. given (h t.2) (λ z. Some (x, y, z)))))
