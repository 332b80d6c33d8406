-- How values are written as JSON: a JSON value for each, and its text.
use Rattle.std.specs.Prelude.{◌≡◌, ℕ, ℤ, List, [], ◌∷◌, ◌++◌, Option, None, Some, Result, OnOk, decimal}
use Rattle.std.specs.Fmt.{signed_decimal}
use Rattle.json.specs.Json.{Json, null, number, string, array, object, Items, no_items, item, no_members, member}
use Rattle.json.specs.Print.{print}
use Rattle.json.specs.Token.{Token}
use Rattle.json.specs.Tree.{json_tokens}
use Rattle.ir_arena.specs.declared.span.Span.{Span}

-- the text of a JSON value: no white space, and the shortest escapes
abbrev pub json_text : Json → List ℕ
json_text j = print (json_tokens j)

-- the tokens of a value were written after the others, or there was no memory
abbrev pub Writes : {E : Type 0} → Result (Unit {0}) E → List Token → List Token → Json → Type 0
Writes r old new j = OnOk r (new ≡ old ++ json_tokens j)

abbrev pub number_form : ℕ → Json
number_form n = number (decimal n)

abbrev pub signed_form : ℤ → Json
signed_form n = number (signed_decimal n)

-- null, or the value
unfoldable pub optional : {A : Type 0} → (A → Json) → Option A → Json
optional form None = null
optional form (Some x) = form x

abbrev pub each : {A : Type 0} → (A → Json) → List A → Items
each form [] = no_items
each form (x ∷ xs) = item (form x) (each form xs)

unfoldable pub list_form : {A : Type 0} → (A → Json) → List A → Json
list_form form xs = array (each form xs)

unfoldable pub two_items : Json → Json → Json
two_items a b = array (item a (item b no_items))

unfoldable pub three_items : Json → Json → Json → Json
three_items a b c = array (item a (item b (item c no_items)))

-- an object with one field, as a variant that holds something: its name is the field
unfoldable pub holding : List ℕ → Json → Json
holding name j = object (member name j no_members)

-- a variant by its name: alone, or with what it holds
unfoldable pub variant : List ℕ → Option Json → Json
variant name None = string name
variant name (Some held) = holding name held

unfoldable pub one_field : List ℕ → Json → Json
one_field f a = object (member f a no_members)

unfoldable pub two_fields : List ℕ → Json → List ℕ → Json → Json
two_fields f a g b = object (member f a (member g b no_members))

unfoldable pub three_fields : List ℕ → Json → List ℕ → Json → List ℕ → Json → Json
three_fields f a g b h c = object (member f a (member g b (member h c no_members)))

unfoldable pub four_fields : List ℕ → Json → List ℕ → Json → List ℕ → Json → List ℕ → Json → Json
four_fields f a g b h c i d = object (member f a (member g b (member h c (member i d no_members))))

unfoldable pub five_fields : List ℕ → Json → List ℕ → Json → List ℕ → Json → List ℕ → Json → List ℕ → Json → Json
five_fields f a g b h c i d j e = object (member f a (member g b (member h c (member i d (member j e no_members)))))

-- a place in the source: where it starts, and where it ends
abbrev pub span_form : Span → Json
span_form span = two_items (number_form span.start) (number_form span.end)
