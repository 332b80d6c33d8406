-- Variants, by tables of their names.
use Rattle.std.specs.Prelude.{ℕ, List, Option, Some, option_and_then, option_map}
use Rattle.serde_json.specs.Data.{Data}
use Rattle.json_values.specs.Form as form
use Rattle.json_values.specs.Form.{lookup, written_variant_of}

-- a variant that holds nothing, or one that holds something, and what it holds
pub data Variant (P H : Type 0) : Type 0 where
  plain : P → Variant P H
  holding : H → Data → Variant P H

abbrev pub by_name : {P H : Type 0} → List (List ℕ × P) → List (List ℕ × H) → form.WrittenVariant → Option (Variant P H)
by_name names holders (form.plain name) = option_map plain (lookup names name)
by_name names holders (form.holding name d) = option_map (λ h. holding h d) (lookup holders name)

-- the variant by a table of those that hold nothing and one of those that hold something
abbrev pub variant_of : {P H : Type 0} → List (List ℕ × P) → List (List ℕ × H) → Data → Option (Variant P H)
variant_of names holders d = option_and_then (by_name names holders) (written_variant_of d)

-- what a variant stands for: one that holds nothing for itself, another for what its name says of what it holds
abbrev pub either : {T H : Type 0} → (H → Data → Option T) → Variant T H → Option T
either f (plain x) = Some x
either f (holding h d) = f h d
