-- The fields of an object: the only one, whether their names are among those that are allowed, whether each of some is there.
use Rattle.std.specs.Prelude.{ℕ, ◌&&◌, List, [], ◌∷◌, Bool, true, false, Option, Some, None, is_some}
use Rattle.std.specs.List.{list_any}
use Rattle.std.specs.Option.{option_map_or}
use Rattle.std.specs.Str.{bytes_eq}
use Rattle.serde_json.specs.Data.{Data, Members, no_members, member}
use Rattle.serde_json.specs.Find.{get, as_object}

-- the only member, with its name
abbrev pub only_of : Members → Option (List ℕ × Data)
only_of no_members = None
only_of (member k d no_members) = Some (k, d)
only_of (member k d (member l e ms)) = None

-- whether the name is one of these
abbrev pub is_among : List ℕ → List (List ℕ) → Bool
is_among name names = list_any (bytes_eq name) names

-- whether the name of each member is one of these
abbrev pub names_among : List (List ℕ) → Members → Bool
names_among names no_members = true
names_among names (member k d ms) = is_among k names && names_among names ms

-- whether it is an object, and each of its fields has one of these names
abbrev pub has_no_other : List (List ℕ) → Data → Bool
has_no_other names d = option_map_or (names_among names) (as_object d) false

-- whether each of these is the name of a field
abbrev pub has_each : List (List ℕ) → Data → Bool
has_each [] d = true
has_each (name ∷ names) d = is_some (get name d) && has_each names d
