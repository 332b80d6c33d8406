-- The fields of an object as they stand in a text, where a name may come again.
use Rattle.std.specs.Prelude.{ℕ, ◌&&◌, List, [], ◌∷◌, Bool, true, false, if◌then◌else◌, Option, Some, None, option_map}
use Rattle.std.specs.Str.{bytes_eq}
use Rattle.json.specs.Json.{Json, Members, no_members, member}
use Rattle.json_nodes.specs.Fields.{is_among}

-- the last value of a name, whose value was j so far, where no other name comes
abbrev pub last_value : List ℕ → Json → Members → Option Json
last_value name j no_members = Some j
last_value name j (member k i ms) = if bytes_eq k name then last_value name i ms else None

-- the only name, and its last value
abbrev pub only_field : Members → Option (List ℕ × Json)
only_field no_members = None
only_field (member k j ms) = option_map (λ i. (k, i)) (last_value k j ms)

-- whether the name of each member is one of these
abbrev pub are_among : List (List ℕ) → Members → Bool
are_among names no_members = true
are_among names (member k j ms) = is_among k names && are_among names ms

-- whether the names of the members are these, one after the other, and no other member comes
abbrev pub are_in_order : List (List ℕ) → Members → Bool
are_in_order [] no_members = true
are_in_order [] (member k j ms) = false
are_in_order (name ∷ names) no_members = false
are_in_order (name ∷ names) (member k j ms) = bytes_eq k name && are_in_order names ms
