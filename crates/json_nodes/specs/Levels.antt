-- How many brackets are open at a place among tokens.
use Rattle.std.specs.Prelude.{ℕ, ◌+◌, ◌-◌, nat_lt, if◌then◌else◌, is_some, Option, Some, None}
use Rattle.json.specs.Token.{Token, begin_object, end_object, begin_array, end_array, key, string, number, boolean, null, bad}
use Rattle.serde_json.specs.Read.{number_of, max_depth}

-- how many there are after a token. None where they are too many, or where a number is out of range
abbrev pub level_after : ℕ → Token → Option ℕ
level_after n begin_object = if nat_lt n max_depth then Some (n + 1) else None
level_after n end_object = Some (n - 1)
level_after n begin_array = if nat_lt n max_depth then Some (n + 1) else None
level_after n end_array = Some (n - 1)
level_after n (key s) = Some n
level_after n (string s) = Some n
level_after n (number s) = if is_some (number_of s) then Some n else None
level_after n (boolean b) = Some n
level_after n null = Some n
level_after n bad = Some n
