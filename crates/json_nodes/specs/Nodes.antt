-- What the tokens of a node stand for.
use Rattle.std.specs.Prelude.{List, length, Option, IsSome, unwrap_or, option_and_then}
use Rattle.json.specs.Token.{Token}
use Rattle.json.specs.Json as json
use Rattle.serde_json.specs.Data.{Data, null, Items, no_items}
use Rattle.serde_json.specs.Read.{of_json, of_items, max_depth}

-- the value that tokens begin with, if they begin with one that is data
unfoldable pub data_at : List Token → Option Data
data_at ts = option_and_then (λ p. of_json p.0) (json.value max_depth ts)

-- the items, up to the closing bracket, that tokens begin with, if they do
unfoldable pub items_at : List Token → Option Items
items_at ts = option_and_then (λ p. of_items p.0) (json.items (json.value max_depth) (length ts) ts)

-- the value that tokens begin with
unfoldable pub data_of : List Token → Data
data_of ts = unwrap_or (data_at ts) null

-- the items, up to the closing bracket, that tokens begin with
unfoldable pub items_of : List Token → Items
items_of ts = unwrap_or (items_at ts) no_items

-- tokens begin with a value
abbrev pub HoldsData : List Token → Type 0
HoldsData ts = IsSome (data_at ts)

-- tokens begin with items and a closing bracket
abbrev pub HoldsItems : List Token → Type 0
HoldsItems ts = IsSome (items_at ts)
