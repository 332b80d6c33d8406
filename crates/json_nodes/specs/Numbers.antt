-- The number that a `Number` is.
use Rattle.serde_json.specs.Data.{Num, unsigned, negative, float}
use Rattle.json_nodes.specs.declared.number.Number.{Number}
use Rattle.json_nodes.specs.declared.number.Number.TheVariants.{Whole, Negative, Float}

abbrev pub num_of : Number → Num
num_of (Whole n) = unsigned n
num_of (Negative z) = negative z
num_of (Float x) = float x
