-- Which list of the recorded facts about a function is short, or which of its types breaks a law of lower layers.
use Rattle.std.specs.Prelude.{ℕ, false, ◌==◌, nat_lt, nat_le, List, [], ◌∷◌, ◌++◌, Option, None, Some, length, slice_get}
use Rattle.ir_types.specs.declared.types.TypeInner.TheVariants as inner
use Rattle.ir_types.specs.declared.typifier.TypeResolution.{TypeResolution}
use Rattle.ir_types.specs.declared.typifier.TypeResolution.TheVariants.{Handle, Value}
use Rattle.ir_module.specs.declared.functions.Function.{Function}
use Rattle.ir_module.specs.declared.module.EntryPoint.{EntryPoint}
use Rattle.ir_module.specs.declared.module.Module.{Module}
use Rattle.ir_arena.specs.Points.{Point, points_of_each}
use Rattle.ir_misfits.specs.declared.misfit.Owner.{Owner}
use Rattle.ir_misfits.specs.declared.misfit.Owner.TheVariants as owner
use Rattle.ir_facts.specs.declared.facts.Facts.{Facts}
use Rattle.ir_facts.specs.declared.facts.FunctionFact.{FunctionFact}
use Rattle.ir_facts.specs.declared.facts.FunctionFact.TheVariants.{Info, Error}
use Rattle.ir_facts.specs.declared.facts.InfoFact.{InfoFact}
use Rattle.ir_misfits.specs.declared.shortage.Shortage.{Shortage}
use Rattle.ir_misfits.specs.declared.shortage.Shortage.TheVariants as short

abbrev pub Shortages : Type 0
Shortages = List (Point Shortage)

-- the type of expression k: what it names is one of n types, also inside a value, and it is no struct as a value
abbrev pub type_points : ℕ → ℕ → TypeResolution → Shortages
type_points n k (Handle t) = (nat_lt t n, short.UnknownType k t n) ∷ []
type_points n k (Value (inner.Pointer base space)) = (nat_lt base n, short.UnknownType k base n) ∷ []
type_points n k (Value (inner.Array base size stride)) = (nat_lt base n, short.UnknownType k base n) ∷ []
type_points n k (Value (inner.BindingArray base size)) = (nat_lt base n, short.UnknownType k base n) ∷ []
type_points n k (Value (inner.Struct members span)) = (false, short.StructValue k) ∷ []
type_points n k (Value _) = []

-- an info has one type for each expression, one use for each global, types that keep the laws, and a fact for each expression
abbrev pub info_points : Module → Function → InfoFact → Shortages
info_points m f i =
    (length i.types == length f.expressions, short.Types (length i.types) (length f.expressions))
    ∷ (length i.uses == length m.global_variables, short.Uses (length i.uses) (length m.global_variables))
    ∷ (points_of_each (type_points (length m.types)) i.types
    ++ (nat_le (length f.expressions) (length i.expressions), short.Expressions (length i.expressions) (length f.expressions))
    ∷ [])

-- a fact of a function; where there is none, the list has so many, and so many are wanted
abbrev pub fact_points : Module → Function → ℕ → ℕ → Option FunctionFact → Shortages
fact_points m f found wanted None = (false, short.NoFact found wanted) ∷ []
fact_points m f found wanted (Some (Info i)) = info_points m f i
fact_points m f found wanted (Some (Error e)) = []

-- the facts about a function or an entry point of the module, if it has this one
abbrev pub function_shortages : Facts → Module → ℕ → Option Function → Shortages
function_shortages facts m k None = []
function_shortages facts m k (Some f) =
    fact_points m f (length facts.functions) (length m.functions) (slice_get facts.functions k)

abbrev pub entry_shortages : Facts → Module → ℕ → Option EntryPoint → Shortages
entry_shortages facts m k None = []
entry_shortages facts m k (Some p) =
    fact_points m p.function (length facts.entry_points) (length m.entry_points) (slice_get facts.entry_points k)

abbrev pub shortages : Facts → Module → Owner → Shortages
shortages facts m owner.Module = []
shortages facts m (owner.Function k) = function_shortages facts m k (slice_get m.functions k)
shortages facts m (owner.EntryPoint k) = entry_shortages facts m k (slice_get m.entry_points k)
