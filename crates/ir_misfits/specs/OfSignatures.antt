-- The misfits of the arguments and the result of a function.
use Rattle.std.specs.Prelude.{ℕ, [], ◌∷◌, ◌++◌, Option, None, Some, length, slice_get}
use Rattle.ir_module.specs.declared.functions.Function.{Function}
use Rattle.ir_module.specs.declared.functions.FunctionArgument.{FunctionArgument}
use Rattle.ir_module.specs.declared.functions.FunctionResult.{FunctionResult}
use Rattle.ir_module.specs.declared.module.Module.{Module}
use Rattle.ir_arena.specs.Points.{points_of_each}
use Rattle.ir_misfits.specs.declared.misfit.Owner.{Owner}
use Rattle.ir_misfits.specs.declared.misfit.Owner.TheVariants as owner
use Rattle.ir_misfits.specs.declared.misfit.Place.{Place}
use Rattle.ir_misfits.specs.declared.misfit.Place.TheVariants as place
use Rattle.ir_misfits.specs.declared.misfit.HandleOf.TheVariants.{Types, Functions}
use Rattle.ir_misfits.specs.MisfitPoints.{MisfitPoints, named, counted}

-- of n types: that of argument k is there
abbrev pub argument_points : Owner → ℕ → ℕ → FunctionArgument → MisfitPoints
argument_points of n k a = named (place.ArgumentType of k) Types n a.ty ∷ []

-- and that of the result, if there is one
abbrev pub outcome_points : Owner → ℕ → Option FunctionResult → MisfitPoints
outcome_points of n None = []
outcome_points of n (Some r) = named (place.ResultType of) Types n r.ty ∷ []

-- 32 bits count the arguments; their types are there, and that of the result
abbrev pub signature_points : Module → Owner → Function → MisfitPoints
signature_points m of f =
    counted (place.Arguments of) (length f.arguments)
    ∷ (points_of_each (argument_points of (length m.types)) f.arguments ++ outcome_points of (length m.types) f.result)

-- the signature of the function with handle h, where there is one
abbrev pub signature_points_if : Module → ℕ → Option Function → MisfitPoints
signature_points_if m h None = []
signature_points_if m h (Some f) = signature_points m (owner.Function h) f

-- a function that is named at this place is there, and its signature fits
abbrev pub callee_points : Module → Place → ℕ → MisfitPoints
callee_points m place h =
    named place Functions (length m.functions) h ∷ signature_points_if m h (slice_get m.functions h)
