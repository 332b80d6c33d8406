-- The misfits of a function of a module.
use Rattle.std.specs.Prelude.{ℕ, ◌∷◌, ◌++◌, length}
use Rattle.ir_module.specs.declared.functions.Function.{Function}
use Rattle.ir_module.specs.declared.functions.LocalVariable.{LocalVariable}
use Rattle.ir_module.specs.declared.module.Module.{Module}
use Rattle.ir_statements.specs.View.{body_of, no_operands}
use Rattle.ir_arena.specs.Points.{points_of_each}
use Rattle.ir_misfits.specs.declared.misfit.Owner.{Owner}
use Rattle.ir_misfits.specs.declared.misfit.VariableField.TheVariants as field
use Rattle.ir_misfits.specs.declared.misfit.Place.TheVariants as place
use Rattle.ir_misfits.specs.declared.misfit.HandleOf.TheVariants.{Types, Expressions}
use Rattle.ir_misfits.specs.MisfitPoints.{MisfitPoints, named, named_if}
use Rattle.ir_misfits.specs.OfSignatures.{signature_points}
use Rattle.ir_misfits.specs.OfExpressions.{expressions_points, reference_points}
use Rattle.ir_misfits.specs.OfBodies.{body_points}

-- a local: its type and its initializer are there
abbrev pub local_points : Module → Function → Owner → ℕ → LocalVariable → MisfitPoints
local_points m f of k v =
    named (place.InLocal of k field.Ty) Types (length m.types) v.ty
    ∷ named_if (place.InLocal of k field.Init) Expressions (length f.expressions) v.init

-- the signature; the locals; the operands of the expressions; what else they name; the body
abbrev pub function_points : Owner → Function → Module → ℕ → MisfitPoints
function_points of f m earlier =
    signature_points m of f
    ++ (points_of_each (local_points m f of) f.local_variables
    ++ (expressions_points of f.expressions
    ++ (points_of_each (reference_points m f of) f.expressions
    ++ body_points m (length f.expressions) earlier of 0 (body_of no_operands f.body))))
