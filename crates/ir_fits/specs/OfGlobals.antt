-- The misfits of the globals of a module and of its global expressions.
use Rattle.std.specs.Prelude.{ℕ, Bool, true, false, not, ◌==◌, List, [], ◌∷◌, ◌++◌, Option, Some, length}
use Rattle.ir_types.specs.declared.types.TypeInner.{TypeInner}
use Rattle.ir_types.specs.declared.types.TypeInner.TheVariants as inner
use Rattle.ir_types.specs.declared.types.ImageClass.TheVariants.{External}
use Rattle.ir_types.specs.declared.types.AddressSpace.{AddressSpace}
use Rattle.ir_types.specs.declared.types.AddressSpace.TheVariants as space
use Rattle.ir_types.specs.declared.types.Type.{«Type» as IrType}
use Rattle.ir_types.specs.declared.typifier.TypeResolution.{TypeResolution}
use Rattle.ir_types.specs.declared.typifier.TypeResolution.TheVariants.{Handle, Value}
use Rattle.ir_types.specs.Types.{inner_at}
use Rattle.ir_module.specs.declared.module.GlobalVariable.{GlobalVariable}
use Rattle.ir_module.specs.declared.module.Module.{Module}
use Rattle.ir_arena.specs.Points.{Point, points_of_each}
use Rattle.ir_misfits.specs.declared.misfit.Owner.TheVariants as owner
use Rattle.ir_misfits.specs.declared.misfit.TypeOwner.TheVariants.{OfGlobalExpression}
use Rattle.ir_misfits.specs.declared.misfit.TypeField.TheVariants as type_field
use Rattle.ir_misfits.specs.declared.misfit.VariableField.TheVariants as field
use Rattle.ir_misfits.specs.declared.misfit.Place.TheVariants as place
use Rattle.ir_misfits.specs.declared.misfit.HandleOf.TheVariants.{Types, GlobalExpressions}
use Rattle.ir_misfits.specs.declared.misfit.Problem.TheVariants as problem
use Rattle.ir_misfits.specs.declared.misfit.Misfit.{Misfit}
use Rattle.ir_misfits.specs.MisfitPoints.{MisfitPoints, named, named_if}
use Rattle.ir_fits.specs.OfTypes.{inner_points}
use Rattle.ir_misfits.specs.OfExpressions.{expressions_points}

-- an external image, or a ray query
abbrev pub is_unbindable : Option TypeInner → Bool
is_unbindable (Some (inner.Image dim arrayed External)) = true
is_unbindable (Some (inner.RayQuery vertex_return)) = true
is_unbindable _ = false

-- a binding array of such types
abbrev pub is_unbindable_array : List IrType → Option TypeInner → Bool
is_unbindable_array types (Some (inner.BindingArray base size)) = is_unbindable (inner_at types base)
is_unbindable_array types _ = false

-- what a global of this type in this space may be: no binding array of external images or ray queries in Handle
abbrev pub is_bindable : List IrType → AddressSpace → ℕ → Bool
is_bindable types space.Handle ty = not (is_unbindable_array types (inner_at types ty))
is_bindable types space.Function ty = true
is_bindable types space.Private ty = true
is_bindable types space.WorkGroup ty = true
is_bindable types space.Uniform ty = true
is_bindable types (space.Storage access) ty = true
is_bindable types space.Immediate ty = true
is_bindable types space.TaskPayload ty = true
is_bindable types space.RayPayload ty = true
is_bindable types space.IncomingRayPayload ty = true

-- a global: its type and its initializer are there, and in space Handle it is no such binding array
abbrev pub global_points : Module → ℕ → GlobalVariable → MisfitPoints
global_points m k g =
    named (place.InGlobal k field.Ty) Types (length m.types) g.ty
    ∷ (named_if (place.InGlobal k field.Init) GlobalExpressions (length m.global_expressions) g.init
    ++ (is_bindable m.types g.space g.ty, record { place = place.InGlobal k field.Ty; problem = problem.Unbindable }) ∷ [])

-- what the type of a global expression names is one of n types
abbrev pub resolution_points : ℕ → ℕ → TypeResolution → MisfitPoints
resolution_points n k (Handle h) = named (place.InType (OfGlobalExpression k) type_field.Whole) Types n h ∷ []
resolution_points n k (Value i) = inner_points (OfGlobalExpression k) n i

-- there is one type for each global expression
abbrev pub one_type_each : Module → List TypeResolution → Point Misfit
one_type_each m types = (
  length types == length m.global_expressions,
  record { place = place.GlobalTypes; problem = problem.Length (length types) (length m.global_expressions) },
)

-- the globals; one type for each global expression, and what these types name; global expressions name earlier ones
abbrev pub globals_points : Module → List TypeResolution → MisfitPoints
globals_points m types =
    points_of_each (global_points m) m.global_variables
    ++ (one_type_each m types
    ∷ (points_of_each (resolution_points (length m.types)) types
    ++ expressions_points owner.Module m.global_expressions))
