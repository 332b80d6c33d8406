-- The misfits of the types of a module, and of what else names one of them.
use Rattle.std.specs.Prelude.{ℕ, [], ◌∷◌, ◌++◌, length}
use Rattle.ir_types.specs.declared.types.StructMember.{StructMember}
use Rattle.ir_types.specs.declared.types.TypeInner.{TypeInner}
use Rattle.ir_types.specs.declared.types.TypeInner.TheVariants as inner
use Rattle.ir_types.specs.declared.types.Type.{«Type» as IrType}
use Rattle.ir_module.specs.declared.module.Constant.{Constant}
use Rattle.ir_module.specs.declared.module.Override.{Override}
use Rattle.ir_module.specs.declared.module.Module.{Module}
use Rattle.ir_arena.specs.Points.{points_of_each}
use Rattle.ir_misfits.specs.declared.misfit.TypeOwner.{TypeOwner}
use Rattle.ir_misfits.specs.declared.misfit.TypeOwner.TheVariants.{OfModule}
use Rattle.ir_misfits.specs.declared.misfit.TypeField.TheVariants as field
use Rattle.ir_misfits.specs.declared.misfit.Place.TheVariants as place
use Rattle.ir_misfits.specs.declared.misfit.HandleOf.TheVariants.{Types}
use Rattle.ir_misfits.specs.MisfitPoints.{MisfitPoints, named, named_if, counted}

-- the type of a member has a handle below n
abbrev pub member_points : TypeOwner → ℕ → ℕ → StructMember → MisfitPoints
member_points owner n k m = named (place.InType owner (field.Member k)) Types n m.ty ∷ []

-- every type that a type names has a handle below n
abbrev pub inner_points : TypeOwner → ℕ → TypeInner → MisfitPoints
inner_points owner n (inner.Pointer base space) = named (place.InType owner field.Base) Types n base ∷ []
inner_points owner n (inner.Array base size stride) = named (place.InType owner field.Base) Types n base ∷ []
inner_points owner n (inner.BindingArray base size) = named (place.InType owner field.Base) Types n base ∷ []
inner_points owner n (inner.Struct members span) = points_of_each (member_points owner n) members
inner_points owner n (inner.Scalar s) = []
inner_points owner n (inner.Vector k s) = []
inner_points owner n (inner.Matrix c r s) = []
inner_points owner n (inner.CooperativeMatrix s d) = []
inner_points owner n (inner.Atomic s) = []
inner_points owner n (inner.ValuePointer k s p) = []
inner_points owner n (inner.Image dim arrayed class) = []
inner_points owner n (inner.Sampler comparison) = []
inner_points owner n (inner.AccelerationStructure vertex_return) = []
inner_points owner n (inner.RayQuery vertex_return) = []

-- the type with handle k names only earlier ones
abbrev pub earlier_points : ℕ → IrType → MisfitPoints
earlier_points k t = inner_points (OfModule k) k t.inner

-- how many members a struct has fits 32 bits
abbrev pub member_count_points : ℕ → TypeInner → MisfitPoints
member_count_points k (inner.Struct members span) =
    counted (place.InType (OfModule k) field.Members) (length members) ∷ []
member_count_points k _ = []

abbrev pub count_points : ℕ → IrType → MisfitPoints
count_points k t = member_count_points k t.inner

-- of n types: the type of a constant, and that of an override, are there
abbrev pub constant_points : ℕ → ℕ → Constant → MisfitPoints
constant_points n k c = named (place.ConstantType k) Types n c.ty ∷ []

abbrev pub override_points : ℕ → ℕ → Override → MisfitPoints
override_points n k o = named (place.OverrideType k) Types n o.ty ∷ []

-- each type names only earlier ones; the number of members of each fits 32 bits; the type of ray descriptors is there, and
-- those of constants and of overrides
abbrev pub types_points : Module → MisfitPoints
types_points m =
    points_of_each earlier_points m.types
    ++ (points_of_each count_points m.types
    ++ (named_if place.RayDesc Types (length m.types) m.special_types.ray_desc
    ++ (points_of_each (constant_points (length m.types)) m.constants
    ++ points_of_each (override_points (length m.types)) m.overrides)))
