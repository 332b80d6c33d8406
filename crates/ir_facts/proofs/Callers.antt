-- Lemmas for the crates above: what the tests of conditions give, and trees with other operands.
use Rattle.std.proofs.Common.{◌≤◌, ℕ, List, length, slice_index_or, arith}
use Rattle.std.proofs.lemmas.Option.{slice_get-get_or}
use Rattle.ir_types.specs.declared.types.TypeInner.{TypeInner}
use Rattle.ir_types.specs.declared.types.TypeInner.TheVariants as inner
use Rattle.ir_types.specs.declared.types.Type.{«Type» as IrType}
use Rattle.ir_module.specs.declared.module.Module.{Module}
use Rattle.ir_types.specs.Types.{NamesTypesBelow, NameEachOther}
use Rattle.ir_facts.specs.Each.{EachAt}
use Rattle.ir_facts.specs.Fits.{FitsTypes}

-- what names types below k names types below a greater number
pub names_more : (k n : ℕ) → k ≤ n → (i : TypeInner) → NamesTypesBelow k i → NamesTypesBelow n i
names_more k n l (inner.Pointer b p) h = omega arith
names_more k n l (inner.Array b size stride) h = omega arith
names_more k n l (inner.BindingArray b size) h = omega arith
names_more k n l (inner.Struct members span) h = λ j d f. let g = h j d f in omega arith
names_more k n l (inner.Scalar s) h = tt
names_more k n l (inner.Vector c s) h = tt
names_more k n l (inner.Matrix c r s) h = tt
names_more k n l (inner.CooperativeMatrix s d) h = tt
names_more k n l (inner.Atomic s) h = tt
names_more k n l (inner.ValuePointer c s p) h = tt
names_more k n l (inner.Image d a c) h = tt
names_more k n l (inner.Sampler c) h = tt
names_more k n l (inner.AccelerationStructure v) h = tt
names_more k n l (inner.RayQuery v) h = tt

-- types that name only earlier ones name each other
pub name_each_other : (types : List IrType) → EachAt (λ k t. NamesTypesBelow k t.inner) types → NameEachOther types
name_each_other types h k d l = names_more k (length types) (omega arith) _ (h k (slice_index_or types k d) (slice_get-get_or types k d l))

pub types_name_each_other : (m : Module) → FitsTypes m → NameEachOther m.types
types_name_each_other m h = name_each_other m.types h.earlier
