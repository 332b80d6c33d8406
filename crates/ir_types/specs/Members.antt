-- The types that hold no members.
use Rattle.std.specs.Prelude.{⊤}
use Rattle.ir_types.specs.declared.types.TypeInner.{TypeInner}
use Rattle.ir_types.specs.declared.types.TypeInner.TheVariants as inner

-- not a struct: the type holds no members
abbrev pub HasNoMembers : TypeInner → Type 0
HasNoMembers (inner.Struct members span) = ⊥
HasNoMembers (inner.Scalar s) = ⊤
HasNoMembers (inner.Vector k s) = ⊤
HasNoMembers (inner.Matrix c r s) = ⊤
HasNoMembers (inner.CooperativeMatrix s d) = ⊤
HasNoMembers (inner.Atomic s) = ⊤
HasNoMembers (inner.Pointer b p) = ⊤
HasNoMembers (inner.ValuePointer k s p) = ⊤
HasNoMembers (inner.Array b size stride) = ⊤
HasNoMembers (inner.Image dim arrayed class) = ⊤
HasNoMembers (inner.Sampler comparison) = ⊤
HasNoMembers (inner.AccelerationStructure vertex_return) = ⊤
HasNoMembers (inner.RayQuery vertex_return) = ⊤
HasNoMembers (inner.BindingArray b size) = ⊤
