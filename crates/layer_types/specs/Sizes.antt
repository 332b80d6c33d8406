-- Sizes of types, in bytes: WGSL's rules.
use Rattle.std.specs.Prelude.{ℕ, Bool, not, ◌*◌, ◌%◌, ◌^◌, ◌==◌, ◌&&◌, List, Option, None, Some, nat_lt, if◌then◌else◌, option_and_then}
use Rattle.ir_types.specs.Types.{inner_at}
use Rattle.ir_types.specs.declared.types.ArraySize.TheVariants.{Constant}
use Rattle.ir_types.specs.declared.types.Type.{«Type» as IrType}
use Rattle.ir_types.specs.declared.types.TypeInner.{TypeInner}
use Rattle.ir_types.specs.declared.types.TypeInner.TheVariants as inner
use Rattle.ir_leaves.specs.declared.scalars.VectorSize.{VectorSize}
use Rattle.ir_leaves.specs.declared.scalars.VectorSize.TheVariants.{Bi, Tri, Quad}

-- how many components a vector has
abbrev pub components_of : VectorSize → ℕ
components_of Bi = 2
components_of Tri = 3
components_of Quad = 4

-- for how many it has room where it is aligned
abbrev pub aligned_components_of : VectorSize → ℕ
aligned_components_of Bi = 2
aligned_components_of Tri = 4
aligned_components_of Quad = 4

-- a number that fits 32 bits
abbrev pub if_fits : ℕ → Option ℕ
if_fits n = if nat_lt n (2 ^ 32) then Some n else None

-- a scalar or an atomic has its width, a vector that of its components, a matrix its columns with their room, a struct its
-- span, an array of a constant size its items with their stride, where it fits 32 bits. No other size is known
abbrev pub size_of : TypeInner → Option ℕ
size_of (inner.Scalar s) = Some s.width
size_of (inner.Atomic s) = Some s.width
size_of (inner.Vector n s) = Some (components_of n * s.width)
size_of (inner.Matrix columns rows s) = Some (components_of columns * (aligned_components_of rows * s.width))
size_of (inner.Struct members span) = Some span
size_of (inner.Array base (Constant n) stride) = if_fits (n.value * stride)
size_of _ = None

-- the size of the type with this handle
abbrev pub size_at : List IrType → ℕ → Option ℕ
size_at types t = option_and_then size_of (inner_at types t)

-- whether something of this alignment can lie at so many bytes
abbrev pub is_aligned : ℕ → ℕ → Bool
is_aligned alignment bytes = not (alignment == 0) && (bytes % alignment == 0)
