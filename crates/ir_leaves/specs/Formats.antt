-- The scalar that a texel of a storage image has.
use Rattle.std.specs.Prelude.{ℕ}
use Rattle.ir_leaves.specs.declared.scalars.ScalarKind.{ScalarKind}
use Rattle.ir_leaves.specs.declared.scalars.ScalarKind.TheVariants.{Sint, Uint, Float}
use Rattle.ir_leaves.specs.declared.scalars.Scalar.{Scalar}
use Rattle.ir_leaves.specs.declared.images.StorageFormat.{StorageFormat}
use Rattle.ir_leaves.specs.declared.images.StorageFormat.TheVariants as format

-- a format whose name ends in Uint or Sint holds integers of that sign; any other is read as floats
abbrev pub format_kind : StorageFormat → ScalarKind
format_kind format.R8Uint = Uint
format_kind format.Rg8Uint = Uint
format_kind format.Rgba8Uint = Uint
format_kind format.R16Uint = Uint
format_kind format.Rg16Uint = Uint
format_kind format.Rgba16Uint = Uint
format_kind format.R32Uint = Uint
format_kind format.Rg32Uint = Uint
format_kind format.Rgba32Uint = Uint
format_kind format.Rgb10a2Uint = Uint
format_kind format.R64Uint = Uint
format_kind format.R8Sint = Sint
format_kind format.Rg8Sint = Sint
format_kind format.Rgba8Sint = Sint
format_kind format.R16Sint = Sint
format_kind format.Rg16Sint = Sint
format_kind format.Rgba16Sint = Sint
format_kind format.R32Sint = Sint
format_kind format.Rg32Sint = Sint
format_kind format.Rgba32Sint = Sint
format_kind _ = Float

-- 4 bytes, but 8 for the one format of 64 bits
abbrev pub format_width : StorageFormat → ℕ
format_width format.R64Uint = 8
format_width _ = 4

-- kind and width together
abbrev pub format_scalar : StorageFormat → Scalar
format_scalar f = record { kind = format_kind f; width = format_width f }
