-- Literals by value, as `{"U32": 5}`.
use Rattle.std.specs.Float.{binary32, binary64, float_is_finite, round_to_format}
use Rattle.std.specs.Int.{w32, w64, cast_unsigned}
use Rattle.std.specs.Prelude.{ℕ, List, [], ◌∷◌, Bool, true, false, Float, codes, Option, None, Some, option_map, to_bits, if◌then◌else◌}
use Rattle.serde_json.specs.Data.{Data}
use Rattle.serde_json.specs.Find.{as_bool, as_number, to_float}
use Rattle.ir_module.specs.declared.expressions.Literal.{Literal}
use Rattle.ir_leaves.specs.declared.scalars.Scalar.{Scalar}
use Rattle.ir_leaves.specs.declared.scalars.ScalarKind.TheVariants as kind
use Rattle.json_expressions.specs.declared.literals.LiteralName.{LiteralName}
use Rattle.json_expressions.specs.declared.literals.LiteralName.TheVariants as name
use Rattle.json_values.specs.Form.{given}
use Rattle.json_values.specs.ReadNumbers.{i32_of, i64_of, u32_of, u64_of}
use Rattle.json_values.specs.Variants.{either, variant_of}

abbrev pub bit : Bool → ℕ
bit true = 1
bit false = 0

-- the bits of the float of 64 bits that is nearest to a number
abbrev pub double_bits : Float → Option ℕ
double_bits x = if float_is_finite x then Some (to_bits binary64 x) else None

-- those of the float of 32 bits that is nearest to that one, if there is a finite one
abbrev pub single_bits : Float → Option ℕ
single_bits x =
    if float_is_finite (round_to_format binary32 x) then Some (to_bits binary32 (round_to_format binary32 x)) else None

-- the bits of a value; those of an integer with a sign are its complement of two
abbrev pub bits_of : LiteralName → Data → Option ℕ
bits_of name.U32 d = u32_of d
bits_of name.I32 d = option_map (cast_unsigned w32) (i32_of d)
bits_of name.U64 d = u64_of d
bits_of name.I64 d = option_map (cast_unsigned w64) (i64_of d)
bits_of name.Bool d = option_map bit (as_bool d)
bits_of name.F32 d = given (option_map to_float (as_number d)) single_bits
bits_of name.F64 d = given (option_map to_float (as_number d)) double_bits
bits_of name.AbstractInt d = option_map (cast_unsigned w64) (i64_of d)
bits_of name.AbstractFloat d = given (option_map to_float (as_number d)) double_bits

abbrev pub scalar_of : LiteralName → Scalar
scalar_of name.U32 = record { kind = kind.Uint; width = 4 }
scalar_of name.I32 = record { kind = kind.Sint; width = 4 }
scalar_of name.U64 = record { kind = kind.Uint; width = 8 }
scalar_of name.I64 = record { kind = kind.Sint; width = 8 }
scalar_of name.Bool = record { kind = kind.Bool; width = 1 }
scalar_of name.F32 = record { kind = kind.Float; width = 4 }
scalar_of name.F64 = record { kind = kind.Float; width = 8 }
scalar_of name.AbstractInt = record { kind = kind.AbstractInt; width = 8 }
scalar_of name.AbstractFloat = record { kind = kind.AbstractFloat; width = 8 }

abbrev pub literal_names : List (List ℕ × LiteralName)
literal_names =
    (codes "U32", name.U32) ∷ (codes "I32", name.I32) ∷ (codes "U64", name.U64) ∷ (codes "I64", name.I64)
    ∷ (codes "Bool", name.Bool) ∷ (codes "F32", name.F32) ∷ (codes "F64", name.F64)
    ∷ (codes "AbstractInt", name.AbstractInt) ∷ (codes "AbstractFloat", name.AbstractFloat) ∷ []

-- the literal of this scalar with this value
abbrev pub literal_held : LiteralName → Data → Option Literal
literal_held n d = option_map (λ bits. record { scalar = scalar_of n; bits = bits }) (bits_of n d)

abbrev pub literal_by_value : Data → Option Literal
literal_by_value d = given (variant_of [] literal_names d) (either literal_held)
