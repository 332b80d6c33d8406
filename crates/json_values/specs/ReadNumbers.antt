-- Numbers. One with a fraction or an exponent is no integer, whatever its value, and neither is -0.
use Rattle.std.specs.Prelude.{ℕ, zero, suc, ◌<◌, nat_lt, ℤ, pos, negsuc, int_lt, Option, Some, None, if◌then◌else◌}
use Rattle.std.proofs.Common.{arith}
use Rattle.std.specs.declared.num.NonZeroU32.{NonZeroU32}
use Rattle.serde_json.specs.Data.{Data}
use Rattle.serde_json.specs.Find.{as_number, as_u64, as_i64}
use Rattle.json_values.specs.Form.{given}

abbrev pub u64_of : Data → Option ℕ
u64_of d = given (as_number d) as_u64

-- an integer below a limit
abbrev pub below : ℕ → Data → Option ℕ
below limit d = given (u64_of d) (λ n. if nat_lt n limit then Some n else None)

abbrev pub u8_of : Data → Option ℕ
u8_of = below 256

abbrev pub u32_of : Data → Option ℕ
u32_of = below 4294967296

-- an integer of 32 bits and a sign: from -2147483648, that is negsuc 2147483647, to 2147483647
abbrev pub i32_of : Data → Option ℤ
i32_of d = given (given (as_number d) as_i64)
    (λ n. if int_lt n (negsuc 2147483647) then None else (if int_lt (pos 2147483647) n then None else Some n))

-- an integer of 64 bits and a sign
abbrev pub i64_of : Data → Option ℤ
i64_of d = given (as_number d) as_i64

pub above_zero : (n : ℕ) → 0 < suc n
above_zero n = omega arith

abbrev pub nonzero : ℕ → Option NonZeroU32
nonzero zero = None
nonzero (suc n) = Some (record { value = suc n; ok = above_zero n })

abbrev pub nonzero_of : Data → Option NonZeroU32
nonzero_of d = given (u32_of d) nonzero
