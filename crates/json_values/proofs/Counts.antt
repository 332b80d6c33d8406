-- Numbers other than 0.
use Rattle.std.proofs.Common.{◌≡◌, ℕ, zero, suc, ◌<◌, Some, ap, arith}
use Rattle.std.proofs.Props.{props}
use Rattle.std.specs.declared.num.NonZeroU32.{NonZeroU32}
use Rattle.json_values.specs.ReadNumbers.{nonzero, above_zero}

-- a number above 0 has one proof of it
one_proof : (n : ℕ) (p q : 0 < n) → p ≡ q
one_proof n = Prim.hlevel props

made : (n : ℕ) (p : 0 < n) → nonzero n ≡ Some (record { value = n; ok = p })
made zero p = absurd (omega (arith, p))
made (suc n) p =
    let count : 0 < suc n → NonZeroU32 = λ q. record { value = suc n; ok = q } in
    ap (λ q. Some (count q)) (one_proof (suc n) (above_zero n) p)

-- a number other than 0 is what its value stands for
pub nonzero_is : (c : NonZeroU32) → nonzero c.value ≡ Some c
nonzero_is c = made c.value c.ok
