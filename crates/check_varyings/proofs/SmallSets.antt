-- One bit of a set.
use Rattle.std.proofs.Common.{◌≡◌, ◌==◌, ◌<◌, ◌*◌, ◌%◌, ◌^◌, ℕ, ◌||◌, Bool, true, false, refl, sym, ap, ◌∙◌, inl, inr, w64}
use Rattle.std.specs.Prelude.{bit_or}
use Rattle.std.specs.Int.{bit_at}
use Rattle.std.proofs.lemmas.Bool.{cases_eq, eq-eqb, ne_eqb}
use Rattle.std.proofs.lemmas.Nat.Bits.{bit_at-zero, bit_at_set_same, bit_at_set_other}

or_true : (b : Bool) → (b || true) ≡ true
or_true true = refl
or_true false = refl

or_false : (b : Bool) → (b || false) ≡ b
or_false true = refl
or_false false = refl

pub empty_has : (n : ℕ) → (bit_at 0 n == 1) ≡ false
empty_has n = ap (λ x. x == 1) (bit_at-zero n)

pub inserted_has : (word k n : ℕ) → k < 64 → (bit_at (bit_or word (1 * 2 ^ k % 2 ^ 64)) n == 1) ≡ ((bit_at word n == 1) || (n == k))
inserted_has word k n lt =
    elim (cases_eq n k) as (λ _. (bit_at (bit_or word (1 * 2 ^ k % 2 ^ 64)) n == 1) ≡ ((bit_at word n == 1) || (n == k))) [
      | inl same ↦
          ap (λ m. bit_at (bit_or word (1 * 2 ^ k % 2 ^ 64)) m == 1) same
          ∙ ap (λ x. x == 1) (bit_at_set_same w64 word k lt)
          ∙ sym (or_true (bit_at word n == 1))
          ∙ ap (λ b. (bit_at word n == 1) || b) (sym (eq-eqb n k same))
      | inr other ↦
          ap (λ x. x == 1) (bit_at_set_other w64 word k lt n other)
          ∙ sym (or_false (bit_at word n == 1))
          ∙ ap (λ b. (bit_at word n == 1) || b) (sym (ne_eqb n k other))
    ]
