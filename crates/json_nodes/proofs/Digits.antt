-- The number of a text that is digits alone, where they are few.
use Rattle.std.proofs.Common.{◌≡◌, ℕ, ◌+◌, ◌-◌, ◌*◌, ◌^◌, ◌<◌, ◌≤◌, false, List, [], ◌∷◌, ◌++◌, length, get_or, take, Some, eqb, refl, sym, subst, ap, ◌∙◌, arith, append-nil, length-take, take_all, lt-ltb, ne_eqb}
use Rattle.std.proofs.lemmas.List.{take_more}
use Rattle.std.proofs.lemmas.Str.Parse.{IsNumeralModel, numerals_by_value, tells_digits, digits_value_short, digit_at}
use Rattle.std.specs.Char.{digit_value}
use Rattle.std.specs.Str.Parse.{AllDigits, digits_value}
use Rattle.fast_float.specs.Text.{Parts, scan, digits_of, IsWellFormed}
use Rattle.fast_float.proofs.DigitsLemmas.{digits_value-append, is_digit}
use Rattle.fast_float.proofs.Rows.{AllDigits-append}
use Rattle.fast_float.proofs.Writing.{scan-text_of}
use Rattle.serde_json.specs.Data.{unsigned}
use Rattle.serde_json.specs.Read.{number_of}

digits : IsNumeralModel (AllDigits 10) (digits_value 10)
digits = numerals_by_value (AllDigits 10) tells_digits

-- digits so far, and their number
pub record Read (s : List ℕ) (i n : ℕ) : Type 0 where
  pub digits : AllDigits 10 (take i s)
  pub value : n ≡ digits_value 10 (take i s)

-- one digit more
pub read_more : (s : List ℕ) (i n : ℕ) → i < length s → 48 ≤ get_or s i 0 → get_or s i 0 ≤ 57 → Read s i n → Read s (i + 1) (n * 10 + (get_or s i 0 - 48))
read_more s i n less low high r =
    let x = get_or s i 0 in
    let d = is_digit x low high in
    let next : take (i + 1) s ≡ take i s ++ x ∷ [] = take_more s i 0 less in
    let small : digit_value x < 10 = omega (arith, d.1) in
    let sum = digits_value-append (take i s) (x ∷ []) in
    record {
      digits = subst (AllDigits 10) (sym next) (AllDigits-append (take i s) (x ∷ []) r.digits (small, tt));
      value = omega (arith, ap (digits_value 10) next, sum, d.1, r.value);
    }

-- few digits have a small number
pub read_below : (s : List ℕ) (i n : ℕ) → i ≤ 18 → Read s i n → n < 10 ^ 18
read_below s i n few r = omega (arith, r.value, digits_value_short digits (take i s) 18 r.digits (omega (arith, length-take i s)))

parts : List ℕ → Parts
parts s = record { whole = s; point = false; fraction = []; exponent_negative = false; exponent = []; len = length (s ++ []) }

formed : (s : List ℕ) → AllDigits 10 s → IsWellFormed (parts s)
unfolding parts
formed s h = record { whole_digits = h; fraction_digits = tt; exponent_digits = tt; no_point = λ _. refl; no_exponent = λ _. refl; len_is = refl }

-- the number of such a text
pub number_of_digits : (s : List ℕ) → AllDigits 10 s → 0 < length s → length s ≤ 19 → number_of s ≡ Some (unsigned (digits_value 10 s))
unfolding number_of parts
number_of_digits s h some few =
    let first = digit_at s 0 h some in
    let plain : eqb (get_or s 0 0) 45 ≡ false = ne_eqb (get_or s 0 0) 45 (λ e. omega arith) in
    let scanned : scan s ≡ parts s = ap scan (sym (append-nil s)) ∙ scan-text_of (parts s) (formed s h) in
    let fits : digits_value 10 s < 2 ^ 64 = omega (arith, digits_value_short digits s 19 h few) in
    let same : digits_of (parts s) ≡ digits_value 10 s = ap (digits_value 10) (append-nil s) in
    rw (plain, scanned, lt-ltb _ _ some, same, lt-ltb _ _ fits) refl

-- all of it was read
pub read_all : (s : List ℕ) (i n : ℕ) → length s ≤ i → 0 < length s → length s ≤ 19 → Read s i n → number_of s ≡ Some (unsigned n)
read_all s i n over some few r =
    let all : take i s ≡ s = take_all i s over in
    number_of_digits s (subst (AllDigits 10) all r.digits) some few ∙ ap (λ m. Some (unsigned m)) (sym (r.value ∙ ap (digits_value 10) all))
