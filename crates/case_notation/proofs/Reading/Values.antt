-- The texts of numbers.
use Rattle.std.proofs.Common.{◌-◌, take, ◌≡◌, ◌≤◌, ◌<◌, ◌^◌, ℕ, zero, suc, List, [], ◌∷◌, ◌++◌, Bool, true, false, Ok, Err, Result, Option, Some, None, refl, inl, inr, ◌⊎◌, ap, sym, subst, ◌∙◌, arith, length, get_or, ℤ, pos, negsuc, decimal, codes, length-append, append-nil}
use Rattle.std.specs.Prelude.{FitsSigned, IfSome, IfNone, is_some, ◌||◌, ◌&&◌, ◌==◌, nat_le}
use Rattle.std.proofs.Math.IntN.{neg_ℤ}
use Rattle.std.proofs.lemmas.Bool.{leb-true}
use Rattle.std.proofs.Math.Seq.{get_or-append_seam}
use Rattle.std.proofs.Math.ListN.{get_or-append}
use Rattle.std.specs.Result.{result_ok}
use Rattle.std.specs.Int.{w32}
use Rattle.std.specs.Int.Signed.{mag}
use Rattle.std.specs.Fmt.{signed_decimal}
use Rattle.std.specs.Str.{IsUtf8}
use Rattle.std.specs.Str.Parse.{AllDigits, digits_value, ParsesSigned}
use Rattle.std.specs.Char.{digit_value}
use Rattle.std.proofs.lemmas.Str.{digit_value_digit}
use Rattle.std.proofs.lemmas.List.{take_all}
use Rattle.std.proofs.lemmas.Grind.{common_steps}
use Rattle.std.proofs.lemmas.Str.{IsUtf8-from_ascii}
use Rattle.std.proofs.lemmas.Str.Parse.{digits_value-take-le, IsNumeralModel, numerals_by_value, tells_digits, digit_at, parse_signed_minus, parse_signed_plain}
use Rattle.std.proofs.lemmas.Fmt.{digits_value-decimal, decimal_nonempty, decimal_digit, first_decimal, digits_decimal, decimal-digits_value, parse-signed_decimal, IsAscii-signed, decimal_injective, signed_decimal_injective}
use Rattle.std.specs.Str.{bytes_eq}
use Rattle.ir_statements.specs.declared.operations.SwitchValue.{SwitchValue}
use Rattle.ir_statements.specs.declared.operations.SwitchValue.TheVariants.{I32, U32, Default}
use Rattle.case_notation.specs.Text.{IsValueText}
use Rattle.case_notation.specs.Lookup.{begins_number, begins_signed}

pub own : IsNumeralModel (AllDigits 10) (digits_value 10)
own = numerals_by_value (AllDigits 10) tells_digits

-- what a text that begins as a number does has first
number_first : (bs : List ℕ) → begins_number bs ≡ true → (48 ≤ get_or bs 0 0) × (get_or bs 0 0 ≤ 57) × (get_or bs 0 0 ≡ 48 → length bs ≡ 1)
number_first [] e = cc
number_first (d ∷ ds) e = (grind (arith, common_steps), grind (arith, common_steps), λ h. grind (arith, common_steps))

-- such a text from its first byte
number_from : (bs : List ℕ) → 0 < length bs → 48 ≤ get_or bs 0 0 → get_or bs 0 0 ≤ 57 → (get_or bs 0 0 ≡ 48 → length bs ≡ 1) → begins_number bs ≡ true
number_from [] lt low high one = absurd (omega arith)
number_from (d ∷ ds) lt low high one = grind (arith, common_steps)

-- the text of a number begins so
pub decimal_begins : (n : ℕ) → n < 2 ^ 64 → begins_number (decimal n) ≡ true
decimal_begins zero lt = rw (decimal_digit 0 (omega arith)) refl
decimal_begins (suc n) lt =
    let first = first_decimal (suc n) (omega arith) lt in
    let digits = digits_decimal own (suc n) lt in
    let some : 0 < length (decimal (suc n)) = decimal_nonempty (suc n) lt in
    let range = digit_at (decimal (suc n)) 0 digits some in
    number_from (decimal (suc n)) some (omega arith) (omega (arith, range)) (λ e. absurd (omega arith))

-- what does not begin so is the text of no number
pub unsigned_unlike : (bs : List ℕ) → begins_number bs ≡ false → (n : ℕ) → n < 2 ^ 32 → bs ≡ decimal n → ⊥
unsigned_unlike bs other n lt e = let begins : begins_number bs ≡ true = rw e (decimal_begins n (omega arith)) in cc

or_cases : (a b : Bool) → a || b ≡ true → (a ≡ true) ⊎ (b ≡ true)
or_cases true b e = inl refl
or_cases false b e = inr e

and_cases : (a b : Bool) → a && b ≡ true → (a ≡ true) × (b ≡ true)
and_cases true b e = (refl, e)
and_cases false b e = cc

-- the same of signed numbers
signed_from : (bs : List ℕ) → begins_number bs ≡ true → begins_signed bs ≡ true
signed_from [] e = cc
signed_from (d ∷ []) e = e
signed_from (d ∷ e' ∷ ds) e = grind (arith, common_steps)

minus_from : (bs : List ℕ) → begins_number bs ≡ true → (get_or bs 0 0 ≡ 48 → ⊥) → begins_signed (45 ∷ bs) ≡ true
minus_from [] e other = cc
minus_from (d ∷ ds) e other = grind (arith, common_steps)

signed_begins : (z : ℤ) → mag z < 2 ^ 31 → begins_signed (signed_decimal z) ≡ true
signed_begins (pos n) lt = signed_from (decimal n) (decimal_begins n (omega arith))
signed_begins (negsuc n) lt =
    minus_from (decimal (suc n)) (decimal_begins (suc n) (omega arith)) (λ e. absurd (omega (arith, first_decimal (suc n) (omega arith) (omega arith))))

-- a text that begins so is that of a number, or has one behind its minus
signed_first : (bs : List ℕ) → begins_signed bs ≡ true → (begins_number bs ≡ true) ⊎ ((ds : List ℕ) × (bs ≡ 45 ∷ ds) × (begins_number ds ≡ true) × (get_or ds 0 0 ≡ 48 → ⊥))
signed_first [] e = cc
signed_first (d ∷ []) e = inl e
signed_first (d ∷ e' ∷ ds) e = digits (or_cases (d == 45 && (nat_le 49 e' && nat_le e' 57)) (begins_number (d ∷ e' ∷ ds)) e)
  where
    digits : (d == 45 && (nat_le 49 e' && nat_le e' 57) ≡ true) ⊎ (begins_number (d ∷ e' ∷ ds) ≡ true) → (begins_number (d ∷ e' ∷ ds) ≡ true) ⊎ ((es : List ℕ) × (d ∷ e' ∷ ds ≡ 45 ∷ es) × (begins_number es ≡ true) × (get_or es 0 0 ≡ 48 → ⊥))
    digits (inr plain) = inl plain
    digits (inl minus) =
        let both : (d == 45 ≡ true) × (nat_le 49 e' && nat_le e' 57 ≡ true) = and_cases _ _ minus in
        let first : d == 45 ≡ true = both.0 in
        let is : d ≡ 45 = grind (arith, common_steps) in
        let range : (nat_le 49 e' ≡ true) × (nat_le e' 57 ≡ true) = and_cases _ _ both.1 in
        let low : 49 ≤ e' = leb-true _ _ range.0 in
        let high : e' ≤ 57 = leb-true _ _ range.1 in
        inr (e' ∷ ds, ap (λ x. x ∷ e' ∷ ds) is, number_from (e' ∷ ds) (omega arith) (omega arith) high (λ h. absurd (omega arith)), λ h. absurd (omega arith))

-- the text of a number below zero
minus_text : (v : ℕ) (ds : List ℕ) → decimal v ≡ ds → (get_or ds 0 0 ≡ 48 → ⊥) → 45 ∷ ds ≡ signed_decimal (neg_ℤ (pos v))
minus_text zero ds e other = absurd (other (rw (← e, decimal_digit 0 (omega arith)) refl))
minus_text (suc m) ds e other = ap (λ l. 45 ∷ l) (sym e)

plain_found : (E : Type 0) (bs : List ℕ) (z : ℤ) → begins_number bs ≡ true → ParsesSigned {E = E} w32 10 bs (Ok z) → bs ≡ signed_decimal z
plain_found E bs z begins parsed =
    let first = number_first bs begins in
    let at = parse_signed_plain own {E = E} w32 bs (Ok z) parsed (λ e. absurd (omega (arith, first.0))) (λ e. absurd (omega (arith, first.0))) in
    let e : decimal (digits_value 10 bs) ≡ bs = decimal-digits_value own bs at.0.0 at.0.1 first.2 (omega (arith, at.0.2)) in
    sym e ∙ ap signed_decimal (sym at.1)

minus_found : (E : Type 0) (ds : List ℕ) (z : ℤ) → begins_number ds ≡ true → (get_or ds 0 0 ≡ 48 → ⊥) → ParsesSigned {E = E} w32 10 (45 ∷ ds) (Ok z) → 45 ∷ ds ≡ signed_decimal z
minus_found E ds z begins other parsed =
    let first = number_first ds begins in
    let at = parse_signed_minus own {E = E} w32 (45 ∷ ds) (Ok z) parsed refl in
    let e : decimal (digits_value 10 ds) ≡ ds = decimal-digits_value own ds at.0.0 at.0.1 first.2 (omega (arith, at.0.2)) in
    minus_text (digits_value 10 ds) ds e other ∙ ap signed_decimal (sym at.1)

signed_found : (E : Type 0) (bs : List ℕ) (z : ℤ) → begins_signed bs ≡ true → ParsesSigned {E = E} w32 10 bs (Ok z) → FitsSigned w32 z × (bs ≡ signed_decimal z)
signed_found E bs z begins parsed = (
  subst (FitsSigned w32) (sym parsed.1) parsed.0.1,
  elim (signed_first bs begins) [
    | inl plain ↦ plain_found E bs z plain parsed
    | inr w ↦ rw w.1 (minus_found E w.0 z w.2 w.3 (rw w.1 at parsed))
  ],
)

pub signed_unlike : (bs : List ℕ) → begins_signed bs ≡ false → (z : ℤ) → FitsSigned w32 z → bs ≡ signed_decimal z → ⊥
signed_unlike bs other z fits e = let begins : begins_signed bs ≡ true = rw e (signed_begins z fits.sfits) in cc

pub signed_bytes : (bs : List ℕ) → ¬ (IsUtf8 bs) → (z : ℤ) → FitsSigned w32 z → bs ≡ signed_decimal z → ⊥
signed_bytes bs other z fits e =
    other (rw e (IsUtf8-from_ascii (signed_decimal z) (IsAscii-signed z (omega (arith, fits.sfits)))))

pub signed_read : {E : Type 0} (bs : List ℕ) (r : Result ℤ E) (o : Option ℤ) → begins_signed bs ≡ true → ParsesSigned w32 10 bs r → o ≡ result_ok r → IfSome o (λ z. FitsSigned w32 z × (bs ≡ signed_decimal z))
signed_read {E} bs (Ok z) o begins parsed e = rw e (signed_found E bs z begins parsed)
signed_read bs (Err x) o begins parsed e = rw e tt

pub signed_none : {E : Type 0} (bs : List ℕ) (r : Result ℤ E) (o : Option ℤ) → ParsesSigned w32 10 bs r → o ≡ result_ok r → IfNone o ((z : ℤ) → FitsSigned w32 z → bs ≡ signed_decimal z → ⊥)
signed_none bs (Ok z) o parsed e = rw e tt
signed_none bs (Err x) o parsed e =
    rw e (λ z fits same. let found : Err x ≡ Ok z = parse-signed_decimal w32 z bs (Err x) fits (omega (arith, fits.sfits)) same parsed in cc)

-- no value has an empty text
pub no_value : (bs : List ℕ) → length bs ≡ 0 → (v : SwitchValue) → IsValueText v bs → ⊥
no_value [] e (I32 z) (fits, at) = absurd (omega (arith, ap length at, length-append (signed_decimal z) (105 ∷ [])))
no_value [] e (U32 n) (lt, at) = absurd (omega (arith, ap length at, decimal_nonempty n (omega arith)))
no_value [] e Default at = cc
no_value (b ∷ bs) e v at = absurd (omega arith)

last_of : (xs ys : List ℕ) (a b : ℕ) → xs ++ a ∷ [] ≡ ys ++ b ∷ [] → (xs ≡ ys) × (a ≡ b)
last_of [] [] a b e = (refl, cc)
last_of [] (y ∷ []) a b e = cc
last_of [] (y ∷ z ∷ ys) a b e = cc
last_of (x ∷ []) [] a b e = cc
last_of (x ∷ w ∷ xs) [] a b e = cc
last_of (x ∷ xs) (y ∷ ys) a b e =
    let first : x ≡ y = cc in
    let rest : xs ++ a ∷ [] ≡ ys ++ b ∷ [] = cc in
    let both = last_of xs ys a b rest in
    (λ i. first i ∷ both.0 i, both.1)

digits_end : (ds : List ℕ) (xs : List ℕ) (c : ℕ) → AllDigits 10 ds → ds ≡ xs ++ c ∷ [] → 57 < c → ⊥
digits_end ds xs c digits e lt =
    let range = digit_at ds (length xs) digits (omega (arith, ap length e, length-append xs (c ∷ []))) in
    let at : get_or ds (length xs) 0 ≡ c = rw e (get_or-append_seam xs c [] 0) in
    omega (arith, range)

-- a text that ends with an `i`, where the rest is the text of no number
pub signed_value_none : (bs number : List ℕ) (last : ℕ) → bs ≡ number ++ last ∷ [] → last ≡ 105 → bytes_eq bs (codes "default") ≡ false → ((z : ℤ) → FitsSigned w32 z → number ≡ signed_decimal z → ⊥) → (v : SwitchValue) → IsValueText v bs → ⊥
signed_value_none bs number last e is other none (I32 z) (fits, at) =
    none z fits (last_of number (signed_decimal z) last 105 (sym e ∙ at)).0
signed_value_none bs number last e is other none (U32 n) (lt, at) =
    digits_end (decimal n) number last (digits_decimal own n (omega arith)) (sym at ∙ e) (omega arith)
signed_value_none bs number last e is other none Default at = let wrong : true ≡ false = rw at at other in cc

-- what holds where nothing was found, and nothing was made of it
pub none_too : {A B P Q : Type 0} (o : Option A) (r : Option B) → is_some r ≡ is_some o → IfNone o P → (P → Q) → IfNone r Q
none_too None None e p f = f p
none_too None (Some y) e p f = tt
none_too (Some x) None e p f = cc
none_too (Some x) (Some y) e p f = tt

-- how the text of a number begins
pub decimal_first : (n : ℕ) → n < 2 ^ 64 → (48 ≤ get_or (decimal n) 0 0) × (get_or (decimal n) 0 0 ≤ 57)
decimal_first n lt = let first = number_first (decimal n) (decimal_begins n lt) in (first.0, first.1)

-- no two values have one text
number_not_default : (n : ℕ) (bs : List ℕ) → n < 2 ^ 32 → decimal n ++ bs ≡ codes "default" → ⊥
number_not_default n bs lt e =
    let some = decimal_nonempty n (omega arith) in
    let first : get_or (decimal n) 0 0 ≡ 100 = sym (get_or-append (decimal n) bs 0 0 some) ∙ ap (λ l. get_or l 0 0) e in
    omega (arith, decimal_first n (omega arith), first)

minus_not_default : (bs : List ℕ) → 45 ∷ bs ≡ codes "default" → ⊥
minus_not_default bs e = cc

signed_not_default : (z : ℤ) → mag z < 2 ^ 31 → signed_decimal z ++ codes "i" ≡ codes "default" → ⊥
signed_not_default (pos n) lt e = number_not_default n (codes "i") (omega arith) e
signed_not_default (negsuc n) lt e = minus_not_default (decimal (suc n) ++ codes "i") e

unsigned_not_signed : (n : ℕ) (z : ℤ) → n < 2 ^ 32 → decimal n ≡ signed_decimal z ++ codes "i" → ⊥
unsigned_not_signed n z lt e = digits_end (decimal n) (signed_decimal z) 105 (digits_decimal own n (omega arith)) e (omega arith)

pub one_value : (v u : SwitchValue) (w : List ℕ) → IsValueText v w → IsValueText u w → v ≡ u
one_value (I32 z) (I32 y) w (fits, e) (fits', e') =
    ap I32 (signed_decimal_injective z y (omega (arith, fits.sfits)) (omega (arith, fits'.sfits)) (last_of (signed_decimal z) (signed_decimal y) 105 105 (sym e ∙ e')).0)
one_value (I32 z) (U32 n) w (fits, e) (lt, e') = absurd (unsigned_not_signed n z lt (sym e' ∙ e))
one_value (I32 z) Default w (fits, e) e' = absurd (signed_not_default z fits.sfits (sym e ∙ e'))
one_value (U32 n) (I32 z) w (lt, e') (fits, e) = absurd (unsigned_not_signed n z lt (sym e' ∙ e))
one_value (U32 n) (U32 m) w (lt, e) (lt', e') =
    ap U32 (decimal_injective n m (omega arith) (omega arith) (sym e ∙ e'))
one_value (U32 n) Default w (lt, e) e' = absurd (number_not_default n [] lt (append-nil (decimal n) ∙ sym e ∙ e'))
one_value Default (I32 z) w e' (fits, e) = absurd (signed_not_default z fits.sfits (sym e ∙ e'))
one_value Default (U32 n) w e' (lt, e) = absurd (number_not_default n [] lt (append-nil (decimal n) ∙ sym e ∙ e'))
one_value Default Default w e e' = refl

-- a number that is read digit by digit
pub digit_worth : (c : ℕ) → 48 ≤ c → c ≤ 57 → (digit_value c < 10) × (digit_value c ≡ c - 48)
digit_worth c low high =
    let e = digit_value_digit c (low, high) in (omega (arith, e), omega (arith, e))

some_digit : (bs : List ℕ) → begins_number bs ≡ true → 0 < length bs
some_digit [] e = cc
some_digit (d ∷ ds) e = omega arith

pub digits_read : (bs : List ℕ) (i : ℕ) → length bs ≤ i → begins_number bs ≡ true → AllDigits 10 (take i bs) → digits_value 10 (take i bs) < 2 ^ 32 → bs ≡ decimal (digits_value 10 (take i bs))
digits_read bs i le begins digits lt =
    let whole : take i bs ≡ bs = take_all i bs le in
    let first = number_first bs begins in
    rw whole (sym (decimal-digits_value own bs (rw whole at digits) (some_digit bs begins) first.2 (omega (arith, rw whole at lt))))

pub no_digit : (bs : List ℕ) (i : ℕ) → i < length bs → (48 ≤ get_or bs i 0 → get_or bs i 0 ≤ 57 → ⊥) → (n : ℕ) → n < 2 ^ 32 → bs ≡ decimal n → ⊥
no_digit bs i lt other n low e =
    let digits : AllDigits 10 bs = rw e (digits_decimal own n (omega arith)) in
    let range = digit_at bs i digits lt in
    other range.0 range.1

pub too_great : (bs : List ℕ) (i : ℕ) → 2 ^ 32 ≤ digits_value 10 (take i bs) → (n : ℕ) → n < 2 ^ 32 → bs ≡ decimal n → ⊥
too_great bs i great n low e =
    let all : digits_value 10 bs ≡ n = ap (digits_value 10) e ∙ digits_value-decimal own n (omega arith) in
    let part : digits_value 10 (take i bs) ≤ digits_value 10 bs = digits_value-take-le 10 bs i (omega arith) in
    omega (arith, great, low, all, part)
