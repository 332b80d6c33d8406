-- Case values whose numbers rise: none stands twice.
use Rattle.std.proofs.Common.{◌≡◌, ◌≤ℤ◌, ◌<ℤ◌, ℕ, ℤ, pos, int_le, ◌+◌, ◌<◌, ◌==◌, Bool, true, false, ◌||◌, None, Some, List, [], ◌∷◌, ◌++◌, length, take, get_or, refl, sym, ap, ◌∙◌, subst, arith}
use Rattle.std.proofs.lemmas.Bool.Decides.{nat_tests, Decides-int_eq}
use Rattle.std.proofs.lemmas.Int.{ints}
use Rattle.std.specs.List.{list_any, AllByRecursion}
use Rattle.std.specs.Ordering.{int_eq}
use Rattle.std.specs.Prelude.{if◌then◌else◌}
use Rattle.ir_statements.specs.declared.statements.SwitchCase.{SwitchCase, out-SwitchCase}
use Rattle.ir_statements.specs.declared.operations.SwitchValue.{SwitchValue}
use Rattle.ir_statements.specs.declared.operations.SwitchValue.TheVariants.{I32, U32, Default}
use Rattle.check_flow.specs.declared.switch.Rising.{Rising}
use Rattle.check_scope.specs.BodyTrees.{case_list}
use Rattle.check_flow.specs.Switch.{same_value, values_of}
use Rattle.check_flow.specs.walk.SwitchParts.{risen, risen_to}
use Rattle.check_flow.proofs.Values.{earlier}

-- the number of a value is not above the last one, or it is the default, and there was one
abbrev pub IsBelow : Rising → SwitchValue → Type 0
IsBelow so_far (I32 n) = n ≤ℤ so_far.last
IsBelow so_far (U32 n) = pos n ≤ℤ so_far.last
IsBelow so_far Default = so_far.has_default ≡ true

abbrev pub AreBelow : Rising → List SwitchValue → Type 0
AreBelow so_far values = AllByRecursion (IsBelow so_far) values

-- where a number is risen to
above : (s t : Rising) (n : ℤ) → risen_to s n ≡ Some t → (s.last <ℤ n) × (t ≡ record { last = n; has_default = s.has_default })
above s t n e = by (int_le n s.last) refl e
  where
    by : (b : Bool) → int_le n s.last ≡ b → (if b then None else Some (record { last = n; has_default = s.has_default })) ≡ Some t → (s.last <ℤ n) × (t ≡ record { last = n; has_default = s.has_default })
    by true is f = cc
    by false is f = (omega (arith, ints), cc)

-- and a first default
first : (s t : Rising) → risen s Default ≡ Some t → (s.has_default ≡ false) × (t ≡ record { last = s.last; has_default = true })
first s t e = by s.has_default refl e
  where
    by : (b : Bool) → s.has_default ≡ b → (if b then None else Some (record { last = s.last; has_default = true })) ≡ Some t → (s.has_default ≡ false) × (t ≡ record { last = s.last; has_default = true })
    by true is f = cc
    by false is f = (is, cc)

not_same : (m n last : ℤ) → last <ℤ m → n ≤ℤ last → int_eq m n ≡ false
not_same m n last new below = by (int_eq m n) refl
  where
    by : (b : Bool) → int_eq m n ≡ b → int_eq m n ≡ false
    by true is = absurd (let same : m ≡ n = (Decides-int_eq m n).0 is in omega (arith, ints))
    by false is = is

not_equal : (m n : ℕ) (last : ℤ) → last <ℤ pos m → pos n ≤ℤ last → (m == n) ≡ false
not_equal m n last new below = by (m == n) refl
  where
    by : (b : Bool) → (m == n) ≡ b → (m == n) ≡ false
    by true is = absurd (let same : m ≡ n = grind (arith, nat_tests) in omega (arith, ints))
    by false is = is

module _ (s t : Rising) where
  -- none of those before is the same
  unlike : (v w : SwitchValue) → risen s v ≡ Some t → IsBelow s w → same_value v w ≡ false
  unlike (I32 m) (I32 n) e below = not_same m n s.last (above s t m e).0 below
  unlike (U32 m) (U32 n) e below = not_equal m n s.last (above s t (pos m) e).0 below
  unlike Default Default e below = absurd (let no = (first s t e).0 in cc)
  unlike (I32 m) (U32 n) e below = refl
  unlike (I32 m) Default e below = refl
  unlike (U32 m) (I32 n) e below = refl
  unlike (U32 m) Default e below = refl
  unlike Default (I32 n) e below = refl
  unlike Default (U32 n) e below = refl

  -- they stay below, and so is the value itself
  to_number : (n : ℤ) (w : SwitchValue) → s.last <ℤ n → IsBelow s w → IsBelow (record { last = n; has_default = s.has_default }) w
  to_number n (I32 m) new below = omega (arith, ints)
  to_number n (U32 m) new below = omega (arith, ints)
  to_number n Default new below = below

  to_default : (w : SwitchValue) → IsBelow s w → IsBelow (record { last = s.last; has_default = true }) w
  to_default (I32 m) below = below
  to_default (U32 m) below = below
  to_default Default below = refl

  stays : (v w : SwitchValue) → risen s v ≡ Some t → IsBelow s w → IsBelow t w
  stays (I32 n) w e below = let up = above s t n e in subst (λ r. IsBelow r w) (sym up.1) (to_number n w up.0 below)
  stays (U32 n) w e below = let up = above s t (pos n) e in subst (λ r. IsBelow r w) (sym up.1) (to_number (pos n) w up.0 below)
  stays Default w e below = let one = first s t e in subst (λ r. IsBelow r w) (sym one.1) (to_default w below)

  itself : (v : SwitchValue) → risen s v ≡ Some t → IsBelow t v
  itself (I32 n) e = let up = above s t n e in subst (λ r. n ≤ℤ r.last) (sym up.1) (omega (arith, ints))
  itself (U32 n) e = let up = above s t (pos n) e in subst (λ r. pos n ≤ℤ r.last) (sym up.1) (omega (arith, ints))
  itself Default e = let one = first s t e in subst (λ r. r.has_default ≡ true) (sym one.1) refl

  pub new_behind : (v : SwitchValue) (vs : List SwitchValue) → risen s v ≡ Some t → AreBelow s vs → list_any (same_value v) vs ≡ false
  new_behind v [] e below = refl
  new_behind v (w ∷ ws) e below =
      ap (λ b. b || list_any (same_value v) ws) (unlike v w e below.0) ∙ new_behind v ws e below.1

  with_itself : (v : SwitchValue) (vs : List SwitchValue) → risen s v ≡ Some t → AreBelow s vs → AreBelow t (vs ++ (v ∷ []))
  with_itself v [] e below = (itself v e, tt)
  with_itself v (w ∷ ws) e below = (stays v w e below.0, with_itself v ws e below.1)

  -- one case more
  pub below_more : (cs : List SwitchCase) (i : ℕ) (c : SwitchCase) → i < length cs → c ≡ get_or cs i c → risen s (out-SwitchCase c).value ≡ Some t →
      AreBelow s (values_of (case_list (take i cs))) → AreBelow t (values_of (case_list (take (i + 1) cs)))
  below_more cs i c lt is e below =
      subst (AreBelow t) (sym (earlier cs i c lt is)) (with_itself (out-SwitchCase c).value (values_of (case_list (take i cs))) e below)
