-- Lists: what a fact about all of a list says of its parts, and reading at a place; then lists of handles and of cases.
use Rattle.std.proofs.Common.{◌≡◌, ℕ, zero, suc, ◌+◌, ◌-◌, ◌<◌, ◌≤◌, ◌==◌, Bool, true, false, not, ◌||◌, Option, Some, None, List, [], ◌∷◌, ◌++◌, slice_get, length, refl, sym, ap, ◌∙◌, arith, add-zero}
use Rattle.std.proofs.lemmas.Bool.Decides.{nat_tests}
use Rattle.std.proofs.lemmas.List.Elements.{All-contains, All-from_recursion}
use Rattle.std.specs.List.{list_any, AllByRecursion}
use Rattle.std.specs.Prelude.{Contains, take, if◌then◌else◌}
use Rattle.ir_statements.specs.declared.statements.SwitchCase.{SwitchCase, out-SwitchCase}
use Rattle.ir_statements.specs.declared.operations.SwitchValue.{SwitchValue}
use Rattle.ir_arena.specs.Points.{Point, within}
use Rattle.naga_runs.specs.Handles.{Handles, with_handle}
use Rattle.ir_statements.specs.View.{list_cases}
use Rattle.naga_runs.specs.Visits.{VisitPlace}
use Rattle.check_scope.specs.BodyTrees.{case_list}
use Rattle.check_scope.specs.Context.{Context}
use Rattle.check_scope.specs.ScopePoints.{Points, use_point}
use Rattle.check_scope.specs.ExpressionTypes.{is_integer_kind, scalar_kind_at}
use Rattle.ir_errors.specs.declared.function.FunctionError.TheVariants.{InvalidSwitchType, MissingDefaultCase, LastCaseFallTrough}
use Rattle.check_scope.specs.walk.Table.{with_all}
use Rattle.check_flow.specs.walk.Emitted.{handles_from, handles_between}
use Rattle.check_flow.specs.Switch.{is_default, value_points, switch_points, values_of, last_falls_through}

-- what holds of all of two lists holds of each of them, and of each item
module _ {A : Type 0} (P : A → Type 0) where
  pub in_first : (xs ys : List A) → AllByRecursion P (xs ++ ys) → AllByRecursion P xs
  in_first [] ys a = tt
  in_first (x ∷ xs) ys a = (a.0, in_first xs ys a.1)

  pub in_second : (xs ys : List A) → AllByRecursion P (xs ++ ys) → AllByRecursion P ys
  in_second [] ys a = a
  in_second (x ∷ xs) ys a = in_second xs ys a.1

  pub of_each : (xs : List A) (x : A) → AllByRecursion P xs → Contains xs x → P x
  of_each xs x a c = All-contains P xs x (All-from_recursion P xs a) c

-- reading in front of a place; and that something stands at each place
module _ {A : Type 0} where
  pub taken : (xs : List A) (k f : ℕ) → f < k → slice_get (take k xs) f ≡ slice_get xs f
  taken [] zero f h = refl
  taken [] (suc k) f h = refl
  taken (x ∷ xs) zero f h = absurd (omega arith)
  taken (x ∷ xs) (suc k) zero h = refl
  taken (x ∷ xs) (suc k) (suc f) h = taken xs k f (omega arith)

  pub present : (xs : List A) (f : ℕ) → f < length xs → (x : A) × (slice_get xs f ≡ Some x)
  present [] f h = absurd (omega arith)
  present (x ∷ xs) zero h = (x, refl)
  present (x ∷ xs) (suc f) h = present xs f (omega arith)

-- the values of cases
pub any_value : (f : SwitchValue → Bool) (cs : List SwitchCase) → list_any f (values_of (case_list cs)) ≡ list_any (λ c. f (out-SwitchCase c).value) cs
any_value f [] = refl
any_value f (c ∷ cs) = ap (λ b. f (out-SwitchCase c).value || b) (any_value f cs)

abbrev pub falls_through : Option SwitchCase → Bool
falls_through None = false
falls_through (Some c) = (out-SwitchCase c).fall_through

pub last_case : (cs : List SwitchCase) → last_falls_through (case_list cs) ≡ falls_through (slice_get cs (length cs - 1))
last_case [] = refl
last_case (c ∷ []) = refl
last_case (c ∷ d ∷ cs) =
    let this : suc (length cs) - 1 ≡ length cs = omega arith in
    let more : suc (suc (length cs)) - 1 ≡ suc (length cs) = omega arith in
    last_case (d ∷ cs)
    ∙ ap (λ k. falls_through (slice_get (d ∷ cs) k)) this
    ∙ sym (ap (λ k. falls_through (slice_get (c ∷ d ∷ cs) k)) more)

-- the points of a Switch read the values of its cases, and not what the bodies emit
module _ (f g : ℕ → List ℕ) where
  same_values : (cs : List SwitchCase) → values_of (list_cases f cs) ≡ values_of (list_cases g cs)
  same_values [] = refl
  same_values (c ∷ cs) = ap (λ l. (out-SwitchCase c).value ∷ l) (same_values cs)

  same_last : (cs : List SwitchCase) → last_falls_through (list_cases f cs) ≡ last_falls_through (list_cases g cs)
  same_last [] = refl
  same_last (c ∷ []) = refl
  same_last (c ∷ d ∷ cs) = same_last (d ∷ cs)

  pub same_switch : (context : Context) (place : VisitPlace) (h : ℕ) (cs : List SwitchCase) → switch_points context place h (list_cases f cs) ≡ switch_points context place h (list_cases g cs)
  same_switch context place h cs =
      let points : List SwitchValue → Bool → Points = λ values last.
      use_point place h
      ∷ (is_integer_kind (scalar_kind_at context h), InvalidSwitchType h)
      ∷ value_points (scalar_kind_at context h) [] values
      ++ (list_any is_default values, MissingDefaultCase)
      ∷ (not last, LastCaseFallTrough)
      ∷ []
      in
      λ i. points (same_values cs i) (same_last cs i)

-- handles below one change nothing at it
below_from : (first n h : ℕ) (s : Handles) → first + n ≤ h → with_all s (handles_from first n) h ≡ s h
below_from first zero h s le = refl
below_from first (suc n) h s le =
    let other : (first == h) ≡ false = grind (arith, nat_tests) in
    below_from (suc first) n h (with_handle s first) (omega arith) ∙ ap (λ b. if b then true else s h) other

-- what is in scope after the handles before h, at h
pub in_scope_before : (s : Handles) (start h : ℕ) → start ≤ h → with_all s (handles_between start h) h ≡ s h
in_scope_before s start h le = below_from start (h - start) h s (omega arith)

from_more : (first n : ℕ) → handles_from first (suc n) ≡ handles_from first n ++ ((first + n) ∷ [])
from_more first zero = ap (λ x. x ∷ []) (sym (add-zero first))
from_more first (suc n) =
    let same : suc first + n ≡ first + suc n = omega arith in
    ap (λ l. first ∷ l) (from_more (suc first) n ∙ ap (λ x. handles_from (suc first) n ++ (x ∷ [])) same)

pub between_more : (start h : ℕ) → start ≤ h → handles_between start (h + 1) ≡ handles_between start h ++ (h ∷ [])
between_more start h le =
    let count : (h + 1) - start ≡ suc (h - start) = omega arith in
    let last : start + (h - start) ≡ h = omega arith in
    ap (handles_from start) count ∙ from_more start (h - start) ∙ ap (λ x. handles_from start (h - start) ++ (x ∷ [])) last

pub between_end : (start h end : ℕ) → start ≤ h → end ≤ h → (end ≤ start → h ≡ start) → (start ≤ end → h ≤ end) → handles_between start h ≡ handles_between start end
between_end start h end le below stays bound =
    let count : h - start ≡ end - start = grind arith in ap (handles_from start) count

-- where points stand inside others' faults, some and then others
pub within-append : {Inner Outer : Type 0} (outer : Inner → Outer) (ps qs : List (Point Inner)) → within outer (ps ++ qs) ≡ within outer ps ++ within outer qs
within-append outer [] qs = refl
within-append outer (p ∷ ps) qs = ap (λ l. (p.0, outer p.1) ∷ l) (within-append outer ps qs)
