-- The values of a Switch's cases: the set of earlier ones, as the code keeps it.
use Rattle.std.proofs.Common.{◌≡◌, ℕ, ◌+◌, ◌<◌, ◌==◌, Bool, true, false, not, Option, Some, List, [], ◌∷◌, ◌++◌, cond, length, take, drop, get_or, refl, sym, ap, ◌∙◌, arith, int_eq, ℤ}
use Rattle.std.specs.Ordering.{int_cmp, nat_cmp, is_eq}
use Rattle.std.proofs.lemmas.Bool.Decides.{nat_tests}
use Rattle.std.proofs.lemmas.List.{at_drop_more, take_more}
use Rattle.std.specs.List.{list_any}
use Rattle.ir_statements.specs.contracts.operations.SwitchValueOrd.TheImpl as value_order
use Rattle.ir_statements.specs.declared.statements.SwitchCase.{SwitchCase, out-SwitchCase}
use Rattle.ir_statements.specs.declared.operations.SwitchValue.{SwitchValue}
use Rattle.ir_statements.specs.declared.operations.SwitchValue.TheVariants.{I32, U32, Default}
use Rattle.ir_arena.specs.Points.{first_fault}
use Rattle.check_scope.specs.BodyTrees.{case_list}
use Rattle.ir_leaves.specs.declared.scalars.ScalarKind.{ScalarKind}
use Rattle.ir_errors.specs.declared.function.FunctionError.{FunctionError}
use Rattle.ir_errors.specs.declared.function.FunctionError.TheVariants.{ConflictingCaseType}
use Rattle.check_flow.specs.Switch.{same_value, value_points, values_of, has_signedness_of, repeated_fault}

nats_by_order : (m n : ℕ) → is_eq (nat_cmp m n) ≡ (m == n)
nats_by_order m n = grind (arith, nat_tests)

ints_by_order : (m n : ℤ) → is_eq (int_cmp m n) ≡ int_eq m n
ints_by_order m n = refl

pub same_by_order : (v w : SwitchValue) → is_eq ((value_order.ghosts).cmp v w) ≡ same_value v w
same_by_order (I32 m) (I32 n) = ints_by_order m n
same_by_order (U32 m) (U32 n) = nats_by_order m n
same_by_order Default Default = refl
same_by_order _ _ = refl

-- what is new was not held
pub not_held : (new held : Bool) → new ≡ true → new ≡ not held → held ≡ false
not_held new false e f = refl
not_held new true e f = sym e ∙ f

values-append : (xs ys : List SwitchCase) → values_of (case_list (xs ++ ys)) ≡ values_of (case_list xs) ++ values_of (case_list ys)
values-append [] ys = refl
values-append (x ∷ xs) ys = ap (λ l. (out-SwitchCase x).value ∷ l) (values-append xs ys)

-- one case more
module _ (cs : List SwitchCase) (i : ℕ) (c : SwitchCase) (lt : i < length cs) (e : c ≡ get_or cs i c) where
  pub earlier : values_of (case_list (take (i + 1) cs)) ≡ values_of (case_list (take i cs)) ++ ((out-SwitchCase c).value ∷ [])
  earlier =
      ap (λ l. values_of (case_list l)) (take_more cs i c lt)
      ∙ ap (λ z. values_of (case_list (take i cs ++ (z ∷ [])))) (sym e)
      ∙ values-append (take i cs) (c ∷ [])

  pub values_turn : (ty : Option ScalarKind) → first_fault (value_points ty (values_of (case_list (take i cs))) (values_of (case_list (drop i cs))))
      ≡ cond (has_signedness_of ty (out-SwitchCase c).value) (cond (not (list_any (same_value (out-SwitchCase c).value) (values_of (case_list (take i cs))))) (first_fault (value_points ty (values_of (case_list (take (i + 1) cs))) (values_of (case_list (drop (i + 1) cs))))) (Some (repeated_fault (out-SwitchCase c).value))) (Some ConflictingCaseType)
  values_turn ty =
      at_drop_more (λ l. first_fault (value_points ty (values_of (case_list (take i cs))) (values_of (case_list l)))) cs i c lt
      ∙ ap (λ z. first_fault (value_points ty (values_of (case_list (take i cs))) (values_of (case_list (z ∷ drop (i + 1) cs))))) (sym e)
      ∙ ap (λ l. cond (has_signedness_of ty (out-SwitchCase c).value) (cond (not (list_any (same_value (out-SwitchCase c).value) (values_of (case_list (take i cs))))) (first_fault (value_points ty l (values_of (case_list (drop (i + 1) cs))))) (Some (repeated_fault (out-SwitchCase c).value))) (Some ConflictingCaseType)) (sym earlier)

  -- a value that passes, one of the wrong signedness, and one that an earlier case has
  abbrev rest : Option ScalarKind → Option FunctionError
  rest ty = first_fault (value_points ty (values_of (case_list (take (i + 1) cs))) (values_of (case_list (drop (i + 1) cs))))

  pub value_passes : (ty : Option ScalarKind) → has_signedness_of ty (out-SwitchCase c).value ≡ true → list_any (same_value (out-SwitchCase c).value) (values_of (case_list (take i cs))) ≡ false →
      first_fault (value_points ty (values_of (case_list (take i cs))) (values_of (case_list (drop i cs)))) ≡ rest ty
  value_passes ty signed new =
      values_turn ty
      ∙ ap (λ b. cond b (cond (not (list_any (same_value (out-SwitchCase c).value) (values_of (case_list (take i cs))))) (rest ty) (Some (repeated_fault (out-SwitchCase c).value))) (Some ConflictingCaseType)) signed
      ∙ ap (λ b. cond (not b) (rest ty) (Some (repeated_fault (out-SwitchCase c).value))) new
