-- Parts of the check list of Switch, as the code checks them: work of lemmas, cited by functions that the validator alone calls.
use Rattle.std.specs.Prelude.{ℕ, ℤ, pos, int_le, true, not, Option, None, Some, [], ◌∷◌, if◌then◌else◌}
use Rattle.std.specs.List.{list_any}
use Rattle.ir_statements.specs.Tree.{Cases}
use Rattle.ir_statements.specs.declared.operations.SwitchValue.{SwitchValue}
use Rattle.ir_statements.specs.declared.operations.SwitchValue.TheVariants.{I32, U32, Default}
use Rattle.ir_errors.specs.declared.function.FunctionError.TheVariants.{InvalidSwitchType, MissingDefaultCase, LastCaseFallTrough}
use Rattle.naga_runs.specs.Visits.{VisitPlace}
use Rattle.check_scope.specs.Context.{Context}
use Rattle.check_flow.specs.Switch.{is_default, values_of, last_falls_through}
use Rattle.check_scope.specs.ScopePoints.{Points, use_point}
use Rattle.check_flow.specs.declared.switch.Rising.{Rising}
use Rattle.check_scope.specs.ExpressionTypes.{is_integer_kind, scalar_kind_at}

-- the selector
abbrev pub selector_points : Context → VisitPlace → ℕ → Points
selector_points context place h =
    use_point place h ∷ (is_integer_kind (scalar_kind_at context h), InvalidSwitchType h) ∷ []

-- the cases as a whole
abbrev pub cases_points : Cases → Points
cases_points cases =
    (list_any is_default (values_of cases), MissingDefaultCase)
    ∷ (not (last_falls_through cases), LastCaseFallTrough)
    ∷ []

-- what is known after a value, if its number is above those before it, or it is the first default
abbrev pub risen_to : Rising → ℤ → Option Rising
risen_to so_far n =
    if int_le n so_far.last then None else Some (record { last = n; has_default = so_far.has_default })

abbrev pub risen : Rising → SwitchValue → Option Rising
risen so_far (I32 n) = risen_to so_far n
risen so_far (U32 n) = risen_to so_far (pos n)
risen so_far Default =
    if so_far.has_default then None else Some (record { last = so_far.last; has_default = true })
