-- The check list of Switch.
use Rattle.std.specs.Prelude.{ℕ, Bool, true, false, not, ◌==◌, List, [], ◌∷◌, ◌++◌, Option, Some}
use Rattle.std.specs.List.{list_any}
use Rattle.std.specs.Ordering.{int_eq}
use Rattle.ir_statements.specs.Tree.{Cases, NoCase, OneCase}
use Rattle.ir_statements.specs.declared.operations.SwitchValue.{SwitchValue}
use Rattle.ir_statements.specs.declared.operations.SwitchValue.TheVariants.{I32, U32, Default}
use Rattle.ir_leaves.specs.declared.scalars.ScalarKind.{ScalarKind}
use Rattle.ir_leaves.specs.declared.scalars.ScalarKind.TheVariants as kind
use Rattle.ir_errors.specs.declared.function.FunctionError.{FunctionError}
use Rattle.ir_errors.specs.declared.function.FunctionError.TheVariants.{InvalidSwitchType, ConflictingSwitchCase, ConflictingCaseType, MissingDefaultCase, MultipleDefaultCases, LastCaseFallTrough}
use Rattle.naga_runs.specs.Visits.{VisitPlace}
use Rattle.check_scope.specs.Context.{Context}
use Rattle.check_scope.specs.ScopePoints.{Points, use_point}
use Rattle.check_scope.specs.ExpressionTypes.{is_integer_kind, scalar_kind_at}

-- a case value of the selector's signedness
abbrev pub has_signedness_of : Option ScalarKind → SwitchValue → Bool
has_signedness_of (Some kind.Sint) (I32 n) = true
has_signedness_of (Some kind.Uint) (U32 n) = true
has_signedness_of _ Default = true
has_signedness_of _ _ = false

abbrev pub same_value : SwitchValue → SwitchValue → Bool
same_value (I32 m) (I32 n) = int_eq m n
same_value (U32 m) (U32 n) = m == n
same_value Default Default = true
same_value _ _ = false

-- the fault of a value that an earlier case has
abbrev pub repeated_fault : SwitchValue → FunctionError
repeated_fault Default = MultipleDefaultCases
repeated_fault v = ConflictingSwitchCase v

-- each case value in order: its signedness, and that no earlier case has it
abbrev pub value_points : Option ScalarKind → List SwitchValue → List SwitchValue → Points
value_points selector earlier [] = []
value_points selector earlier (v ∷ later) =
    (has_signedness_of selector v, ConflictingCaseType)
    ∷ (not (list_any (same_value v) earlier), repeated_fault v)
    ∷ value_points selector (earlier ++ v ∷ []) later

abbrev pub values_of : Cases → List SwitchValue
values_of NoCase = []
values_of (OneCase v falls_through body rest) = v ∷ values_of rest

abbrev pub is_default : SwitchValue → Bool
is_default Default = true
is_default _ = false

-- whether the last case falls through
abbrev pub last_falls_through : Cases → Bool
last_falls_through NoCase = false
last_falls_through (OneCase v falls_through body NoCase) = falls_through
last_falls_through (OneCase v falls_through body (OneCase w next_falls next rest)) =
    last_falls_through (OneCase w next_falls next rest)

-- Switch: its selector, an integer; each case value; one case is the default, and the last does not fall through
abbrev pub switch_points : Context → VisitPlace → ℕ → Cases → Points
switch_points context place h cases =
    use_point place h
    ∷ (is_integer_kind (scalar_kind_at context h), InvalidSwitchType h)
    ∷ value_points (scalar_kind_at context h) [] (values_of cases)
    ++ (list_any is_default (values_of cases), MissingDefaultCase)
    ∷ (not (last_falls_through cases), LastCaseFallTrough)
    ∷ []
