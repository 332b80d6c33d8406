-- The check list of Call.
use Rattle.std.specs.Prelude.{ℕ, suc, Bool, false, not, ◌&&◌, ◌==◌, List, [], ◌∷◌, ◌++◌, Option, None, Some, is_some, length, slice_get}
use Rattle.ir_module.specs.declared.expressions.Expression.{Expression}
use Rattle.ir_module.specs.declared.expressions.Expression.TheVariants as e
use Rattle.ir_module.specs.declared.functions.Function.{Function}
use Rattle.ir_module.specs.declared.functions.FunctionArgument.{FunctionArgument}
use Rattle.ir_types.specs.declared.typifier.TypeResolution.{TypeResolution}
use Rattle.ir_types.specs.declared.typifier.TypeResolution.TheVariants.{Handle}
use Rattle.ir_errors.specs.declared.expression.ExpressionError.TheVariants.{NotInScope}
use Rattle.ir_errors.specs.declared.function.CallError.{CallError}
use Rattle.ir_errors.specs.declared.function.CallError.TheVariants.{Argument, ArgumentCount, ArgumentType, ExpressionMismatch, ResultAlreadyInScope, ResultAlreadyPopulated}
use Rattle.ir_errors.specs.declared.function.FunctionError.TheVariants.{InvalidCall}
use Rattle.naga_runs.specs.Handles.{Handles}
use Rattle.naga_runs.specs.Visits.{VisitPlace}
use Rattle.ir_arena.specs.Points.{Point, within}
use Rattle.check_scope.specs.Context.{Context}
use Rattle.check_scope.specs.ScopePoints.{Points, may_use, is_in_scope}
use Rattle.check_scope.specs.Results.{is_fresh}
use Rattle.ir_types.specs.TypeTests.{is_same_type}
use Rattle.check_scope.specs.ExpressionTypes.{expression_at, resolution_at}

abbrev pub CallPoints : Type 0
CallPoints = List (Point CallError)

-- what a function declares; the conditions of a validation say that it is there
abbrev pub arguments_of : Option Function → List FunctionArgument
arguments_of None = []
arguments_of (Some callee) = callee.arguments

abbrev pub has_result : Option Function → Bool
has_result None = false
has_result (Some callee) = is_some callee.result

abbrev pub is_passed_for : Context → ℕ → Option TypeResolution → Bool
is_passed_for context declared None = false
is_passed_for context declared (Some given) = is_same_type context.program.types (Handle declared) given

-- whether an expression is of the type that an argument is declared with
abbrev pub is_passed_as : Context → ℕ → ℕ → Bool
is_passed_as context given declared = is_passed_for context declared (resolution_at context given)

-- the argument of this index: put by every run, and of the declared type
abbrev pub passed_points : Context → VisitPlace → ℕ → ℕ → ℕ → CallPoints
passed_points context place index declared given =
    (may_use place given, Argument index NotInScope)
    ∷ (is_passed_as context given declared, ArgumentType index declared given)
    ∷ []

-- the arguments in order, the first of which has this index
abbrev pub passed_points_from : Context → VisitPlace → ℕ → List FunctionArgument → List ℕ → CallPoints
passed_points_from context place index (declared ∷ more) (given ∷ rest) =
    passed_points context place index declared.ty given ++ passed_points_from context place (suc index) more rest
passed_points_from context place index _ _ = []

-- as many arguments as are declared, and each of them
abbrev pub all_passed_points : Context → VisitPlace → List FunctionArgument → List ℕ → CallPoints
all_passed_points context place declared given =
    (length declared == length given, ArgumentCount (length declared) (length given))
    ∷ passed_points_from context place 0 declared given

abbrev pub is_call_result_of : ℕ → Option Expression → Bool
is_call_result_of f (Some (e.CallResult g)) = g == f
is_call_result_of f _ = false

-- a result: not in scope yet, of this function, which returns one, and fresh. Without one the function returns none
abbrev pub call_result_points : Context → Handles → VisitPlace → ℕ → Bool → Option ℕ → CallPoints
call_result_points context filled place f returns (Some r) =
    (not (is_in_scope place r), ResultAlreadyInScope r)
    ∷ (is_call_result_of f (expression_at context r) && returns, ExpressionMismatch (Some r))
    ∷ (is_fresh context filled r, ResultAlreadyPopulated r)
    ∷ []
call_result_points context filled place f returns None = (not returns, ExpressionMismatch None) ∷ []

-- what is asked of a call: its arguments, then its result
abbrev pub callee_points : Context → Handles → VisitPlace → ℕ → List ℕ → Option ℕ → CallPoints
callee_points context filled place f given result =
    let callee = slice_get context.program.functions f in
    all_passed_points context place (arguments_of callee) given
    ++ call_result_points context filled place f (has_result callee) result

-- Call: all that inside the fault of the function
abbrev pub call_points : Context → Handles → VisitPlace → ℕ → List ℕ → Option ℕ → Points
call_points context filled place f given result =
    within (InvalidCall f) (callee_points context filled place f given result)
