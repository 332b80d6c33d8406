-- The check lists of If, Return, Break and Continue, and of a break condition.
use Rattle.std.specs.Prelude.{ℕ, Bool, false, [], ◌∷◌, Option, None, Some, is_none}
use Rattle.std.specs.Option.{option_map}
use Rattle.ir_types.specs.declared.types.TypeInner.{TypeInner}
use Rattle.ir_types.specs.declared.types.TypeInner.TheVariants as inner
use Rattle.ir_types.specs.declared.typifier.TypeResolution.TheVariants.{Handle}
use Rattle.ir_errors.specs.declared.function.FunctionError.TheVariants.{BreakOutsideOfLoopOrSwitch, ContinueOutsideOfLoop, InvalidReturnSpot, InvalidReturnType, InvalidIfType}
use Rattle.naga_runs.specs.Visits.{VisitPlace}
use Rattle.check_scope.specs.Context.{Context}
use Rattle.check_scope.specs.ScopePoints.{Points, use_point}
use Rattle.check_scope.specs.ExpressionTypes.{is_bool_kind, is_of_type, type_at}

-- a boolean of any width, and no vector
abbrev pub is_bool_scalar : Option TypeInner → Bool
is_bool_scalar (Some (inner.Scalar s)) = is_bool_kind s.kind
is_bool_scalar _ = false

-- If, and the break condition of a Loop: a boolean that every run has put
abbrev pub condition_points : Context → VisitPlace → ℕ → Points
condition_points context place h =
    use_point place h ∷ (is_bool_scalar (type_at context h), InvalidIfType h) ∷ []

-- the break condition of a Loop, if it has one
abbrev pub break_if_points : Context → VisitPlace → Option ℕ → Points
break_if_points context place None = []
break_if_points context place (Some h) = condition_points context place h

-- the type that the function's result is declared with
abbrev pub declared_type : Context → Option ℕ
declared_type context = option_map (λ r. r.ty) context.fun.result

-- whether a value is of the type that is declared
abbrev pub is_returned_as : Context → ℕ → Option ℕ → Bool
is_returned_as context h None = false
is_returned_as context h (Some declared) = is_of_type context h (Handle declared)

-- Return: allowed here; the value, if there is one, put by every run and of the declared type; and none where none is
-- declared
abbrev pub return_points : Context → VisitPlace → Option ℕ → Points
return_points context place None =
    (place.abilities.can_return, InvalidReturnSpot)
    ∷ (is_none (declared_type context), InvalidReturnType None (declared_type context))
    ∷ []
return_points context place (Some h) =
    (place.abilities.can_return, InvalidReturnSpot)
    ∷ use_point place h
    ∷ (is_returned_as context h (declared_type context), InvalidReturnType (Some h) (declared_type context))
    ∷ []

-- Break: allowed here
abbrev pub break_points : VisitPlace → Points
break_points place = (place.abilities.can_break, BreakOutsideOfLoopOrSwitch) ∷ []

-- Continue: allowed here
abbrev pub continue_points : VisitPlace → Points
continue_points place = (place.abilities.can_continue, ContinueOutsideOfLoop) ∷ []
