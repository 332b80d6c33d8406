-- The operators, derivatives and relational functions that `detail` stands for: the place in a list, from 0.
use Rattle.std.specs.Prelude.{ℕ, ◌/◌, ◌%◌, List, [], ◌∷◌, Option, None, Some, slice_get}
use Rattle.layer_forms.specs.declared.operators.UnaryOperator.{UnaryOperator}
use Rattle.layer_forms.specs.declared.operators.UnaryOperator.TheVariants as unary
use Rattle.layer_forms.specs.declared.operators.BinaryOperator.{BinaryOperator}
use Rattle.layer_forms.specs.declared.operators.BinaryOperator.TheVariants as binary
use Rattle.layer_forms.specs.declared.operators.RelationalFunction.{RelationalFunction}
use Rattle.layer_forms.specs.declared.operators.RelationalFunction.TheVariants as relational
use Rattle.layer_forms.specs.declared.operators.DerivativeAxis.{DerivativeAxis}
use Rattle.layer_forms.specs.declared.operators.DerivativeAxis.TheVariants as axis
use Rattle.layer_forms.specs.declared.operators.DerivativeControl.{DerivativeControl}
use Rattle.layer_forms.specs.declared.operators.DerivativeControl.TheVariants as control
use Rattle.layer_forms.specs.declared.operators.Derivative.{Derivative}

abbrev pub unary_operators : List UnaryOperator
unary_operators = unary.Negate ∷ unary.LogicalNot ∷ unary.BitwiseNot ∷ []

abbrev pub binary_operators : List BinaryOperator
binary_operators =
    binary.Add ∷ binary.Subtract ∷ binary.Multiply ∷ binary.Divide ∷ binary.Modulo
    ∷ binary.Equal ∷ binary.NotEqual ∷ binary.Less ∷ binary.LessEqual ∷ binary.Greater ∷ binary.GreaterEqual
    ∷ binary.And ∷ binary.ExclusiveOr ∷ binary.InclusiveOr ∷ binary.LogicalAnd ∷ binary.LogicalOr
    ∷ binary.ShiftLeft ∷ binary.ShiftRight ∷ []

abbrev pub relational_functions : List RelationalFunction
relational_functions = relational.All ∷ relational.Any ∷ relational.IsNan ∷ relational.IsInf ∷ []

abbrev pub axes : List DerivativeAxis
axes = axis.X ∷ axis.Y ∷ axis.Width ∷ []

abbrev pub controls : List DerivativeControl
controls = control.Coarse ∷ control.Fine ∷ control.None ∷ []

abbrev pub both_of : Option DerivativeAxis → Option DerivativeControl → Option Derivative
both_of (Some axis) (Some ctrl) = Some (record { axis = axis; ctrl = ctrl })
both_of _ _ = None

-- 3 times the axis, and the control
abbrev pub derivative_of : ℕ → Option Derivative
derivative_of detail = both_of (slice_get axes (detail / 3)) (slice_get controls (detail % 3))
