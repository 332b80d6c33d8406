-- The expressions of a function and their types, as the check lists ask for them.
use Rattle.std.specs.Prelude.{ℕ, Bool, true, false, List, Option, None, Some, slice_get, option_and_then, unwrap_or}
use Rattle.ir_types.specs.Types.{bool_scalar, resolved, scalar_kind_of}
use Rattle.ir_types.specs.TypeTests.{is_same_type}
use Rattle.ir_module.specs.declared.expressions.Expression.{Expression}
use Rattle.ir_leaves.specs.declared.scalars.ScalarKind.{ScalarKind}
use Rattle.ir_leaves.specs.declared.scalars.ScalarKind.TheVariants as kind
use Rattle.ir_types.specs.declared.types.Type.{«Type» as IrType}
use Rattle.ir_types.specs.declared.types.TypeInner.{TypeInner}
use Rattle.ir_types.specs.declared.types.TypeInner.TheVariants.{Scalar}
use Rattle.ir_types.specs.declared.typifier.TypeResolution.{TypeResolution}
use Rattle.check_scope.specs.Context.{Context}

-- the expression at a handle, and its type
abbrev pub expression_at : Context → ℕ → Option Expression
expression_at context h = slice_get context.fun.expressions h

abbrev pub resolution_at : Context → ℕ → Option TypeResolution
resolution_at context h = slice_get context.info.expression_types h

abbrev pub type_at : Context → ℕ → Option TypeInner
type_at context h = option_and_then (resolved context.program.types) (resolution_at context h)

-- whether an expression is of this type
abbrev pub is_given_as : List IrType → Option TypeResolution → TypeResolution → Bool
is_given_as types None ty = false
is_given_as types (Some given) ty = is_same_type types given ty

abbrev pub is_of_type : Context → ℕ → TypeResolution → Bool
is_of_type context h ty = is_given_as context.program.types (resolution_at context h) ty

-- a type as a fault names it; the conditions of a validation say that there is one
abbrev pub named_type : Option TypeInner → TypeInner
named_type ty = unwrap_or ty (Scalar bool_scalar)

abbrev pub named_type_at : Context → ℕ → TypeInner
named_type_at context h = named_type (type_at context h)

abbrev pub scalar_kind_at : Context → ℕ → Option ScalarKind
scalar_kind_at context h = option_and_then scalar_kind_of (type_at context h)

-- integers of either sign
abbrev pub is_integer_kind : Option ScalarKind → Bool
is_integer_kind (Some kind.Uint) = true
is_integer_kind (Some kind.Sint) = true
is_integer_kind _ = false

abbrev pub is_bool_kind : ScalarKind → Bool
is_bool_kind kind.Bool = true
is_bool_kind _ = false
