-- The type of each expression of a function, or of a module's global expressions.
use Rattle.std.specs.Prelude.{ℕ, Bool, true, false, ◌++◌, List, [], ◌∷◌, Option, None, Some, Result, Ok, Err, length, slice_get, if◌then◌else◌}
use Rattle.std.specs.Option.{option_map}
use Rattle.ir_module.specs.Operands.{listed_operands}
use Rattle.ir_module.specs.declared.expressions.Expression.{Expression}
use Rattle.ir_module.specs.declared.expressions.Expression.TheVariants as e
use Rattle.ir_module.specs.declared.functions.FunctionArgument.{FunctionArgument}
use Rattle.ir_module.specs.declared.functions.LocalVariable.{LocalVariable}
use Rattle.ir_module.specs.declared.module.Module.{Module}
use Rattle.ir_types.specs.declared.types.Type.{«Type» as IrType}
use Rattle.ir_types.specs.declared.types.TypeInner.{TypeInner}
use Rattle.ir_types.specs.declared.typifier.TypeResolution.{TypeResolution}
use Rattle.layer_forms.specs.Casts as casts
use Rattle.layer_forms.specs.MathForms.{functions, class_of}
use Rattle.layer_forms.specs.OperatorForms.{unary_operators, binary_operators, relational_functions, derivative_of}
use Rattle.layer_forms.specs.Vectors.{sizes, swizzle_of}
use Rattle.layer_expressions.specs.declared.operands.Arguments.{Arguments}
use Rattle.layer_expressions.specs.declared.rules.Rule.{Rule}
use Rattle.layer_expressions.specs.declared.rules.Rule.TheVariants as rule
use Rattle.layer_shapes.specs.declared.shapes.Shape.{Shape}
use Rattle.layer_expressions.specs.declared.types.Untyped.{Untyped}
use Rattle.layer_expressions.specs.Access.{access_type, access_index_type, loaded}
use Rattle.layer_expressions.specs.Loading.{load_type, query_type}
use Rattle.layer_expressions.specs.Math.{math_of}
use Rattle.layer_expressions.specs.Named.{callee_type, named_type}
use Rattle.layer_expressions.specs.OperandTypes.{arguments_of, type_of_operand}
use Rattle.layer_expressions.specs.Operators.{binary_of, cast_of, derived, related, selected, splat_of, swizzled, unary_of}
use Rattle.layer_expressions.specs.Others.{cooperative_load, length_type, multiply_add}
use Rattle.layer_expressions.specs.RuleNumbers.{or_broken}
use Rattle.layer_expressions.specs.Sampling.{sample_type}
use Rattle.layer_shapes.specs.Shapes.{value_of}

-- what a kind gives whose operands have these shapes: by what `detail` stands for
abbrev pub computed : Expression → Arguments → Result (Option Shape) Rule
computed (e.Splat d hs) given = or_broken rule.Detail (option_map (λ n. splat_of n given) (slice_get sizes d))
computed (e.Swizzle d hs) given = or_broken rule.Detail (option_map (λ w. swizzled w given) (swizzle_of d))
computed (e.Unary d hs) given = or_broken rule.Detail (option_map (λ o. unary_of o given) (slice_get unary_operators d))
computed (e.Binary d hs) given = or_broken rule.Detail (option_map (λ o. binary_of o given) (slice_get binary_operators d))
computed (e.Select d hs) given = Ok (selected given)
computed (e.Derivative d hs) given = or_broken rule.Detail (option_map (λ o. derived given) (derivative_of d))
computed (e.Relational d hs) given = or_broken rule.Detail (option_map (λ f. related f given) (slice_get relational_functions d))
computed (e.Math d hs) given = or_broken rule.Detail (option_map (λ f. math_of (class_of f) given) (slice_get functions d))
computed (e.As d hs) given = or_broken rule.Detail (option_map (λ c. cast_of c given) (casts.cast_of d))
computed (e.Literal l) given = Ok None
computed (e.Constant h) given = Ok None
computed (e.Override h) given = Ok None
computed (e.ZeroValue t) given = Ok None
computed (e.Compose t hs) given = Ok None
computed (e.Access base index) given = Ok None
computed (e.AccessIndex base k) given = Ok None
computed (e.FunctionArgument n) given = Ok None
computed (e.GlobalVariable h) given = Ok None
computed (e.LocalVariable h) given = Ok None
computed (e.Load pointer) given = Ok None
computed (e.CallResult f) given = Ok None
computed (e.AtomicResult t c) given = Ok None
computed (e.WorkGroupUniformLoadResult t) given = Ok None
computed e.RayQueryProceedResult given = Ok None
computed e.SubgroupBallotResult given = Ok None
computed (e.SubgroupOperationResult t) given = Ok None
computed (e.ImageSample d hs) given = Ok None
computed (e.ImageLoad d hs) given = Ok None
computed (e.ImageQuery d hs) given = Ok None
computed (e.ArrayLength d hs) given = Ok None
computed (e.RayQueryGetIntersection d hs) given = Ok None
computed (e.RayQueryVertexPositions d hs) given = Ok None
computed (e.CooperativeLoad d hs) given = Ok None
computed (e.CooperativeMultiplyAdd d hs) given = Ok None

-- the rule of each kind
abbrev pub rule_of : Expression → Rule
rule_of (e.Splat d hs) = rule.Splat
rule_of (e.Swizzle d hs) = rule.Swizzle
rule_of (e.Unary d hs) = rule.Unary
rule_of (e.Binary d hs) = rule.Binary
rule_of (e.Select d hs) = rule.Select
rule_of (e.Derivative d hs) = rule.Derivative
rule_of (e.Relational d hs) = rule.Relational
rule_of (e.Math d hs) = rule.Math
rule_of (e.As d hs) = rule.As
rule_of (e.Literal l) = rule.Named
rule_of (e.Constant h) = rule.Named
rule_of (e.Override h) = rule.Named
rule_of (e.ZeroValue t) = rule.Named
rule_of (e.Compose t hs) = rule.Named
rule_of (e.Access base index) = rule.Named
rule_of (e.AccessIndex base k) = rule.Named
rule_of (e.FunctionArgument n) = rule.Named
rule_of (e.GlobalVariable h) = rule.Named
rule_of (e.LocalVariable h) = rule.Named
rule_of (e.Load pointer) = rule.Named
rule_of (e.CallResult f) = rule.Named
rule_of (e.AtomicResult t c) = rule.Named
rule_of (e.WorkGroupUniformLoadResult t) = rule.Named
rule_of e.RayQueryProceedResult = rule.Named
rule_of e.SubgroupBallotResult = rule.Named
rule_of (e.SubgroupOperationResult t) = rule.Named
rule_of (e.ImageSample d hs) = rule.Named
rule_of (e.ImageLoad d hs) = rule.Named
rule_of (e.ImageQuery d hs) = rule.Named
rule_of (e.ArrayLength d hs) = rule.Named
rule_of (e.RayQueryGetIntersection d hs) = rule.Named
rule_of (e.RayQueryVertexPositions d hs) = rule.Named
rule_of (e.CooperativeLoad d hs) = rule.Named
rule_of (e.CooperativeMultiplyAdd d hs) = rule.Named

-- the value of a shape
abbrev pub shape_value : Result Shape Rule → Result TypeResolution Rule
shape_value (Ok x) = Ok (value_of x)
shape_value (Err broken) = Err broken

abbrev pub some_shape : Rule → Result (Option Shape) Rule → Result TypeResolution Rule
some_shape rule (Ok (Some x)) = Ok (value_of x)
some_shape rule (Ok None) = Err rule
some_shape rule (Err broken) = Err broken

-- the value that a kind computes
abbrev pub computed_type : Expression → Option Arguments → Result TypeResolution Rule
computed_type x None = Err (rule_of x)
computed_type x (Some given) = some_shape (rule_of x) (computed x given)

-- Load
abbrev pub load_value : List IrType → Option TypeInner → Result TypeResolution Rule
load_value types None = Err rule.Load
load_value types (Some pointer) = or_broken rule.Load (loaded types pointer)

-- what an expression names
abbrev pub named : Module → List FunctionArgument → List LocalVariable → Expression → Result TypeResolution Rule
named m arguments locals x = or_broken rule.Named (named_type m arguments locals x)

-- the kinds that compute with shapes
abbrev pub is_computed : Expression → Bool
is_computed (e.Splat d hs) = true
is_computed (e.Swizzle d hs) = true
is_computed (e.Unary d hs) = true
is_computed (e.Binary d hs) = true
is_computed (e.Select d hs) = true
is_computed (e.Derivative d hs) = true
is_computed (e.Relational d hs) = true
is_computed (e.Math d hs) = true
is_computed (e.As d hs) = true
is_computed (e.Literal l) = false
is_computed (e.Constant h) = false
is_computed (e.Override h) = false
is_computed (e.ZeroValue t) = false
is_computed (e.Compose t hs) = false
is_computed (e.Access base index) = false
is_computed (e.AccessIndex base k) = false
is_computed (e.FunctionArgument n) = false
is_computed (e.GlobalVariable h) = false
is_computed (e.LocalVariable h) = false
is_computed (e.Load pointer) = false
is_computed (e.CallResult f) = false
is_computed (e.AtomicResult t c) = false
is_computed (e.WorkGroupUniformLoadResult t) = false
is_computed e.RayQueryProceedResult = false
is_computed e.SubgroupBallotResult = false
is_computed (e.SubgroupOperationResult t) = false
is_computed (e.ImageSample d hs) = false
is_computed (e.ImageLoad d hs) = false
is_computed (e.ImageQuery d hs) = false
is_computed (e.ArrayLength d hs) = false
is_computed (e.RayQueryGetIntersection d hs) = false
is_computed (e.RayQueryVertexPositions d hs) = false
is_computed (e.CooperativeLoad d hs) = false
is_computed (e.CooperativeMultiplyAdd d hs) = false

-- the rules of these
abbrev pub is_computing : Rule → Bool
is_computing rule.Named = false
is_computing _ = true

-- these, and those that name something
abbrev pub plain_type : Module → List FunctionArgument → List LocalVariable → List TypeResolution → Expression →
    Result TypeResolution Rule
plain_type m arguments locals earlier x =
    if is_computed x then computed_type x (arguments_of m.types earlier (listed_operands x)) else named m arguments locals x

-- the type of an expression of these expressions, of those of the expressions before it; or the rule that it breaks
abbrev pub type_of : Module → List FunctionArgument → List LocalVariable → List Expression → List TypeResolution → Expression →
    Result TypeResolution Rule
type_of m arguments locals xs earlier (e.Access base index) =
    access_type m.types (type_of_operand m.types earlier base) (type_of_operand m.types earlier index)
type_of m arguments locals xs earlier (e.AccessIndex base k) =
    access_index_type m.types (type_of_operand m.types earlier base) k
type_of m arguments locals xs earlier (e.Load pointer) = load_value m.types (type_of_operand m.types earlier pointer)
type_of m arguments locals xs earlier (e.CallResult f) = callee_type (length m.types) (slice_get m.functions f)
type_of m arguments locals xs earlier (e.ImageSample d hs) = shape_value (sample_type m.types xs earlier hs d)
type_of m arguments locals xs earlier (e.ImageLoad d hs) = shape_value (load_type m.types xs earlier hs d)
type_of m arguments locals xs earlier (e.ImageQuery d hs) = shape_value (query_type m.types xs earlier hs d)
type_of m arguments locals xs earlier (e.ArrayLength d hs) = length_type m.types earlier hs
type_of m arguments locals xs earlier (e.RayQueryGetIntersection d hs) = Err rule.RayQuery
type_of m arguments locals xs earlier (e.RayQueryVertexPositions d hs) = Err rule.RayQuery
type_of m arguments locals xs earlier (e.CooperativeLoad d hs) = cooperative_load m.types earlier hs d
type_of m arguments locals xs earlier (e.CooperativeMultiplyAdd d hs) = multiply_add m.types earlier hs
type_of m arguments locals xs earlier (e.Literal l) = plain_type m arguments locals earlier (e.Literal l)
type_of m arguments locals xs earlier (e.Constant h) = plain_type m arguments locals earlier (e.Constant h)
type_of m arguments locals xs earlier (e.Override h) = plain_type m arguments locals earlier (e.Override h)
type_of m arguments locals xs earlier (e.ZeroValue t) = plain_type m arguments locals earlier (e.ZeroValue t)
type_of m arguments locals xs earlier (e.Compose t hs) = plain_type m arguments locals earlier (e.Compose t hs)
type_of m arguments locals xs earlier (e.FunctionArgument n) = plain_type m arguments locals earlier (e.FunctionArgument n)
type_of m arguments locals xs earlier (e.GlobalVariable h) = plain_type m arguments locals earlier (e.GlobalVariable h)
type_of m arguments locals xs earlier (e.LocalVariable h) = plain_type m arguments locals earlier (e.LocalVariable h)
type_of m arguments locals xs earlier (e.AtomicResult t c) = plain_type m arguments locals earlier (e.AtomicResult t c)
type_of m arguments locals xs earlier (e.WorkGroupUniformLoadResult t) =
    plain_type m arguments locals earlier (e.WorkGroupUniformLoadResult t)
type_of m arguments locals xs earlier e.RayQueryProceedResult = plain_type m arguments locals earlier e.RayQueryProceedResult
type_of m arguments locals xs earlier e.SubgroupBallotResult = plain_type m arguments locals earlier e.SubgroupBallotResult
type_of m arguments locals xs earlier (e.SubgroupOperationResult t) =
    plain_type m arguments locals earlier (e.SubgroupOperationResult t)
type_of m arguments locals xs earlier (e.Splat d hs) = plain_type m arguments locals earlier (e.Splat d hs)
type_of m arguments locals xs earlier (e.Swizzle d hs) = plain_type m arguments locals earlier (e.Swizzle d hs)
type_of m arguments locals xs earlier (e.Unary d hs) = plain_type m arguments locals earlier (e.Unary d hs)
type_of m arguments locals xs earlier (e.Binary d hs) = plain_type m arguments locals earlier (e.Binary d hs)
type_of m arguments locals xs earlier (e.Select d hs) = plain_type m arguments locals earlier (e.Select d hs)
type_of m arguments locals xs earlier (e.Derivative d hs) = plain_type m arguments locals earlier (e.Derivative d hs)
type_of m arguments locals xs earlier (e.Relational d hs) = plain_type m arguments locals earlier (e.Relational d hs)
type_of m arguments locals xs earlier (e.Math d hs) = plain_type m arguments locals earlier (e.Math d hs)
type_of m arguments locals xs earlier (e.As d hs) = plain_type m arguments locals earlier (e.As d hs)

-- go on with the type, or end with the expression that has none
abbrev pub or_untyped : {A : Type 0} → ℕ → (TypeResolution → Result A Untyped) → Result TypeResolution Rule → Result A Untyped
or_untyped h next (Ok t) = next t
or_untyped h next (Err broken) = Err (record { handle = h; rule = broken })

-- the types of these expressions after those of the ones before them, or the first that has none
unfoldable pub types_from : Module → List FunctionArgument → List LocalVariable → List Expression → List TypeResolution →
    List Expression → Result (List TypeResolution) Untyped
types_from m arguments locals xs earlier [] = Ok earlier
types_from m arguments locals xs earlier (x ∷ rest) =
    or_untyped (length earlier) (λ t. types_from m arguments locals xs (earlier ++ t ∷ []) rest)
    (type_of m arguments locals xs earlier x)

-- of a function of these arguments, locals and expressions
abbrev pub types_of : Module → List FunctionArgument → List LocalVariable → List Expression → Result (List TypeResolution) Untyped
types_of m arguments locals xs = types_from m arguments locals xs [] xs

-- of the global expressions, which have neither arguments nor locals
abbrev pub global_types : Module → Result (List TypeResolution) Untyped
global_types m = types_of m [] [] m.global_expressions
