-- Expressions.
use Rattle.std.specs.Prelude.{ℕ, List, [], ◌∷◌, codes, Option, Some, option_map, if◌then◌else◌}
use Rattle.serde_json.specs.Data.{Data}
use Rattle.serde_json.specs.Find.{as_bool}
use Rattle.ir_module.specs.declared.expressions.Literal.{Literal}
use Rattle.json_expressions.specs.declared.expressions.Parts.{Parts}
use Rattle.json_expressions.specs.declared.expressions.BareExpressionName.{BareExpressionName}
use Rattle.json_expressions.specs.declared.expressions.BareExpressionName.TheVariants as bare
use Rattle.json_expressions.specs.declared.expressions.PartsName.{PartsName}
use Rattle.json_expressions.specs.declared.expressions.PartsName.TheVariants as parts_name
use Rattle.json_expressions.specs.declared.expressions.IndexName.{IndexName}
use Rattle.json_expressions.specs.declared.expressions.IndexName.TheVariants as index_name
use Rattle.ir_module.specs.declared.expressions.Expression.{Expression}
use Rattle.ir_module.specs.declared.expressions.Expression.TheVariants as expression
use Rattle.json_expressions.specs.declared.expressions.ExpressionName.{ExpressionName}
use Rattle.json_expressions.specs.declared.expressions.ExpressionName.TheVariants as expression_name
use Rattle.json_values.specs.Form.{given, has_field, list_of, made_of_two, one_field, two_fields}
use Rattle.json_values.specs.ReadNumbers.{u32_of, u64_of}
use Rattle.json_values.specs.Variants.{Variant, plain, holding, variant_of}
use Rattle.json_expressions.specs.Forms.{named_parts}
use Rattle.json_expressions.specs.Literals.{literal_by_value}
use Rattle.json_values.specs.Scalars.{scalar_of}

-- a literal by its bits
abbrev pub literal_of : Data → Option Literal
literal_of d = made_of_two (λ scalar bits. record { scalar = scalar; bits = bits })
    (two_fields (codes "scalar") scalar_of (codes "bits") u64_of d)

-- a literal by its bits, or by its value
abbrev pub any_literal_of : Data → Option Literal
any_literal_of d = if has_field (codes "scalar") d then literal_of d else literal_by_value d

-- the expressions that one is made from, and a number for the rest
abbrev pub parts_of : Data → Option Parts
parts_of d = made_of_two (λ operands detail. record { operands = operands; detail = detail })
    (two_fields (codes "operands") (list_of u32_of) (codes "detail") u32_of d)

-- these as they are, or by the named form of a kind
abbrev pub any_parts_of : PartsName → Data → Option Parts
any_parts_of kind d = if has_field (codes "operands") d then parts_of d else named_parts kind d

-- an expression that is said by its parts
abbrev pub with_parts : PartsName → Parts → Expression
with_parts parts_name.Splat parts = expression.Splat parts.detail parts.operands
with_parts parts_name.Swizzle parts = expression.Swizzle parts.detail parts.operands
with_parts parts_name.ImageSample parts = expression.ImageSample parts.detail parts.operands
with_parts parts_name.ImageLoad parts = expression.ImageLoad parts.detail parts.operands
with_parts parts_name.ImageQuery parts = expression.ImageQuery parts.detail parts.operands
with_parts parts_name.Unary parts = expression.Unary parts.detail parts.operands
with_parts parts_name.Binary parts = expression.Binary parts.detail parts.operands
with_parts parts_name.Select parts = expression.Select parts.detail parts.operands
with_parts parts_name.Derivative parts = expression.Derivative parts.detail parts.operands
with_parts parts_name.Relational parts = expression.Relational parts.detail parts.operands
with_parts parts_name.Math parts = expression.Math parts.detail parts.operands
with_parts parts_name.As parts = expression.As parts.detail parts.operands
with_parts parts_name.ArrayLength parts = expression.ArrayLength parts.detail parts.operands
with_parts parts_name.RayQueryGetIntersection parts = expression.RayQueryGetIntersection parts.detail parts.operands
with_parts parts_name.RayQueryVertexPositions parts = expression.RayQueryVertexPositions parts.detail parts.operands
with_parts parts_name.CooperativeLoad parts = expression.CooperativeLoad parts.detail parts.operands
with_parts parts_name.CooperativeMultiplyAdd parts = expression.CooperativeMultiplyAdd parts.detail parts.operands

-- an expression that holds a number alone
abbrev pub with_index : IndexName → ℕ → Expression
with_index index_name.Constant index = expression.Constant index
with_index index_name.Override index = expression.Override index
with_index index_name.ZeroValue index = expression.ZeroValue index
with_index index_name.FunctionArgument index = expression.FunctionArgument index
with_index index_name.GlobalVariable index = expression.GlobalVariable index
with_index index_name.LocalVariable index = expression.LocalVariable index
with_index index_name.CallResult index = expression.CallResult index

-- the expressions that hold nothing
abbrev pub bare_expressions : List (List ℕ × BareExpressionName)
bare_expressions = (codes "RayQueryProceedResult", bare.RayQueryProceedResult)
    ∷ (codes "SubgroupBallotResult", bare.SubgroupBallotResult) ∷ []

-- the expressions that hold something
abbrev pub expressions : List (List ℕ × ExpressionName)
expressions =
    (codes "Literal", expression_name.Literal) ∷ (codes "Constant", expression_name.Index index_name.Constant) ∷
    (codes "Override", expression_name.Index index_name.Override) ∷
    (codes "ZeroValue", expression_name.Index index_name.ZeroValue) ∷ (codes "Compose", expression_name.Compose) ∷
    (codes "Access", expression_name.Access) ∷ (codes "AccessIndex", expression_name.AccessIndex) ∷
    (codes "FunctionArgument", expression_name.Index index_name.FunctionArgument) ∷
    (codes "GlobalVariable", expression_name.Index index_name.GlobalVariable) ∷
    (codes "LocalVariable", expression_name.Index index_name.LocalVariable) ∷ (codes "Load", expression_name.Load) ∷
    (codes "CallResult", expression_name.Index index_name.CallResult) ∷
    (codes "AtomicResult", expression_name.AtomicResult) ∷
    (codes "WorkGroupUniformLoadResult", expression_name.WorkGroupUniformLoadResult) ∷
    (codes "SubgroupOperationResult", expression_name.SubgroupOperationResult) ∷
    (codes "Splat", expression_name.Parts parts_name.Splat) ∷
    (codes "Swizzle", expression_name.Parts parts_name.Swizzle) ∷
    (codes "ImageSample", expression_name.Parts parts_name.ImageSample) ∷
    (codes "ImageLoad", expression_name.Parts parts_name.ImageLoad) ∷
    (codes "ImageQuery", expression_name.Parts parts_name.ImageQuery) ∷
    (codes "Unary", expression_name.Parts parts_name.Unary) ∷
    (codes "Binary", expression_name.Parts parts_name.Binary) ∷
    (codes "Select", expression_name.Parts parts_name.Select) ∷
    (codes "Derivative", expression_name.Parts parts_name.Derivative) ∷
    (codes "Relational", expression_name.Parts parts_name.Relational) ∷
    (codes "Math", expression_name.Parts parts_name.Math) ∷ (codes "As", expression_name.Parts parts_name.As) ∷
    (codes "ArrayLength", expression_name.Parts parts_name.ArrayLength) ∷
    (codes "RayQueryGetIntersection", expression_name.Parts parts_name.RayQueryGetIntersection) ∷
    (codes "RayQueryVertexPositions", expression_name.Parts parts_name.RayQueryVertexPositions) ∷
    (codes "CooperativeLoad", expression_name.Parts parts_name.CooperativeLoad) ∷
    (codes "CooperativeMultiplyAdd", expression_name.Parts parts_name.CooperativeMultiplyAdd) ∷ []

abbrev pub compose_of : Data → Option Expression
compose_of d = made_of_two expression.Compose (two_fields (codes "ty") u32_of (codes "components") (list_of u32_of) d)

abbrev pub access_of : Data → Option Expression
access_of d = made_of_two expression.Access (two_fields (codes "base") u32_of (codes "index") u32_of d)

abbrev pub access_index_of : Data → Option Expression
access_index_of d = made_of_two expression.AccessIndex (two_fields (codes "base") u32_of (codes "index") u32_of d)

abbrev pub load_of : Data → Option Expression
load_of d = option_map expression.Load (one_field (codes "pointer") u32_of d)

abbrev pub atomic_result_of : Data → Option Expression
atomic_result_of d = made_of_two expression.AtomicResult (two_fields (codes "ty") u32_of (codes "comparison") as_bool d)

abbrev pub work_group_uniform_load_result_of : Data → Option Expression
work_group_uniform_load_result_of d = option_map expression.WorkGroupUniformLoadResult (one_field (codes "ty") u32_of d)

abbrev pub subgroup_operation_result_of : Data → Option Expression
subgroup_operation_result_of d = option_map expression.SubgroupOperationResult (one_field (codes "ty") u32_of d)

-- what a variant stands for
abbrev pub expression_from : Variant BareExpressionName ExpressionName → Option Expression
expression_from (plain bare.RayQueryProceedResult) = Some expression.RayQueryProceedResult
expression_from (plain bare.SubgroupBallotResult) = Some expression.SubgroupBallotResult
expression_from (holding (expression_name.Parts kind) d) = option_map (with_parts kind) (any_parts_of kind d)
expression_from (holding (expression_name.Index kind) d) = option_map (with_index kind) (u32_of d)
expression_from (holding expression_name.Literal d) = option_map expression.Literal (any_literal_of d)
expression_from (holding expression_name.Compose d) = compose_of d
expression_from (holding expression_name.Access d) = access_of d
expression_from (holding expression_name.AccessIndex d) = access_index_of d
expression_from (holding expression_name.Load d) = load_of d
expression_from (holding expression_name.AtomicResult d) = atomic_result_of d
expression_from (holding expression_name.WorkGroupUniformLoadResult d) = work_group_uniform_load_result_of d
expression_from (holding expression_name.SubgroupOperationResult d) = subgroup_operation_result_of d

abbrev pub expression_of : Data → Option Expression
expression_of d = given (variant_of bare_expressions expressions d) expression_from
