-- Faults of expressions and functions that a lower layer finds.
use Rattle.std.specs.Prelude.{ℕ, List, [], ◌∷◌, codes, Option, option_map}
use Rattle.serde_json.specs.Data.{Data}
use Rattle.ir_errors.specs.declared.expression.ExpressionError.{ExpressionError}
use Rattle.ir_errors.specs.declared.expression.ExpressionError.TheVariants as expression_error
use Rattle.json_document.specs.declared.errors.ExpressionErrorName.{ExpressionErrorName}
use Rattle.json_document.specs.declared.errors.ExpressionErrorName.TheVariants as expression_error_name
use Rattle.ir_facts.specs.declared.facts.LowerFunctionError.{LowerFunctionError}
use Rattle.ir_facts.specs.declared.facts.LowerFunctionError.TheVariants as lower_function_error
use Rattle.json_document.specs.declared.errors.LowerErrorName.{LowerErrorName}
use Rattle.json_document.specs.declared.errors.LowerErrorName.TheVariants as lower_error_name
use Rattle.json_values.specs.Form.{given, made_of_two, three_of, two_fields, two_of}
use Rattle.json_values.specs.ReadNumbers.{u32_of}
use Rattle.json_values.specs.Sets.{storage_access_of}
use Rattle.json_values.specs.Variants.{variant_of, either}
use Rattle.json_types.specs.ReadImages.{image_class_of, image_dimension_of, storage_format_of}

-- the faults of expressions of which no more is said
abbrev pub bare_errors : List (List ℕ × ExpressionError)
bare_errors =
    (codes "NotInScope", expression_error.NotInScope) ∷
    (codes "ExpectedGlobalVariable", expression_error.ExpectedGlobalVariable) ∷
    (codes "InvalidImageArrayIndex", expression_error.InvalidImageArrayIndex) ∷ []

-- the faults of expressions of which more is said
abbrev pub expression_errors : List (List ℕ × ExpressionErrorName)
expression_errors =
    (codes "ExpectedBindingArrayType", expression_error_name.ExpectedBindingArrayType) ∷
    (codes "ExpectedImageType", expression_error_name.ExpectedImageType) ∷
    (codes "InvalidImageClass", expression_error_name.InvalidImageClass) ∷
    (codes "InvalidImageCoordinateType", expression_error_name.InvalidImageCoordinateType) ∷
    (codes "InvalidImageArrayIndexType", expression_error_name.InvalidImageArrayIndexType) ∷
    (codes "InvalidImageStorageAccess", expression_error_name.InvalidImageStorageAccess) ∷
    (codes "InvalidImageFormat", expression_error_name.InvalidImageFormat) ∷
    (codes "Lower", expression_error_name.Lower) ∷ []

abbrev pub coordinate_of : Data → Option ExpressionError
coordinate_of d = option_map (λ p. expression_error.InvalidImageCoordinateType p.0 p.1) (two_of image_dimension_of u32_of d)

-- what a variant that holds something stands for
abbrev pub expression_error_from : ExpressionErrorName → Data → Option ExpressionError
expression_error_from expression_error_name.ExpectedBindingArrayType d =
    option_map expression_error.ExpectedBindingArrayType (u32_of d)
expression_error_from expression_error_name.ExpectedImageType d =
    option_map expression_error.ExpectedImageType (u32_of d)
expression_error_from expression_error_name.InvalidImageClass d =
    option_map expression_error.InvalidImageClass (image_class_of d)
expression_error_from expression_error_name.InvalidImageCoordinateType d = coordinate_of d
expression_error_from expression_error_name.InvalidImageArrayIndexType d =
    option_map expression_error.InvalidImageArrayIndexType (u32_of d)
expression_error_from expression_error_name.InvalidImageStorageAccess d =
    option_map expression_error.InvalidImageStorageAccess (storage_access_of d)
expression_error_from expression_error_name.InvalidImageFormat d =
    option_map expression_error.InvalidImageFormat (storage_format_of d)
expression_error_from expression_error_name.Lower d = option_map expression_error.Lower (u32_of d)

abbrev pub expression_error_of : Data → Option ExpressionError
expression_error_of d = given (variant_of bare_errors expression_errors d) (either expression_error_from)

-- the faults of functions that a lower layer finds
abbrev pub lower_errors : List (List ℕ × LowerErrorName)
lower_errors =
    (codes "Expression", lower_error_name.Expression) ∷
    (codes "MissingRayQueryVertexReturn", lower_error_name.MissingRayQueryVertexReturn) ∷
    (codes "NonUniformControlFlow", lower_error_name.NonUniformControlFlow) ∷
    (codes "NonUniformWorkgroupUniformLoad", lower_error_name.NonUniformWorkgroupUniformLoad) ∷
    (codes "InvalidMeshFunctionCall", lower_error_name.InvalidMeshFunctionCall) ∷
    (codes "ConflictingMeshOutputTypes", lower_error_name.ConflictingMeshOutputTypes) ∷
    (codes "ConflictingTaskPayloadVariables", lower_error_name.ConflictingTaskPayloadVariables) ∷
    (codes "InvalidMeshShaderOutputType", lower_error_name.InvalidMeshShaderOutputType) ∷ []

abbrev pub error_in_expression_of : Data → Option LowerFunctionError
error_in_expression_of d = made_of_two lower_function_error.Expression
    (two_fields (codes "handle") u32_of (codes "source") expression_error_of d)

abbrev pub control_flow_of : Data → Option LowerFunctionError
control_flow_of d = option_map (λ p. lower_function_error.NonUniformControlFlow (record { 0 = p.0 }) p.1
    (record { 0 = p.2 })) (three_of u32_of u32_of u32_of d)

abbrev pub uniform_load_of : Data → Option LowerFunctionError
uniform_load_of d = option_map (λ n. lower_function_error.NonUniformWorkgroupUniformLoad (record { 0 = n })) (u32_of d)

abbrev pub output_types_of : Data → Option LowerFunctionError
output_types_of d = option_map (λ p. lower_function_error.ConflictingMeshOutputTypes p.0 p.1) (two_of u32_of u32_of d)

abbrev pub payloads_of : Data → Option LowerFunctionError
payloads_of d = option_map (λ p. lower_function_error.ConflictingTaskPayloadVariables p.0 p.1) (two_of u32_of u32_of d)

-- what a variant that holds something stands for
abbrev pub lower_function_error_from : LowerErrorName → Data → Option LowerFunctionError
lower_function_error_from lower_error_name.Expression d = error_in_expression_of d
lower_function_error_from lower_error_name.MissingRayQueryVertexReturn d =
    option_map lower_function_error.MissingRayQueryVertexReturn (u32_of d)
lower_function_error_from lower_error_name.NonUniformControlFlow d = control_flow_of d
lower_function_error_from lower_error_name.NonUniformWorkgroupUniformLoad d = uniform_load_of d
lower_function_error_from lower_error_name.InvalidMeshFunctionCall d =
    option_map lower_function_error.InvalidMeshFunctionCall (u32_of d)
lower_function_error_from lower_error_name.ConflictingMeshOutputTypes d = output_types_of d
lower_function_error_from lower_error_name.ConflictingTaskPayloadVariables d = payloads_of d
lower_function_error_from lower_error_name.InvalidMeshShaderOutputType d =
    option_map lower_function_error.InvalidMeshShaderOutputType (u32_of d)

abbrev pub lower_function_error_of : Data → Option LowerFunctionError
lower_function_error_of d = given (variant_of [] lower_errors d) (either lower_function_error_from)
