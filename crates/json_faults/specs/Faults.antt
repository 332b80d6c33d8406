-- Faults of expressions and functions.
use Rattle.std.specs.Prelude.{ℕ, List, Option, None, Some, codes}
use Rattle.json.specs.Json.{Json, string}
use Rattle.ir_errors.specs.declared.expression.ExpressionError.{ExpressionError}
use Rattle.ir_errors.specs.declared.expression.ExpressionError.TheVariants as expressions
use Rattle.ir_errors.specs.declared.function.CallError.{CallError}
use Rattle.ir_errors.specs.declared.function.CallError.TheVariants as calls
use Rattle.ir_errors.specs.declared.function.AtomicError.{AtomicError}
use Rattle.ir_errors.specs.declared.function.AtomicError.TheVariants as atomics
use Rattle.ir_errors.specs.declared.function.SubgroupError.{SubgroupError}
use Rattle.ir_errors.specs.declared.function.SubgroupError.TheVariants as subgroups
use Rattle.ir_errors.specs.declared.function.LocalVariableError.{LocalVariableError}
use Rattle.ir_errors.specs.declared.function.LocalVariableError.TheVariants as locals
use Rattle.ir_errors.specs.declared.function.FunctionError.{FunctionError}
use Rattle.ir_errors.specs.declared.function.FunctionError.TheVariants as functions
use Rattle.ir_errors.specs.Names.{atomic_error_name, call_error_name, expression_error_name, function_error_name, local_error_name, subgroup_error_name}
use Rattle.json_faults.specs.JsonForm.{number_form, one_field, optional, three_fields, three_items, two_fields, two_items, variant}
use Rattle.json_faults.specs.NameJson.{image_dimension_form, storage_format_form}
use Rattle.json_faults.specs.SetJson.{capabilities_form, storage_access_form, subgroup_operations_form}
use Rattle.json_faults.specs.TypeJson.{atomic_function_form, image_class_form, space_form, switch_value_form, type_form}

-- a fault of an expression

-- what it holds
unfoldable pub expression_error_held : ExpressionError → Option Json
expression_error_held expressions.NotInScope = None
expression_error_held expressions.ExpectedGlobalVariable = None
expression_error_held (expressions.ExpectedBindingArrayType ty) = Some (number_form ty)
expression_error_held (expressions.ExpectedImageType ty) = Some (number_form ty)
expression_error_held (expressions.InvalidImageClass class) = Some (image_class_form class)
expression_error_held (expressions.InvalidImageCoordinateType dimension coordinate) =
    Some (two_items (image_dimension_form dimension) (number_form coordinate))
expression_error_held expressions.InvalidImageArrayIndex = None
expression_error_held (expressions.InvalidImageArrayIndexType index) = Some (number_form index)
expression_error_held (expressions.InvalidImageStorageAccess access) = Some (storage_access_form access)
expression_error_held (expressions.InvalidImageFormat format) = Some (storage_format_form format)
expression_error_held (expressions.Lower reason) = Some (number_form reason)

unfoldable pub expression_error_form : ExpressionError → Json
expression_error_form error = variant (expression_error_name error) (expression_error_held error)

-- a fault of a call

-- what it holds
unfoldable pub call_error_held : CallError → Option Json
call_error_held (calls.Argument index source) =
    Some (two_fields (codes "index") (number_form index) (codes "source") (expression_error_form source))
call_error_held (calls.ResultAlreadyInScope handle) = Some (number_form handle)
call_error_held (calls.ResultAlreadyPopulated handle) = Some (number_form handle)
call_error_held (calls.ArgumentCount required seen) =
    Some (two_fields (codes "required") (number_form required) (codes "seen") (number_form seen))
call_error_held (calls.ArgumentType index required seen_expression) =
    Some (three_fields (codes "index") (number_form index) (codes "required") (number_form required)
    (codes "seen_expression") (number_form seen_expression))
call_error_held (calls.ExpressionMismatch result) = Some (optional number_form result)

unfoldable pub call_error_form : CallError → Json
call_error_form error = variant (call_error_name error) (call_error_held error)

-- a fault of an atomic operation

-- what it holds
unfoldable pub atomic_error_held : AtomicError → Option Json
atomic_error_held (atomics.InvalidPointer handle) = Some (number_form handle)
atomic_error_held (atomics.InvalidAddressSpace space) = Some (space_form space)
atomic_error_held (atomics.InvalidOperand handle) = Some (number_form handle)
atomic_error_held (atomics.InvalidOperator f) = Some (atomic_function_form f)
atomic_error_held (atomics.InvalidResultExpression handle) = Some (number_form handle)
atomic_error_held (atomics.ResultExpressionExchange handle) = Some (number_form handle)
atomic_error_held (atomics.ResultExpressionNotExchange handle) = Some (number_form handle)
atomic_error_held (atomics.ResultTypeMismatch handle) = Some (number_form handle)
atomic_error_held atomics.MissingReturnValue = None
atomic_error_held (atomics.MissingCapability capabilities) = Some (capabilities_form capabilities)
atomic_error_held (atomics.ResultAlreadyPopulated handle) = Some (number_form handle)

unfoldable pub atomic_error_form : AtomicError → Json
atomic_error_form error = variant (atomic_error_name error) (atomic_error_held error)

-- a fault of a subgroup operation

-- what it holds
unfoldable pub subgroup_error_held : SubgroupError → Option Json
subgroup_error_held (subgroups.InvalidOperand handle) = Some (number_form handle)
subgroup_error_held (subgroups.ResultTypeMismatch handle) = Some (number_form handle)
subgroup_error_held (subgroups.UnsupportedOperation operations) = Some (subgroup_operations_form operations)
subgroup_error_held subgroups.UnknownOperation = None
subgroup_error_held (subgroups.InvalidInvocationIdExprType handle) = Some (number_form handle)

unfoldable pub subgroup_error_form : SubgroupError → Json
subgroup_error_form error = variant (subgroup_error_name error) (subgroup_error_held error)

-- a fault of a local variable

-- what it holds
unfoldable pub local_error_held : LocalVariableError → Option Json
local_error_held (locals.InvalidType ty) = Some (number_form ty)
local_error_held locals.InitializerType = None
local_error_held locals.NonConstOrOverrideInitializer = None

unfoldable pub local_error_form : LocalVariableError → Json
local_error_form error = variant (local_error_name error) (local_error_held error)

-- a fault of a function

-- what it holds
unfoldable pub function_error_held : FunctionError → Option Json
function_error_held (functions.Expression handle source) =
    Some (two_fields (codes "handle") (number_form handle) (codes "source") (expression_error_form source))
function_error_held (functions.ExpressionAlreadyInScope handle) = Some (number_form handle)
function_error_held (functions.LocalVariable handle name source) =
    Some (three_fields (codes "handle") (number_form handle) (codes "name") (string name)
    (codes "source") (local_error_form source))
function_error_held (functions.InvalidArgumentType index name) =
    Some (two_fields (codes "index") (number_form index) (codes "name") (string name))
function_error_held functions.NonConstructibleReturnType = None
function_error_held (functions.InvalidArgumentPointerSpace index name space) =
    Some (three_fields (codes "index") (number_form index) (codes "name") (string name) (codes "space") (space_form space))
function_error_held functions.BreakOutsideOfLoopOrSwitch = None
function_error_held functions.ContinueOutsideOfLoop = None
function_error_held functions.InvalidReturnSpot = None
function_error_held (functions.InvalidReturnType expression expected_ty) =
    Some (two_fields (codes "expression") (optional number_form expression)
    (codes "expected_ty") (optional number_form expected_ty))
function_error_held (functions.InvalidIfType handle) = Some (number_form handle)
function_error_held (functions.InvalidSwitchType handle) = Some (number_form handle)
function_error_held (functions.ConflictingSwitchCase value) = Some (switch_value_form value)
function_error_held functions.ConflictingCaseType = None
function_error_held functions.MissingDefaultCase = None
function_error_held functions.MultipleDefaultCases = None
function_error_held functions.LastCaseFallTrough = None
function_error_held (functions.InvalidStorePointer handle) = Some (number_form handle)
function_error_held (functions.InvalidStoreTexture actual actual_ty) =
    Some (two_fields (codes "actual") (number_form actual) (codes "actual_ty") (type_form actual_ty))
function_error_held (functions.InvalidStoreValue actual actual_ty expected_ty) =
    Some (three_fields (codes "actual") (number_form actual) (codes "actual_ty") (type_form actual_ty)
    (codes "expected_ty") (type_form expected_ty))
function_error_held (functions.InvalidStoreTypes pointer value) =
    Some (two_fields (codes "pointer") (number_form pointer) (codes "value") (number_form value))
function_error_held (functions.InvalidImageStore error) = Some (expression_error_form error)
function_error_held (functions.InvalidImageAtomic error) = Some (expression_error_form error)
function_error_held (functions.InvalidImageAtomicFunction f) = Some (atomic_function_form f)
function_error_held (functions.InvalidImageAtomicValue handle) = Some (number_form handle)
function_error_held (functions.InvalidCall f error) =
    Some (two_fields (codes "function") (number_form f) (codes "error") (call_error_form error))
function_error_held (functions.InvalidAtomic error) = Some (atomic_error_form error)
function_error_held (functions.InvalidRayQueryExpression handle) = Some (number_form handle)
function_error_held (functions.InvalidAccelerationStructure handle) = Some (number_form handle)
function_error_held (functions.MissingAccelerationStructureVertexReturn first second) =
    Some (two_items (number_form first) (number_form second))
function_error_held (functions.MissingRayQueryVertexReturn handle) = Some (number_form handle)
function_error_held (functions.InvalidRayDescriptor handle) = Some (number_form handle)
function_error_held (functions.InvalidRayQueryType ty) = Some (number_form ty)
function_error_held (functions.InvalidHitDistanceType handle) = Some (number_form handle)
function_error_held (functions.MissingCapability capabilities) = Some (capabilities_form capabilities)
function_error_held (functions.NonUniformControlFlow requirements handle disruptor) =
    Some (three_items (number_form requirements.0) (number_form handle) (number_form disruptor.0))
function_error_held (functions.PipelineInputRegularFunction name) = Some (one_field (codes "name") (string name))
function_error_held functions.PipelineOutputRegularFunction = None
function_error_held (functions.NonUniformWorkgroupUniformLoad disruptor) = Some (number_form disruptor.0)
function_error_held (functions.WorkgroupUniformLoadExpressionMismatch handle) = Some (number_form handle)
function_error_held (functions.WorkgroupUniformLoadInvalidPointer handle) = Some (number_form handle)
function_error_held (functions.InvalidSubgroup error) = Some (subgroup_error_form error)
function_error_held (functions.InvalidCooperativeStoreTarget handle) = Some (number_form handle)
function_error_held (functions.InvalidCooperativeDataPointer handle) = Some (number_form handle)
function_error_held (functions.EmitResult handle) = Some (number_form handle)
function_error_held (functions.UnvisitedExpression handle) = Some (number_form handle)
function_error_held (functions.InvalidMeshFunctionCall handle) = Some (number_form handle)
function_error_held (functions.ConflictingMeshOutputTypes first second) =
    Some (two_items (number_form first) (number_form second))
function_error_held (functions.ConflictingTaskPayloadVariables first second) =
    Some (two_items (number_form first) (number_form second))
function_error_held (functions.InvalidMeshShaderOutputType handle) = Some (number_form handle)
function_error_held functions.InvalidPayloadType = None
function_error_held (functions.InvalidPayloadAddressSpace space) = Some (space_form space)
function_error_held (functions.MismatchedPayloadType ty earlier) = Some (two_items (number_form ty) (number_form earlier))
function_error_held functions.PayloadPointerNotGlobal = None

unfoldable pub function_error_form : FunctionError → Json
function_error_form error = variant (function_error_name error) (function_error_held error)
