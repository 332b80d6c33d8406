-- The names of errors: naga's names of their variants.
use Rattle.std.specs.Prelude.{ℕ, List, codes}
use Rattle.ir_errors.specs.declared.expression.ExpressionError.{ExpressionError}
use Rattle.ir_errors.specs.declared.expression.ExpressionError.TheVariants as expressions
use Rattle.ir_errors.specs.declared.function.FunctionError.{FunctionError}
use Rattle.ir_errors.specs.declared.function.FunctionError.TheVariants as functions
use Rattle.ir_errors.specs.declared.function.CallError.{CallError}
use Rattle.ir_errors.specs.declared.function.CallError.TheVariants as calls
use Rattle.ir_errors.specs.declared.function.AtomicError.{AtomicError}
use Rattle.ir_errors.specs.declared.function.AtomicError.TheVariants as atomics
use Rattle.ir_errors.specs.declared.function.SubgroupError.{SubgroupError}
use Rattle.ir_errors.specs.declared.function.SubgroupError.TheVariants as subgroups
use Rattle.ir_errors.specs.declared.function.LocalVariableError.{LocalVariableError}
use Rattle.ir_errors.specs.declared.function.LocalVariableError.TheVariants as locals
use Rattle.ir_errors.specs.declared.interface.GlobalVariableError.{GlobalVariableError}
use Rattle.ir_errors.specs.declared.interface.GlobalVariableError.TheVariants as globals
use Rattle.ir_errors.specs.declared.interface.VaryingError.{VaryingError}
use Rattle.ir_errors.specs.declared.interface.VaryingError.TheVariants as varyings

-- of errors of expressions
unfoldable pub expression_error_name : ExpressionError → List ℕ
expression_error_name expressions.NotInScope = codes "NotInScope"
expression_error_name expressions.ExpectedGlobalVariable = codes "ExpectedGlobalVariable"
expression_error_name (expressions.ExpectedBindingArrayType _) = codes "ExpectedBindingArrayType"
expression_error_name (expressions.ExpectedImageType _) = codes "ExpectedImageType"
expression_error_name (expressions.InvalidImageClass _) = codes "InvalidImageClass"
expression_error_name (expressions.InvalidImageCoordinateType _ _) = codes "InvalidImageCoordinateType"
expression_error_name expressions.InvalidImageArrayIndex = codes "InvalidImageArrayIndex"
expression_error_name (expressions.InvalidImageArrayIndexType _) = codes "InvalidImageArrayIndexType"
expression_error_name (expressions.InvalidImageStorageAccess _) = codes "InvalidImageStorageAccess"
expression_error_name (expressions.InvalidImageFormat _) = codes "InvalidImageFormat"
expression_error_name (expressions.Lower _) = codes "Lower"

-- of errors of functions
unfoldable pub function_error_name : FunctionError → List ℕ
function_error_name (functions.Expression _ _) = codes "Expression"
function_error_name (functions.ExpressionAlreadyInScope _) = codes "ExpressionAlreadyInScope"
function_error_name (functions.LocalVariable _ _ _) = codes "LocalVariable"
function_error_name (functions.InvalidArgumentType _ _) = codes "InvalidArgumentType"
function_error_name functions.NonConstructibleReturnType = codes "NonConstructibleReturnType"
function_error_name (functions.InvalidArgumentPointerSpace _ _ _) = codes "InvalidArgumentPointerSpace"
function_error_name functions.BreakOutsideOfLoopOrSwitch = codes "BreakOutsideOfLoopOrSwitch"
function_error_name functions.ContinueOutsideOfLoop = codes "ContinueOutsideOfLoop"
function_error_name functions.InvalidReturnSpot = codes "InvalidReturnSpot"
function_error_name (functions.InvalidReturnType _ _) = codes "InvalidReturnType"
function_error_name (functions.InvalidIfType _) = codes "InvalidIfType"
function_error_name (functions.InvalidSwitchType _) = codes "InvalidSwitchType"
function_error_name (functions.ConflictingSwitchCase _) = codes "ConflictingSwitchCase"
function_error_name functions.ConflictingCaseType = codes "ConflictingCaseType"
function_error_name functions.MissingDefaultCase = codes "MissingDefaultCase"
function_error_name functions.MultipleDefaultCases = codes "MultipleDefaultCases"
function_error_name functions.LastCaseFallTrough = codes "LastCaseFallTrough"
function_error_name (functions.InvalidStorePointer _) = codes "InvalidStorePointer"
function_error_name (functions.InvalidStoreTexture _ _) = codes "InvalidStoreTexture"
function_error_name (functions.InvalidStoreValue _ _ _) = codes "InvalidStoreValue"
function_error_name (functions.InvalidStoreTypes _ _) = codes "InvalidStoreTypes"
function_error_name (functions.InvalidImageStore _) = codes "InvalidImageStore"
function_error_name (functions.InvalidImageAtomic _) = codes "InvalidImageAtomic"
function_error_name (functions.InvalidImageAtomicFunction _) = codes "InvalidImageAtomicFunction"
function_error_name (functions.InvalidImageAtomicValue _) = codes "InvalidImageAtomicValue"
function_error_name (functions.InvalidCall _ _) = codes "InvalidCall"
function_error_name (functions.InvalidAtomic _) = codes "InvalidAtomic"
function_error_name (functions.InvalidRayQueryExpression _) = codes "InvalidRayQueryExpression"
function_error_name (functions.InvalidAccelerationStructure _) = codes "InvalidAccelerationStructure"
function_error_name (functions.MissingAccelerationStructureVertexReturn _ _) = codes "MissingAccelerationStructureVertexReturn"
function_error_name (functions.MissingRayQueryVertexReturn _) = codes "MissingRayQueryVertexReturn"
function_error_name (functions.InvalidRayDescriptor _) = codes "InvalidRayDescriptor"
function_error_name (functions.InvalidRayQueryType _) = codes "InvalidRayQueryType"
function_error_name (functions.InvalidHitDistanceType _) = codes "InvalidHitDistanceType"
function_error_name (functions.MissingCapability _) = codes "MissingCapability"
function_error_name (functions.NonUniformControlFlow _ _ _) = codes "NonUniformControlFlow"
function_error_name (functions.PipelineInputRegularFunction _) = codes "PipelineInputRegularFunction"
function_error_name functions.PipelineOutputRegularFunction = codes "PipelineOutputRegularFunction"
function_error_name (functions.NonUniformWorkgroupUniformLoad _) = codes "NonUniformWorkgroupUniformLoad"
function_error_name (functions.WorkgroupUniformLoadExpressionMismatch _) = codes "WorkgroupUniformLoadExpressionMismatch"
function_error_name (functions.WorkgroupUniformLoadInvalidPointer _) = codes "WorkgroupUniformLoadInvalidPointer"
function_error_name (functions.InvalidSubgroup _) = codes "InvalidSubgroup"
function_error_name (functions.InvalidCooperativeStoreTarget _) = codes "InvalidCooperativeStoreTarget"
function_error_name (functions.InvalidCooperativeDataPointer _) = codes "InvalidCooperativeDataPointer"
function_error_name (functions.EmitResult _) = codes "EmitResult"
function_error_name (functions.UnvisitedExpression _) = codes "UnvisitedExpression"
function_error_name (functions.InvalidMeshFunctionCall _) = codes "InvalidMeshFunctionCall"
function_error_name (functions.ConflictingMeshOutputTypes _ _) = codes "ConflictingMeshOutputTypes"
function_error_name (functions.ConflictingTaskPayloadVariables _ _) = codes "ConflictingTaskPayloadVariables"
function_error_name (functions.InvalidMeshShaderOutputType _) = codes "InvalidMeshShaderOutputType"
function_error_name functions.InvalidPayloadType = codes "InvalidPayloadType"
function_error_name (functions.InvalidPayloadAddressSpace _) = codes "InvalidPayloadAddressSpace"
function_error_name (functions.MismatchedPayloadType _ _) = codes "MismatchedPayloadType"
function_error_name functions.PayloadPointerNotGlobal = codes "PayloadPointerNotGlobal"

-- of errors of calls
unfoldable pub call_error_name : CallError → List ℕ
call_error_name (calls.Argument _ _) = codes "Argument"
call_error_name (calls.ResultAlreadyInScope _) = codes "ResultAlreadyInScope"
call_error_name (calls.ResultAlreadyPopulated _) = codes "ResultAlreadyPopulated"
call_error_name (calls.ArgumentCount _ _) = codes "ArgumentCount"
call_error_name (calls.ArgumentType _ _ _) = codes "ArgumentType"
call_error_name (calls.ExpressionMismatch _) = codes "ExpressionMismatch"

-- of errors of atomic operations
unfoldable pub atomic_error_name : AtomicError → List ℕ
atomic_error_name (atomics.InvalidPointer _) = codes "InvalidPointer"
atomic_error_name (atomics.InvalidAddressSpace _) = codes "InvalidAddressSpace"
atomic_error_name (atomics.InvalidOperand _) = codes "InvalidOperand"
atomic_error_name (atomics.InvalidOperator _) = codes "InvalidOperator"
atomic_error_name (atomics.InvalidResultExpression _) = codes "InvalidResultExpression"
atomic_error_name (atomics.ResultExpressionExchange _) = codes "ResultExpressionExchange"
atomic_error_name (atomics.ResultExpressionNotExchange _) = codes "ResultExpressionNotExchange"
atomic_error_name (atomics.ResultTypeMismatch _) = codes "ResultTypeMismatch"
atomic_error_name atomics.MissingReturnValue = codes "MissingReturnValue"
atomic_error_name (atomics.MissingCapability _) = codes "MissingCapability"
atomic_error_name (atomics.ResultAlreadyPopulated _) = codes "ResultAlreadyPopulated"

-- of errors of operations over a subgroup
unfoldable pub subgroup_error_name : SubgroupError → List ℕ
subgroup_error_name (subgroups.InvalidOperand _) = codes "InvalidOperand"
subgroup_error_name (subgroups.ResultTypeMismatch _) = codes "ResultTypeMismatch"
subgroup_error_name (subgroups.UnsupportedOperation _) = codes "UnsupportedOperation"
subgroup_error_name subgroups.UnknownOperation = codes "UnknownOperation"
subgroup_error_name (subgroups.InvalidInvocationIdExprType _) = codes "InvalidInvocationIdExprType"

-- of errors of local variables
unfoldable pub local_error_name : LocalVariableError → List ℕ
local_error_name (locals.InvalidType _) = codes "InvalidType"
local_error_name locals.InitializerType = codes "InitializerType"
local_error_name locals.NonConstOrOverrideInitializer = codes "NonConstOrOverrideInitializer"

-- of errors of global variables
unfoldable pub global_error_name : GlobalVariableError → List ℕ
global_error_name (globals.InvalidUsage _) = codes "InvalidUsage"
global_error_name (globals.InvalidType _) = codes "InvalidType"
global_error_name (globals.InvalidBindingArray _) = codes "InvalidBindingArray"
global_error_name (globals.MissingTypeFlags _ _) = codes "MissingTypeFlags"
global_error_name (globals.UnsupportedCapability _) = codes "UnsupportedCapability"
global_error_name globals.InvalidBinding = codes "InvalidBinding"
global_error_name (globals.Alignment _ _ _) = codes "Alignment"
global_error_name globals.InitializerExprType = codes "InitializerExprType"
global_error_name globals.InitializerType = codes "InitializerType"
global_error_name (globals.InitializerNotAllowed _) = codes "InitializerNotAllowed"
global_error_name globals.StorageAddressSpaceWriteOnlyNotSupported = codes "StorageAddressSpaceWriteOnlyNotSupported"
global_error_name (globals.InvalidImmediateType _) = codes "InvalidImmediateType"
global_error_name globals.ZeroSizedTaskPayload = codes "ZeroSizedTaskPayload"
global_error_name globals.InvalidMemoryDecorationsAddressSpace = codes "InvalidMemoryDecorationsAddressSpace"
global_error_name globals.CoherentNotSupported = codes "CoherentNotSupported"
global_error_name globals.VolatileNotSupported = codes "VolatileNotSupported"

-- of errors of inputs and outputs
unfoldable pub varying_error_name : VaryingError → List ℕ
varying_error_name (varyings.InvalidType _) = codes "InvalidType"
varying_error_name (varyings.NotIOShareableType _) = codes "NotIOShareableType"
varying_error_name (varyings.InvalidInterpolationInStage _ _) = codes "InvalidInterpolationInStage"
varying_error_name (varyings.InvalidInterpolationSamplingCombination _ _) = codes "InvalidInterpolationSamplingCombination"
varying_error_name varyings.InvalidInterpolationForInteger = codes "InvalidInterpolationForInteger"
varying_error_name varyings.MissingInterpolation = codes "MissingInterpolation"
varying_error_name (varyings.InvalidBuiltInStage _) = codes "InvalidBuiltInStage"
varying_error_name (varyings.InvalidBuiltInType _ _) = codes "InvalidBuiltInType"
varying_error_name varyings.MissingBinding = codes "MissingBinding"
varying_error_name (varyings.MemberMissingBinding _) = codes "MemberMissingBinding"
varying_error_name (varyings.BindingCollision _) = codes "BindingCollision"
varying_error_name (varyings.BindingCollisionBlendSrc _) = codes "BindingCollisionBlendSrc"
varying_error_name (varyings.DuplicateBuiltIn _) = codes "DuplicateBuiltIn"
varying_error_name (varyings.UnsupportedCapability _) = codes "UnsupportedCapability"
varying_error_name (varyings.InvalidInputAttributeInStage _ _) = codes "InvalidInputAttributeInStage"
varying_error_name (varyings.InvalidAttributeInStage _ _) = codes "InvalidAttributeInStage"
varying_error_name (varyings.InvalidBlendSrcIndex _ _) = codes "InvalidBlendSrcIndex"
varying_error_name (varyings.IncompleteBlendSrcUsage _) = codes "IncompleteBlendSrcUsage"
varying_error_name (varyings.InvalidBlendSrcWithOtherBindings _) = codes "InvalidBlendSrcWithOtherBindings"
varying_error_name (varyings.BlendSrcOutputTypeMismatch _ _) = codes "BlendSrcOutputTypeMismatch"
varying_error_name varyings.BlendSrcNotOnStructMember = codes "BlendSrcNotOnStructMember"
varying_error_name varyings.InvalidMultiDimensionalSubgroupBuiltIn = codes "InvalidMultiDimensionalSubgroupBuiltIn"
varying_error_name varyings.InvalidPerPrimitive = codes "InvalidPerPrimitive"
varying_error_name varyings.MissingPerPrimitive = codes "MissingPerPrimitive"
varying_error_name varyings.PerVertexNotArrayOfThree = codes "PerVertexNotArrayOfThree"
varying_error_name varyings.InvalidPerVertexSampling = codes "InvalidPerVertexSampling"
