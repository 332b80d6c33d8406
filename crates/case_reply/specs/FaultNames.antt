-- How a fault is said in a line: what is wrong inside, and the expression that it is about.
use Rattle.std.specs.Prelude.{ℕ, List, [], ◌++◌, Option, None, Some, codes}
use Rattle.ir_errors.specs.declared.expression.ExpressionError.{ExpressionError}
use Rattle.ir_errors.specs.declared.expression.ExpressionError.TheVariants as expression
use Rattle.ir_errors.specs.declared.function.AtomicError.{AtomicError}
use Rattle.ir_errors.specs.declared.function.AtomicError.TheVariants as atomic
use Rattle.ir_errors.specs.declared.function.CallError.{CallError}
use Rattle.ir_errors.specs.declared.function.CallError.TheVariants as call
use Rattle.ir_errors.specs.declared.function.FunctionError.{FunctionError}
use Rattle.ir_errors.specs.declared.function.FunctionError.TheVariants.{Expression, ExpressionAlreadyInScope, InvalidReturnType, InvalidIfType, InvalidSwitchType, InvalidStorePointer, InvalidStoreTexture, InvalidStoreValue, InvalidStoreTypes, InvalidImageStore, InvalidImageAtomic, InvalidImageAtomicValue, InvalidCall, InvalidAtomic, InvalidRayQueryExpression, InvalidAccelerationStructure, MissingAccelerationStructureVertexReturn, MissingRayQueryVertexReturn, InvalidRayDescriptor, InvalidHitDistanceType, NonUniformControlFlow, WorkgroupUniformLoadExpressionMismatch, WorkgroupUniformLoadInvalidPointer, InvalidSubgroup, InvalidCooperativeStoreTarget, InvalidCooperativeDataPointer, EmitResult, UnvisitedExpression, InvalidMeshFunctionCall, ConflictingMeshOutputTypes, ConflictingTaskPayloadVariables, InvalidMeshShaderOutputType}
use Rattle.ir_errors.specs.declared.function.SubgroupError.{SubgroupError}
use Rattle.ir_errors.specs.declared.function.SubgroupError.TheVariants as subgroup
use Rattle.ir_errors.specs.Names.{call_error_name, expression_error_name}

-- a slash and the name of what is wrong inside, for faults of expressions and of calls
unfoldable pub inner_text : FunctionError → List ℕ
inner_text (Expression h source) = codes "/" ++ expression_error_name source
inner_text (InvalidCall f error) = codes "/" ++ call_error_name error
inner_text _ = []

-- the expression that an error of these kinds is about, if it is about one
abbrev pub expression_handle : ExpressionError → Option ℕ
expression_handle (expression.InvalidImageCoordinateType d h) = Some h
expression_handle (expression.InvalidImageArrayIndexType h) = Some h
expression_handle _ = None

abbrev pub call_handle : CallError → Option ℕ
call_handle (call.Argument k source) = expression_handle source
call_handle (call.ResultAlreadyInScope h) = Some h
call_handle (call.ResultAlreadyPopulated h) = Some h
call_handle (call.ArgumentCount required seen) = None
call_handle (call.ArgumentType k required h) = Some h
call_handle (call.ExpressionMismatch h) = h

abbrev pub atomic_handle : AtomicError → Option ℕ
atomic_handle (atomic.InvalidPointer h) = Some h
atomic_handle (atomic.InvalidOperand h) = Some h
atomic_handle (atomic.InvalidResultExpression h) = Some h
atomic_handle (atomic.ResultExpressionExchange h) = Some h
atomic_handle (atomic.ResultExpressionNotExchange h) = Some h
atomic_handle (atomic.ResultTypeMismatch h) = Some h
atomic_handle (atomic.ResultAlreadyPopulated h) = Some h
atomic_handle _ = None

abbrev pub subgroup_handle : SubgroupError → Option ℕ
subgroup_handle (subgroup.InvalidOperand h) = Some h
subgroup_handle (subgroup.ResultTypeMismatch h) = Some h
subgroup_handle (subgroup.InvalidInvocationIdExprType h) = Some h
subgroup_handle _ = None

-- The expression that a fault is about, if it is about one: the first of two, and the pointer of a store.
abbrev pub fault_handle : FunctionError → Option ℕ
fault_handle (Expression h source) = Some h
fault_handle (ExpressionAlreadyInScope h) = Some h
fault_handle (InvalidReturnType value declared) = value
fault_handle (InvalidIfType h) = Some h
fault_handle (InvalidSwitchType h) = Some h
fault_handle (InvalidStorePointer h) = Some h
fault_handle (InvalidStoreTexture h given) = Some h
fault_handle (InvalidStoreValue h given expected) = Some h
fault_handle (InvalidStoreTypes pointer value) = Some pointer
fault_handle (InvalidImageStore error) = expression_handle error
fault_handle (InvalidImageAtomic error) = expression_handle error
fault_handle (InvalidImageAtomicValue h) = Some h
fault_handle (InvalidCall f error) = call_handle error
fault_handle (InvalidAtomic error) = atomic_handle error
fault_handle (InvalidRayQueryExpression h) = Some h
fault_handle (InvalidAccelerationStructure h) = Some h
fault_handle (MissingAccelerationStructureVertexReturn h query) = Some h
fault_handle (MissingRayQueryVertexReturn h) = Some h
fault_handle (InvalidRayDescriptor h) = Some h
fault_handle (InvalidHitDistanceType h) = Some h
fault_handle (NonUniformControlFlow requirements h disruptor) = Some h
fault_handle (WorkgroupUniformLoadExpressionMismatch h) = Some h
fault_handle (WorkgroupUniformLoadInvalidPointer h) = Some h
fault_handle (InvalidSubgroup error) = subgroup_handle error
fault_handle (InvalidCooperativeStoreTarget h) = Some h
fault_handle (InvalidCooperativeDataPointer h) = Some h
fault_handle (EmitResult h) = Some h
fault_handle (UnvisitedExpression h) = Some h
fault_handle (InvalidMeshFunctionCall h) = Some h
fault_handle (ConflictingMeshOutputTypes h other) = Some h
fault_handle (ConflictingTaskPayloadVariables h other) = Some h
fault_handle (InvalidMeshShaderOutputType h) = Some h
fault_handle _ = None
