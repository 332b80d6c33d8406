-- The check list of TraceRay.
use Rattle.std.specs.Prelude.{ℕ, Bool, true, false, ◌==◌, ◌∷◌, Option, None, Some, is_some, unwrap_or}
use Rattle.ir_module.specs.declared.expressions.Expression.{Expression}
use Rattle.ir_module.specs.declared.expressions.Expression.TheVariants as e
use Rattle.ir_types.specs.declared.types.AddressSpace.{AddressSpace}
use Rattle.ir_types.specs.declared.types.AddressSpace.TheVariants as space
use Rattle.ir_errors.specs.declared.function.FunctionError.TheVariants.{InvalidAccelerationStructure, InvalidPayloadType, InvalidPayloadAddressSpace, PayloadPointerNotGlobal, MismatchedPayloadType}
use Rattle.naga_runs.specs.Visits.{VisitPlace}
use Rattle.check_scope.specs.Context.{Context}
use Rattle.check_scope.specs.ScopePoints.{Points, use_point}
use Rattle.check_resources.specs.RayQuery.{structure_flag_at, descriptor_points}
use Rattle.check_scope.specs.Pointers.{space_at}
use Rattle.check_resources.specs.Traces.{payload_type_at}
use Rattle.check_scope.specs.ExpressionTypes.{expression_at}

abbrev pub is_payload_space : AddressSpace → Bool
is_payload_space space.Function = false
is_payload_space space.Private = false
is_payload_space space.WorkGroup = false
is_payload_space space.Uniform = false
is_payload_space (space.Storage access) = false
is_payload_space space.Handle = false
is_payload_space space.Immediate = false
is_payload_space space.TaskPayload = false
is_payload_space space.RayPayload = true
is_payload_space space.IncomingRayPayload = true

abbrev pub is_global : Option Expression → Bool
is_global (Some (e.GlobalVariable g)) = true
is_global _ = false

-- the type that a payload points to, and the space, where it is a pointer
abbrev pub payload_base : Context → ℕ → ℕ
payload_base context payload = unwrap_or (payload_type_at context payload) 0

abbrev pub payload_space : Context → ℕ → AddressSpace
payload_space context payload = unwrap_or (space_at context payload) space.Function

-- the type of the payloads so far, if there was one
abbrev pub is_so_far : Option ℕ → ℕ → Bool
is_so_far None base = true
is_so_far (Some first) base = first == base

-- TraceRay: its acceleration structure; its payload, a global that is a pointer into a space of payloads, to the type so
-- far; and then its descriptor
abbrev pub trace_ray_points : Context → Option ℕ → VisitPlace → ℕ → ℕ → ℕ → Points
trace_ray_points context so_far place structure descriptor payload =
    use_point place structure
    ∷ (is_some (structure_flag_at context structure), InvalidAccelerationStructure structure)
    ∷ use_point place payload
    ∷ (is_some (payload_type_at context payload), InvalidPayloadType)
    ∷ (is_payload_space (payload_space context payload), InvalidPayloadAddressSpace (payload_space context payload))
    ∷ (is_global (expression_at context payload), PayloadPointerNotGlobal)
    ∷ (is_so_far so_far (payload_base context payload), MismatchedPayloadType (payload_base context payload) (unwrap_or so_far 0))
    ∷ descriptor_points context place descriptor
