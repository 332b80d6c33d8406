-- What ray traces leave: the type of the payload that all of them must have, and how their acceleration structures
-- return vertices.
use Rattle.std.specs.Prelude.{ℕ, Bool, true, false, List, [], ◌∷◌, Option, None, Some}
use Rattle.std.specs.List.{list_any}
use Rattle.std.specs.Option.{option_or}
use Rattle.ir_statements.specs.Tree.{Leaf}
use Rattle.ir_statements.specs.declared.operations.RayPipelineFunction.TheVariants.{TraceRay}
use Rattle.ir_statements.specs.declared.statements.Statement as ir
use Rattle.ir_types.specs.declared.types.TypeInner.{TypeInner}
use Rattle.ir_types.specs.declared.types.TypeInner.TheVariants as inner
use Rattle.ir_arena.specs.declared.span.Span.{Span}
use Rattle.naga_runs.specs.Positions.{BodyNode, StatementNode}
use Rattle.naga_runs.specs.Visits.{Visit}
use Rattle.check_scope.specs.Context.{Context}
use Rattle.check_scope.specs.ExpressionTypes.{type_at}
use Rattle.check_scope.specs.declared.trace.TraceRayVertexReturnState.{TraceRayVertexReturnState}
use Rattle.check_scope.specs.declared.trace.TraceRayVertexReturnState.TheVariants.{NoTraceRays, VertexReturn, NoVertexReturn}
use Rattle.check_scope.specs.declared.trace.TraceState.{TraceState}

-- the type that a payload points to
abbrev pub payload_type_of : Option TypeInner → Option ℕ
payload_type_of (Some (inner.Pointer base p)) = Some base
payload_type_of _ = None

abbrev pub payload_type_at : Context → ℕ → Option ℕ
payload_type_at context payload = payload_type_of (type_at context payload)

-- the type of a TraceRay's payload
abbrev pub trace_payload : Context → BodyNode → Option ℕ
trace_payload context (StatementNode (Leaf acts (ir.RayPipelineFunction (TraceRay a d payload)) span)) =
    payload_type_at context payload
trace_payload context _ = None

-- the payload type of the first TraceRay that has one
abbrev pub first_payload : Context → List Visit → Option ℕ
first_payload context [] = None
first_payload context (v ∷ visits) = option_or (trace_payload context v.node) (first_payload context visits)

-- the payload type so far, where a body began with this state: that of an earlier function, or else of the earlier visits
abbrev pub payload_before : TraceState → Context → List Visit → Option ℕ
payload_before before context earlier = option_or before.payload (first_payload context earlier)

-- an acceleration structure that returns no vertices
abbrev pub lacks_vertex_return : Option TypeInner → Bool
lacks_vertex_return (Some (inner.AccelerationStructure false)) = true
lacks_vertex_return _ = false

abbrev pub span_where : Bool → Span → Option Span
span_where true span = Some span
span_where false span = None

-- where a TraceRay stands whose acceleration structure lacks the flag
abbrev pub lacks_vertex_return_at : Context → BodyNode → Option Span
lacks_vertex_return_at context (StatementNode (Leaf acts (ir.RayPipelineFunction (TraceRay a d payload)) span)) =
    span_where (lacks_vertex_return (type_at context a)) span
lacks_vertex_return_at context _ = None

-- the last such place
abbrev pub last_without : Context → List Visit → Option Span
last_without context [] = None
last_without context (v ∷ visits) = option_or (last_without context visits) (lacks_vertex_return_at context v.node)

abbrev pub is_trace : BodyNode → Bool
is_trace (StatementNode (Leaf acts (ir.RayPipelineFunction (TraceRay a d payload)) span)) = true
is_trace _ = false

-- some ray was traced
abbrev pub any_trace : List Visit → Bool
any_trace visits = list_any (λ v. is_trace v.node) visits

-- how vertices are returned after ray traces: where the last one that lacks the flag stands, if there is one; else, if
-- there was a ray and none before, each has it; else as before
abbrev pub vertex_return_by : TraceRayVertexReturnState → Option Span → Bool → TraceRayVertexReturnState
vertex_return_by before (Some span) any = NoVertexReturn span
vertex_return_by NoTraceRays None true = VertexReturn
vertex_return_by before None any = before

abbrev pub vertex_return_after : TraceState → Context → List Visit → TraceRayVertexReturnState
vertex_return_after before context visits = vertex_return_by before.vertex_return (last_without context visits) (any_trace visits)

-- what ray traces leave after visits of a body that began with this state
abbrev pub trace_after : TraceState → Context → List Visit → TraceState
trace_after before context visits =
    record {
      payload = payload_before before context visits;
      vertex_return = vertex_return_after before context visits;
    }

-- one visit more, as the code goes along: work of lemmas
abbrev pub with_trace : Context → TraceState → BodyNode → TraceState
with_trace context trace node =
    record {
      payload = option_or trace.payload (trace_payload context node);
      vertex_return = vertex_return_by trace.vertex_return (lacks_vertex_return_at context node) (is_trace node);
    }
