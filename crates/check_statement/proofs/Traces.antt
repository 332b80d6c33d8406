-- What ray traces leave, one visit after another.
use Rattle.std.proofs.Common.{◌≡◌, Bool, true, false, ◌||◌, List, [], ◌∷◌, ◌++◌, Option, None, Some, refl, sym, ap, ◌∙◌}
use Rattle.std.proofs.lemmas.List.Folds.{list_any-append}
use Rattle.std.specs.Option.{option_or}
use Rattle.ir_arena.specs.declared.span.Span.{Span}
use Rattle.naga_runs.specs.Visits.{Visit}
use Rattle.check_scope.specs.Context.{Context}
use Rattle.check_resources.specs.Traces.{trace_payload, first_payload, lacks_vertex_return_at, last_without, is_trace, any_trace, vertex_return_by, trace_after, with_trace}
use Rattle.check_scope.specs.declared.trace.TraceRayVertexReturnState.{TraceRayVertexReturnState}
use Rattle.check_scope.specs.declared.trace.TraceRayVertexReturnState.TheVariants.{NoTraceRays, VertexReturn, NoVertexReturn}
use Rattle.check_scope.specs.declared.trace.TraceState.{TraceState}
use Rattle.check_statement.proofs.Fillings.{or_false}

or_assoc : {A : Type 0} (a b c : Option A) → option_or (option_or a b) c ≡ option_or a (option_or b c)
or_assoc None b c = refl
or_assoc (Some x) b c = refl

or_none : {A : Type 0} (a : Option A) → option_or a None ≡ a
or_none None = refl
or_none (Some x) = refl

-- some visits, and then others: the last that lacks the flag, and whether there was a ray
by_both : (b : TraceRayVertexReturnState) (first second : Option Span) (any more : Bool) →
    vertex_return_by (vertex_return_by b first any) second more ≡ vertex_return_by b (option_or second first) (any || more)
by_both b first (Some span) any more = refl
by_both b (Some span) None any true = refl
by_both b (Some span) None any false = refl
by_both NoTraceRays None None true true = refl
by_both NoTraceRays None None true false = refl
by_both NoTraceRays None None false true = refl
by_both NoTraceRays None None false false = refl
by_both VertexReturn None None true true = refl
by_both VertexReturn None None true false = refl
by_both VertexReturn None None false true = refl
by_both VertexReturn None None false false = refl
by_both (NoVertexReturn at) None None true true = refl
by_both (NoVertexReturn at) None None true false = refl
by_both (NoVertexReturn at) None None false true = refl
by_both (NoVertexReturn at) None None false false = refl

first_more : (context : Context) (visits : List Visit) (v : Visit) → first_payload context (visits ++ v ∷ []) ≡ option_or (first_payload context visits) (trace_payload context v.node)
first_more context [] v = or_none (trace_payload context v.node)
first_more context (w ∷ visits) v =
    ap (option_or (trace_payload context w.node)) (first_more context visits v)
    ∙ sym (or_assoc (trace_payload context w.node) (first_payload context visits) (trace_payload context v.node))

last_more : (context : Context) (visits : List Visit) (v : Visit) → last_without context (visits ++ v ∷ []) ≡ option_or (lacks_vertex_return_at context v.node) (last_without context visits)
last_more context [] v = sym (or_none (lacks_vertex_return_at context v.node))
last_more context (w ∷ visits) v =
    ap (λ o. option_or o (lacks_vertex_return_at context w.node)) (last_more context visits v)
    ∙ or_assoc (lacks_vertex_return_at context v.node) (last_without context visits) (lacks_vertex_return_at context w.node)

any_more : (visits : List Visit) (v : Visit) → any_trace (visits ++ v ∷ []) ≡ (any_trace visits || is_trace v.node)
any_more visits v =
    list_any-append (λ w. is_trace w.node) visits (v ∷ []) ∙ ap (λ b. any_trace visits || b) (or_false (is_trace v.node))

-- one visit more, behind the others
pub trace_more : (before : TraceState) (context : Context) (visits : List Visit) (v : Visit) →
    trace_after before context (visits ++ v ∷ []) ≡ with_trace context (trace_after before context visits) v.node
trace_more before context visits v =
    let payload = ap (option_or before.payload) (first_more context visits v)
    ∙ sym (or_assoc before.payload (first_payload context visits) (trace_payload context v.node)) in
    let last = ap (λ o. vertex_return_by before.vertex_return o (any_trace (visits ++ v ∷ []))) (last_more context visits v) in
    let any = ap (vertex_return_by before.vertex_return (option_or (lacks_vertex_return_at context v.node) (last_without context visits))) (any_more visits v) in
    let both = by_both before.vertex_return (last_without context visits) (lacks_vertex_return_at context v.node) (any_trace visits) (is_trace v.node) in
    λ i. record { payload = payload i; vertex_return = (last ∙ any ∙ sym both) i }

none_before : (b : TraceRayVertexReturnState) → b ≡ vertex_return_by b None false
none_before NoTraceRays = refl
none_before VertexReturn = refl
none_before (NoVertexReturn at) = refl

-- no ray
pub no_trace : (trace : TraceState) → record { payload = option_or trace.payload None; vertex_return = vertex_return_by trace.vertex_return None false } ≡ trace
no_trace trace i =
    record { payload = or_none trace.payload i; vertex_return = sym (none_before trace.vertex_return) i }
