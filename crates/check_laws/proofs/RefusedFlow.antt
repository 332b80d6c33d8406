-- What the points of Emit, Call, If and Switch say where they fail.
use Rattle.std.proofs.Common.{◌≡◌, ℕ, zero, suc, ◌≤◌, ◌==◌, Bool, true, false, List, [], ◌∷◌, ◌++◌, None, Some, Option, ap, ◌∙◌, arith}
use Rattle.std.specs.List.{AllByRecursion}
use Rattle.std.specs.Prelude.{⊤, map, slice_get, if◌then◌else◌}
use Rattle.ir_statements.specs.Tree.{Act, Cases, Use, Put}
use Rattle.ir_statements.specs.View.{emitted, put_if}
use Rattle.ir_module.specs.declared.functions.FunctionArgument.{FunctionArgument}
use Rattle.ir_statements.specs.declared.operations.SwitchValue.{SwitchValue}
use Rattle.ir_statements.specs.declared.operations.SwitchValue.TheVariants as case
use Rattle.ir_leaves.specs.declared.scalars.ScalarKind.{ScalarKind}
use Rattle.ir_arena.specs.Points.{within}
use Rattle.ir_errors.specs.declared.function.FunctionError.TheVariants.{InvalidCall}
use Rattle.naga_runs.specs.Handles.{Handles, with_handle}
use Rattle.naga_runs.specs.Visits.{VisitPlace}
use Rattle.naga_runs.specs.Witnesses.{HasUnknownUse}
use Rattle.check_flow.specs.Call.{CallPoints, arguments_of, has_result, passed_points_from, all_passed_points, call_result_points, callee_points, call_points}
use Rattle.check_flow.specs.Emit.{within_emit, emitted_points, emit_points_from}
use Rattle.check_flow.specs.Control.{condition_points}
use Rattle.check_flow.specs.Switch.{value_points, values_of, repeated_fault, switch_points}
use Rattle.check_flow.specs.walk.SwitchParts.{cases_points}
use Rattle.check_flow.proofs.Emits.{within_more}
use Rattle.check_scope.specs.BodyTrees.{emitted_operands}
use Rattle.check_scope.specs.Context.{Context}
use Rattle.check_scope.specs.ExpressionTypes.{scalar_kind_at}
use Rattle.check_scope.specs.ScopePoints.{may_use, use_point, put_point}
use Rattle.check_laws.proofs.Refused.{RefusedCall, Refused, Answered, call_more, answered_more, answered_both, first_use, later_use, after_put, after_uses}

-- Emit
module _ (context : Context) (place : VisitPlace) where
  operands_answered : (inside : VisitPlace) (s : Handles) (hs : List ℕ) (rest : List Act) →
      ((k : ℕ) → s k ≡ may_use inside k) → Answered s (map Use hs ++ rest) ⊤ (map (use_point inside) hs)
  operands_answered inside s [] rest same = tt
  operands_answered inside s (h ∷ hs) rest same = (
    λ e. first_use s (map Use hs ++ rest) h (same h ∙ e),
    answered_more s s (map Use hs ++ rest) (Use h ∷ (map Use hs ++ rest)) ⊤ (map (use_point inside) hs)
        (λ k u. later_use s h (map Use hs ++ rest) k u) (operands_answered inside s hs rest same),
  )

  pub emit_answered : (start n h : ℕ) (s : Handles) → start ≤ h →
      ((k : ℕ) → s k ≡ may_use (within_emit place start h) k) →
      Answered s (emitted (emitted_operands context.fun) h n) ⊤ (emit_points_from context place start h n)
  emit_answered start zero h s le inside = tt
  emit_answered start (suc n) h s le inside =
      let operands : List ℕ = emitted_operands context.fun h in
      let later : List Act = emitted (emitted_operands context.fun) (suc h) n in
      let acts : List Act = map Use operands ++ (Put h ∷ later) in
      answered_both s acts ⊤ (emitted_points context (within_emit place start h) place h)
      (emit_points_from context place start (suc h) n) (
        λ e. tt,
        answered_both s acts ⊤ (map (use_point (within_emit place start h)) operands) (put_point place h ∷ [])
            (operands_answered (within_emit place start h) s operands (Put h ∷ later) inside) (λ e. tt, tt),
      )
      (answered_more (with_handle s h) s later acts ⊤ (emit_points_from context place start (suc h) n)
      (λ k u. after_uses s operands (Put h ∷ later) k (after_put s h later k u))
      (emit_answered start n (suc h) (with_handle s h) (omega (arith, le)) (λ k.
      ap (λ b. if h == k then true else b) (inside k) ∙ within_more (may_use place k) start h k le)))

-- Call
abbrev AllCall : Handles → List Act → CallPoints → Type 0
AllCall known acts ps = AllByRecursion (λ p. p.0 ≡ false → RefusedCall known acts p.1) ps

calls_more : (known : Handles) (xs ys : List Act) (ps : CallPoints) →
    ((h : ℕ) → HasUnknownUse known xs h → HasUnknownUse known ys h) → AllCall known xs ps → AllCall known ys ps
calls_more known xs ys [] f a = tt
calls_more known xs ys (p ∷ ps) f a = (λ e. call_more known known xs ys p.1 f (a.0 e), calls_more known xs ys ps f a.1)

calls_both : (known : Handles) (acts : List Act) (ps qs : CallPoints) → AllCall known acts ps → AllCall known acts qs →
    AllCall known acts (ps ++ qs)
calls_both known acts [] qs a b = b
calls_both known acts (p ∷ ps) qs a b = (a.0, calls_both known acts ps qs a.1 b)

within_answered : (known : Handles) (acts : List Act) (able : Type 0) (f : ℕ) (ps : CallPoints) →
    AllCall known acts ps → Answered known acts able (within (InvalidCall f) ps)
within_answered known acts able f [] a = tt
within_answered known acts able f (p ∷ ps) a = (a.0, within_answered known acts able f ps a.1)

passed_answered : (context : Context) (place : VisitPlace) (index : ℕ) (declared : List FunctionArgument) (given : List ℕ)
    (rest : List Act) → AllCall place.must (map Use given ++ rest)
    (passed_points_from context place index declared given)
passed_answered context place index [] given rest = tt
passed_answered context place index (d ∷ declared) [] rest = tt
passed_answered context place index (d ∷ declared) (g ∷ given) rest = (
  λ e. record { handle = g; is = first_use place.must (map Use given ++ rest) g e },
  (
    λ e. tt,
    calls_more place.must (map Use given ++ rest) (Use g ∷ (map Use given ++ rest))
        (passed_points_from context place (suc index) declared given)
        (λ k u. later_use place.must g (map Use given ++ rest) k u)
        (passed_answered context place (suc index) declared given rest),
  ),
)

result_answered : (context : Context) (filled : Handles) (place : VisitPlace) (f : ℕ) (returns : Bool) (result : Option ℕ)
    (acts : List Act) → AllCall place.must acts (call_result_points context filled place f returns result)
result_answered context filled place f returns None acts = (λ e. tt, tt)
result_answered context filled place f returns (Some r) acts = (λ e. tt, (λ e. tt, (λ e. tt, tt)))

pub call_answered : (context : Context) (filled : Handles) (place : VisitPlace) (f : ℕ) (given : List ℕ) (result : Option ℕ) →
    Answered place.must (map Use given ++ put_if result) ⊤ (call_points context filled place f given result)
call_answered context filled place f given result =
    within_answered place.must (map Use given ++ put_if result) ⊤ f (callee_points context filled place f given result)
    (calls_both place.must (map Use given ++ put_if result)
    (all_passed_points context place (arguments_of (slice_get context.program.functions f)) given)
    (call_result_points context filled place f (has_result (slice_get context.program.functions f)) result) (
      λ e. tt,
      passed_answered context place 0 (arguments_of (slice_get context.program.functions f)) given
          (put_if result),
    )
    (result_answered context filled place f (has_result (slice_get context.program.functions f)) result
    (map Use given ++ put_if result)))

-- a condition, and a Switch
module _ (context : Context) (place : VisitPlace) where
  pub condition_answered : (h : ℕ) → Answered place.must (Use h ∷ []) ⊤ (condition_points context place h)
  condition_answered h = (λ e. first_use place.must [] h e, (λ e. tt, tt))

  repeated : (acts : List Act) (v : SwitchValue) → Refused place.must acts ⊤ (repeated_fault v)
  repeated acts case.Default = tt
  repeated acts (case.I32 n) = tt
  repeated acts (case.U32 n) = tt

  values_answered : (acts : List Act) (selector : Option ScalarKind) (earlier later : List SwitchValue) →
      Answered place.must acts ⊤ (value_points selector earlier later)
  values_answered acts selector earlier [] = tt
  values_answered acts selector earlier (v ∷ later) =
      (λ e. tt, (λ e. repeated acts v, values_answered acts selector (earlier ++ v ∷ []) later))

  pub switch_answered : (h : ℕ) (cases : Cases) → Answered place.must (Use h ∷ []) ⊤ (switch_points context place h cases)
  switch_answered h cases = (
    λ e. first_use place.must [] h e,
    (
      λ e. tt,
      answered_both place.must (Use h ∷ []) ⊤
          (value_points (scalar_kind_at context h) [] (values_of cases)) (cases_points cases)
          (values_answered (Use h ∷ []) (scalar_kind_at context h) [] (values_of cases)) (λ e. tt, (λ e. tt, tt)),
    ),
  )
