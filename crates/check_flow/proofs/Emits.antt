-- Emit: one expression and those behind it, and what an Emit puts.
use Rattle.std.proofs.Common.{◌≡◌, ℕ, zero, suc, ◌+◌, ◌-◌, ◌<◌, ◌≤◌, ◌==◌, Bool, true, false, not, ◌&&◌, ◌||◌, nat_le, nat_lt, Option, Some, None, List, [], ◌∷◌, ◌++◌, refl, sym, ap, ◌∙◌, arith}
use Rattle.std.proofs.lemmas.Bool.Decides.{nat_tests}
use Rattle.std.specs.Option.{option_or}
use Rattle.std.specs.Prelude.{◌↔◌, ◌≢◌, IsTrue, map, if◌then◌else◌}
use Rattle.ir_arena.proofs.Points.{first_holds, both_hold, first_of_both, not_holds}
use Rattle.ir_arena.specs.Points.{first_fault}
use Rattle.ir_statements.specs.View.{emitted}
use Rattle.ir_arena.specs.declared.span.Refusal.{Refusal}
use Rattle.ir_errors.specs.declared.expression.ExpressionError.TheVariants.{NotInScope}
use Rattle.ir_errors.specs.declared.function.FunctionError.{FunctionError}
use Rattle.ir_errors.specs.declared.function.FunctionError.TheVariants.{EmitResult, ExpressionAlreadyInScope}
use Rattle.ir_errors.specs.declared.function.FunctionError.TheVariants as fault
use Rattle.ir_module.specs.declared.expressions.Expression.{Expression}
use Rattle.naga_runs.specs.Handles.{Handles, with_handle}
use Rattle.naga_runs.specs.PutsAndUses.{puts_of}
use Rattle.naga_runs.specs.Visits.{VisitPlace}
use Rattle.check_scope.specs.BodyTrees.{emitted_operands, operands_if}
use Rattle.check_scope.specs.Context.{Context}
use Rattle.check_scope.specs.ScopePoints.{Points, use_point, put_point, is_in_scope}
use Rattle.check_flow.specs.Emit.{within_emit, emitted_points, emit_points_from}
use Rattle.check_scope.specs.Results.{is_result}
use Rattle.check_scope.specs.ExpressionTypes.{expression_at}
use Rattle.check_scope.specs.walk.Findings.{AllHold}
use Rattle.ir_facts.specs.Answers.{IsFirstFault}
use Rattle.check_scope.specs.walk.Place.{Sets, place_at}
use Rattle.check_scope.specs.walk.Table.{with_all, with_puts}
use Rattle.check_flow.specs.walk.Emitted.{handles_from, handles_between}
use Rattle.check_flow.proofs.Calls.{call_puts}
use Rattle.check_flow.proofs.Lists.{in_scope_before}
use Rattle.ir_facts.proofs.Refusals.{first_refused}

or_true : (b : Bool) → (b || true) ≡ true
or_true true = refl
or_true false = refl

pub or_false : (b : Bool) → (b || false) ≡ b
or_false true = refl
or_false false = refl

-- n handles from the first on, beside those of a set
counted : (first n k : ℕ) (s : Handles) → with_all s (handles_from first n) k ≡ (s k || (nat_le first k && nat_lt k (first + n)))
counted first zero k s =
    let none : (nat_le first k && nat_lt k (first + zero)) ≡ false = grind (arith, nat_tests) in
    sym (ap (λ b. s k || b) none ∙ or_false (s k))
counted first (suc n) k s = counted (suc first) n k (with_handle s first) ∙ step (first == k) refl
  where
    step : (b : Bool) → (first == k) ≡ b → ((if b then true else s k) || (nat_le (suc first) k && nat_lt k (suc first + n))) ≡ (s k || (nat_le first k && nat_lt k (first + suc n)))
    step true e =
        let inside : (nat_le first k && nat_lt k (first + suc n)) ≡ true = grind (arith, nat_tests) in
        sym (ap (λ b. s k || b) inside ∙ or_true (s k))
    step false e =
        let same : (nat_le (suc first) k && nat_lt k (suc first + n)) ≡ (nat_le first k && nat_lt k (first + suc n)) = grind (arith, nat_tests) in
        ap (λ b. s k || b) same

-- what is in scope before the handle h of a range
within_is : (s : Sets) (start h : ℕ) → start ≤ h → with_all s.must (handles_between start h) ≡ (within_emit (place_at s) start h).must
within_is s start h le i k =
    (counted start (h - start) k s.must ∙ ap (λ n. s.must k || (nat_le start k && nat_lt k n)) last) i
  where
    last : start + (h - start) ≡ h
    last = omega arith

-- one handle more
pub within_more : (u : Bool) (start h k : ℕ) → start ≤ h → (if h == k then true else (u || (nat_le start k && nat_lt k h))) ≡ (u || (nat_le start k && nat_lt k (suc h)))
within_more u start h k le = step (h == k) refl
  where
    step : (b : Bool) → (h == k) ≡ b → (if b then true else (u || (nat_le start k && nat_lt k h))) ≡ (u || (nat_le start k && nat_lt k (suc h)))
    step true e =
        let inside : (nat_le start k && nat_lt k (suc h)) ≡ true = grind (arith, nat_tests) in
        sym (ap (λ b. u || b) inside ∙ or_true u)
    step false e =
        let same : (nat_le start k && nat_lt k h) ≡ (nat_le start k && nat_lt k (suc h)) = grind (arith, nat_tests) in
        ap (λ b. u || b) same

-- the points of a handle, as the code asks them: with what the handles before it put
module _ (context : Context) (s : Sets) (start h : ℕ) (le : start ≤ h) where
  abbrev asked : Handles → Bool → Points
  asked inside put =
      (not (is_result (expression_at context h)), EmitResult h)
      ∷ map (λ k. (inside k, fault.Expression k NotInScope)) (emitted_operands context.fun h)
      ++ (not put, ExpressionAlreadyInScope h)
      ∷ []

  pub asked_is : (t : Sets) → t ≡ with_puts s (handles_between start h) → emitted_points context (place_at t) (place_at t) h ≡ emitted_points context (within_emit (place_at s) start h) (place_at s) h
  asked_is t e =
      ap (λ u. asked u (t.scope h)) (ap (λ u. u.must) e ∙ within_is s start h le)
      ∙ ap (asked (within_emit (place_at s) start h).must) (ap (λ u. u.scope h) e ∙ in_scope_before s.scope start h le)

-- the points of one handle, one after the other
module _ (context : Context) (place : VisitPlace) (h : ℕ) where
  abbrev puts : Points
  puts = put_point place h ∷ []

  by_operands : (o : Option Expression) → o ≡ expression_at context h → is_result o ≡ false → first_fault (emitted_points context place place h) ≡ option_or (first_fault (map (use_point place) (operands_if o))) (first_fault puts)
  by_operands o is kind =
      ap (λ x. first_fault ((not (is_result x), EmitResult h) ∷ map (use_point place) (operands_if x) ++ puts)) (sym is)
      ∙ ap (λ b. if not b then first_fault (map (use_point place) (operands_if o) ++ puts) else Some (EmitResult h)) kind
      ∙ first_of_both (map (use_point place) (operands_if o)) puts

  pub emitted_stops : (o : Option Expression) (f : FunctionError) → o ≡ expression_at context h → is_result o ≡ false → Some f ≡ first_fault (map (use_point place) (operands_if o)) → Some f ≡ first_fault (emitted_points context place place h)
  emitted_stops o f is kind e = sym (by_operands o is kind ∙ ap (λ x. option_or x (first_fault puts)) (sym e))

  -- the put, where no point before it fails
  pub emitted_last : (o : Option Expression) → o ≡ expression_at context h → is_result o ≡ false → first_fault (map (use_point place) (operands_if o)) ≡ None → first_fault (emitted_points context place place h) ≡ first_fault puts
  emitted_last o is kind e = by_operands o is kind ∙ ap (λ x. option_or x (first_fault puts)) e

  pub emitted_once : (o : Option Expression) → o ≡ expression_at context h → is_result o ≡ false → first_fault (map (use_point place) (operands_if o)) ≡ None → is_in_scope place h ≡ false → first_fault (emitted_points context place place h) ≡ None
  emitted_once o is kind e new =
      emitted_last o is kind e ∙ ap (λ b. first_fault ((not b, ExpressionAlreadyInScope h) ∷ [])) new

  pub emitted_new : first_fault (emitted_points context place place h) ≡ None → is_in_scope place h ≡ false
  emitted_new e =
      let operands = map (use_point place) (emitted_operands context.fun h) in
      let kind = first_holds (not (is_result (expression_at context h))) (EmitResult h) (operands ++ puts) e in
      not_holds (is_in_scope place h) (first_holds (not (is_in_scope place h)) (ExpressionAlreadyInScope h) [] (both_hold operands puts kind.1).1).0

-- the points of one handle, where it is asked first whether it is of a kind that an Emit emits and its operands hold
module _ (context : Context) (place : VisitPlace) (h : ℕ) (o : Option Expression) (is : o ≡ expression_at context h) (ready : Bool) (asked : IsTrue ready ↔ ((is_result o ≡ false) × AllHold (map (use_point place) (operands_if o)))) where
  pub emitted_passes : ready ≡ true → IsTrue (not (is_in_scope place h)) ↔ AllHold (emitted_points context place place h)
  emitted_passes holds =
      (λ new. emitted_once context place h o is (asked.0 holds).0 (asked.0 holds).1 (not_holds (is_in_scope place h) new), λ all. ap not (emitted_new context place h all))

  pub emitted_fails : ready ≡ false → IsTrue false ↔ AllHold (emitted_points context place place h)
  emitted_fails fails = (λ e. cc, λ all. sym fails ∙ asked.1 (kind_fits all, operands_fit all))
    where
      kind_fits : first_fault (emitted_points context place place h) ≡ None → is_result o ≡ false
      kind_fits all =
          let kind = is_result (expression_at context h) in
          let operands = map (use_point place) (emitted_operands context.fun h) in
          ap is_result is ∙ not_holds kind (first_holds (not kind) (EmitResult h) (operands ++ puts context place h) all).0

      operands_fit : first_fault (emitted_points context place place h) ≡ None → first_fault (map (use_point place) (operands_if o)) ≡ None
      operands_fit all =
          let operands = map (use_point place) (emitted_operands context.fun h) in
          let here = (both_hold operands (puts context place h) (first_holds (not (is_result (expression_at context h))) (EmitResult h) (operands ++ puts context place h) all).1).0 in
          ap (λ x. first_fault (map (use_point place) (operands_if x))) is ∙ here

-- the points of one handle, and those behind it
module _ (context : Context) (place : VisitPlace) (start h end : ℕ) (lt : h < end) where
  abbrev here : Points
  here = emitted_points context (within_emit place start h) place h

  abbrev behind : Points
  behind = emit_points_from context place start (h + 1) (end - (h + 1))

  split : emit_points_from context place start h (end - h) ≡ here ++ behind
  split =
      let count : end - h ≡ suc (end - (h + 1)) = omega arith in
      let next : suc h ≡ h + 1 = omega arith in
      ap (emit_points_from context place start h) count
      ∙ ap (λ k. here ++ emit_points_from context place start k (end - (h + 1))) next

  pub emit_stops : (whole : Points) (refused : Refusal FunctionError) → first_fault (emit_points_from context place start h (end - h)) ≡ first_fault whole → IsFirstFault here refused → IsFirstFault whole refused
  emit_stops whole refused e first = first_refused refused here behind whole (sym (ap first_fault split) ∙ e) first

  pub emit_stops_alone : (whole : Points) → first_fault (emit_points_from context place start h (end - h)) ≡ first_fault whole → first_fault here ≢ None → first_fault whole ≢ None
  emit_stops_alone whole e fails = λ none. fails (both_hold here behind (sym (ap first_fault split) ∙ e ∙ none)).0

  pub emit_next : (whole : Points) → first_fault (emit_points_from context place start h (end - h)) ≡ first_fault whole → first_fault here ≡ None → first_fault behind ≡ first_fault whole
  emit_next whole e none =
      sym (ap first_fault split ∙ first_of_both here behind ∙ ap (λ o. option_or o (first_fault behind)) none) ∙ e

pub emit_none : (context : Context) (place : VisitPlace) (start h end : ℕ) → end ≤ h → first_fault (emit_points_from context place start h (end - h)) ≡ None
emit_none context place start h end le =
    let none : end - h ≡ 0 = omega arith in ap (λ n. first_fault (emit_points_from context place start h n)) none

-- what an Emit puts are the handles of its range
pub emit_puts : (operands : ℕ → List ℕ) (start n : ℕ) → puts_of (emitted operands start n) ≡ handles_from start n
emit_puts operands start zero = refl
emit_puts operands start (suc n) = call_puts (operands start) _ ∙ ap (λ l. start ∷ l) (emit_puts operands (suc start) n)
