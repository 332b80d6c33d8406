-- The check list of Call: its turns, and that it guards what a Call uses and puts.
use Rattle.std.proofs.Common.{◌≡◌, ℕ, zero, suc, ◌<◌, ◌==◌, Bool, true, false, not, ◌&&◌, List, [], ◌∷◌, ◌++◌, Option, None, Some, Result, Ok, Err, length, slice_get, get_or, drop, refl, sym, ap, ◌∙◌, subst, arith}
use Rattle.std.proofs.lemmas.Bool.Decides.{nat_tests}
use Rattle.std.specs.Option.{option_map, option_or}
use Rattle.std.specs.Prelude.{◌↔◌, IfSome, IsErr, IsTrue, is_some, map}
use Rattle.ir_statements.specs.Tree.{Act, Use}
use Rattle.ir_statements.specs.View.{put_if}
use Rattle.ir_module.specs.declared.functions.Function.{Function}
use Rattle.ir_module.specs.declared.functions.FunctionArgument.{FunctionArgument}
use Rattle.ir_errors.specs.declared.expression.ExpressionError.TheVariants.{NotInScope}
use Rattle.ir_errors.specs.declared.function.CallError.{CallError}
use Rattle.ir_errors.specs.declared.function.CallError.TheVariants.{Argument, ArgumentCount, ArgumentType, ExpressionMismatch, ResultAlreadyInScope, ResultAlreadyPopulated}
use Rattle.ir_errors.specs.declared.function.FunctionError.TheVariants.{InvalidCall}
use Rattle.ir_arena.proofs.Points.{first_holds, both_hold, first_of_both, first_within, not_holds}
use Rattle.naga_runs.specs.Handles.{Handles}
use Rattle.naga_runs.specs.Visits.{VisitPlace}
use Rattle.ir_arena.specs.Points.{Point, first_fault, within}
use Rattle.ir_arena.specs.declared.span.Refusal.{Refusal}
use Rattle.ir_errors.specs.declared.function.FunctionError.{FunctionError}
use Rattle.naga_runs.specs.Soundness.{Fit}
use Rattle.check_flow.specs.Call.{arguments_of, has_result, is_passed_as, passed_points, passed_points_from, all_passed_points, is_call_result_of, call_result_points, callee_points, call_points}
use Rattle.check_scope.specs.Context.{Context}
use Rattle.naga_runs.specs.PutsAndUses.{puts_of}
use Rattle.check_scope.specs.ScopePoints.{Points, may_use, is_in_scope}
use Rattle.ir_facts.specs.Answers.{Answers, FirstOf}
use Rattle.check_scope.specs.walk.Findings.{AllHold, RefusesFaultsAlone}
use Rattle.check_scope.specs.Results.{is_fresh}
use Rattle.check_scope.specs.ExpressionTypes.{expression_at}
use Rattle.check_flow.proofs.Lists.{within-append}
use Rattle.ir_facts.proofs.Refusals.{refuses_first, refuses_second}

-- a point whose fault stands inside another fails where it does
within_none : {Inner Outer : Type 0} (o : Option Inner) (f : Inner → Outer) → option_map f o ≡ None → o ≡ None
within_none None f e = refl
within_none (Some x) f e = cc

same_length : (m n : ℕ) → (m == n) ≡ true → m ≡ n
same_length m n e = grind (arith, nat_tests)

arguments_fit : (context : Context) (place : VisitPlace) (k : ℕ) (ds : List FunctionArgument) (gs : List ℕ) (acts : List Act) → length ds ≡ length gs → first_fault (passed_points_from context place k ds gs) ≡ None → Fit (may_use place) (is_in_scope place) acts → Fit (may_use place) (is_in_scope place) (map Use gs ++ acts)
arguments_fit context place k [] [] acts l e rest = rest
arguments_fit context place k (d ∷ ds) (g ∷ gs) acts l e rest =
    let both = both_hold (passed_points context place k d.ty g) (passed_points_from context place (suc k) ds gs) e in
    let typed : Point CallError = (is_passed_as context g d.ty, ArgumentType k d.ty g) in
    let here = first_holds (may_use place g) (Argument k NotInScope) (typed ∷ []) both.0 in
    let same : length ds ≡ length gs = omega (arith, l) in
    (here.0, arguments_fit context place (suc k) ds gs acts same both.1 rest)
arguments_fit context place k [] (g ∷ gs) acts l e rest = cc
arguments_fit context place k (d ∷ ds) [] acts l e rest = cc

-- where not every run has put an argument, its point fails
pub argument_missing : (context : Context) (place : VisitPlace) (f i k d : ℕ) (ds : List FunctionArgument) (gs : List ℕ) → i < length gs → length ds ≡ length gs → may_use place (get_or gs i d) ≡ false → first_fault (within (InvalidCall f) (passed_points_from context place k (drop i ds) (drop i gs))) ≡ None → ⊥
argument_missing context place f i k z [] gs lt l missing none = absurd (omega (arith, lt, l))
argument_missing context place f i k z (d ∷ ds) [] lt l missing none = cc
argument_missing context place f zero k z (d ∷ ds) (g ∷ gs) lt l missing none =
    let typed = within (InvalidCall f) ((is_passed_as context g d.ty, ArgumentType k d.ty g) ∷ passed_points_from context place (suc k) ds gs) in
    let here = first_holds (may_use place g) (InvalidCall f (Argument k NotInScope)) typed none in
    cc (here.0)
argument_missing context place f (suc i) k z (d ∷ ds) (g ∷ gs) lt l missing none =
    argument_missing context place f i k z ds gs (omega arith) (omega (arith, l)) missing none

-- what holds of all arguments holds of them one by one
pub arguments_pass : (context : Context) (place : VisitPlace) (f : ℕ) (ds : List FunctionArgument) (gs : List ℕ) → AllHold (within (InvalidCall f) (all_passed_points context place ds gs)) → AllHold (within (InvalidCall f) (passed_points_from context place 0 ds gs))
arguments_pass context place f ds gs all =
    (first_holds (length ds == length gs) (InvalidCall f (ArgumentCount (length ds) (length gs))) (within (InvalidCall f) (passed_points_from context place 0 ds gs)) all).1

-- the points of a result, where it names one
pub named_holds : (context : Context) (filled : Handles) (place : VisitPlace) (f : ℕ) (returns : Bool) (r : ℕ) → first_fault (call_result_points context filled place f returns (Some r)) ≡ None →
    (is_in_scope place r ≡ false) × ((is_call_result_of f (expression_at context r) && returns) ≡ true) × (is_fresh context filled r ≡ true)
named_holds context filled place f returns r e =
    let fresh : Point CallError = (is_fresh context filled r, ResultAlreadyPopulated r) in
    let kind : Point CallError = (is_call_result_of f (expression_at context r) && returns, ExpressionMismatch (Some r)) in
    let first = first_holds (not (is_in_scope place r)) (ResultAlreadyInScope r) (kind ∷ fresh ∷ []) e in
    let second = first_holds (is_call_result_of f (expression_at context r) && returns) (ExpressionMismatch (Some r)) (fresh ∷ []) first.1 in
    let third = first_holds (is_fresh context filled r) (ResultAlreadyPopulated r) [] second.1 in
    (not_holds (is_in_scope place r) first.0, second.0, third.0)

module _ (context : Context) (filled : Handles) (place : VisitPlace) (f : ℕ) (gs : List ℕ) where
  abbrev callee : Option Function
  callee = slice_get context.program.functions f

  pub result_is_new : (named : Option ℕ) → first_fault (callee_points context filled place f gs named) ≡ None → IfSome named (λ r. is_in_scope place r ≡ false)
  result_is_new None e = tt
  result_is_new (Some r) e =
      (named_holds context filled place f (has_result callee) r (both_hold (all_passed_points context place (arguments_of callee) gs) (call_result_points context filled place f (has_result callee) (Some r)) e).1).0

  callee_fits : (named : Option ℕ) → first_fault (callee_points context filled place f gs named) ≡ None → Fit (may_use place) (is_in_scope place) (map Use gs ++ put_if named)
  callee_fits named e =
      let both = both_hold (all_passed_points context place (arguments_of callee) gs) (call_result_points context filled place f (has_result callee) named) e in
      let count = first_holds (length (arguments_of callee) == length gs) (ArgumentCount (length (arguments_of callee)) (length gs)) (passed_points_from context place 0 (arguments_of callee) gs) both.0 in
      arguments_fit context place 0 (arguments_of callee) gs (put_if named) (same_length _ _ count.0) count.1 (put_fits named (result_is_new named e))
    where
      put_fits : (o : Option ℕ) → IfSome o (λ r. is_in_scope place r ≡ false) → Fit (may_use place) (is_in_scope place) (put_if o)
      put_fits None h = tt
      put_fits (Some r) h = (h, tt)

pub callee_holds : (context : Context) (filled : Handles) (place : VisitPlace) (f : ℕ) (gs : List ℕ) (named : Option ℕ) → first_fault (call_points context filled place f gs named) ≡ None → first_fault (callee_points context filled place f gs named) ≡ None
callee_holds context filled place f gs named e =
    let inside = callee_points context filled place f gs named in
    within_none (first_fault inside) (InvalidCall f) (sym (first_within (InvalidCall f) inside) ∙ e)

-- what holds of the result of a call
pub call_holds : (context : Context) (filled : Handles) (place : VisitPlace) (f : ℕ) (gs : List ℕ) (r : ℕ) → first_fault (call_points context filled place f gs (Some r)) ≡ None →
    (is_in_scope place r ≡ false) × ((is_call_result_of f (expression_at context r) && has_result (slice_get context.program.functions f)) ≡ true) × (is_fresh context filled r ≡ true)
call_holds context filled place f gs r e =
    let callee = slice_get context.program.functions f in
    let both = both_hold (all_passed_points context place (arguments_of callee) gs) (call_result_points context filled place f (has_result callee) (Some r)) (callee_holds context filled place f gs (Some r) e) in
    named_holds context filled place f (has_result callee) r both.1

pub call_fits : (context : Context) (filled : Handles) (place : VisitPlace) (f : ℕ) (gs : List ℕ) (named : Option ℕ) → first_fault (call_points context filled place f gs named) ≡ None → Fit (may_use place) (is_in_scope place) (map Use gs ++ put_if named)
call_fits context filled place f gs named e = callee_fits context filled place f gs named (callee_holds context filled place f gs named e)

-- a call of a function that is there
module _ (context : Context) (filled : Handles) (place : VisitPlace) (f : ℕ) (gs : List ℕ) (named : Option ℕ) (callee : Function) (is : slice_get context.program.functions f ≡ Some callee) where
  abbrev arguments : Points
  arguments = within (InvalidCall f) (all_passed_points context place callee.arguments gs)

  abbrev results : Points
  results = within (InvalidCall f) (call_result_points context filled place f (is_some callee.result) named)

  split : call_points context filled place f gs named ≡ arguments ++ results
  split =
      ap (λ z. within (InvalidCall f) (all_passed_points context place (arguments_of z) gs ++ call_result_points context filled place f (has_result z) named)) is
      ∙ within-append (InvalidCall f) (all_passed_points context place callee.arguments gs) (call_result_points context filled place f (is_some callee.result) named)

  pub call_stops : {T : Type 0} (r : Result T (Refusal FunctionError)) → IsErr r → Answers (FirstOf arguments) r → Answers (FirstOf (call_points context filled place f gs named)) r
  call_stops r err a = subst (λ ps. Answers (FirstOf ps) r) (sym split) (refuses_first r arguments results err a)

  pub call_next : {T : Type 0} (r : Result T (Refusal FunctionError)) → first_fault arguments ≡ None → Answers (FirstOf results) r → Answers (FirstOf (call_points context filled place f gs named)) r
  call_next r none a = subst (λ ps. Answers (FirstOf ps) r) (sym split) (refuses_second r arguments results none a)

  both_alone : first_fault (call_points context filled place f gs named) ≡ None → (first_fault arguments ≡ None) × (first_fault results ≡ None)
  both_alone none = both_hold arguments results (ap first_fault (sym split) ∙ none)

  -- where its arguments hold the result decides, and where they don't it doesn't hold
  pub call_passes : (here next : Bool) → IsTrue here ↔ AllHold arguments → IsTrue next ↔ AllHold results → here ≡ true → IsTrue next ↔ AllHold (call_points context filled place f gs named)
  call_passes here next h n holds =
      (λ e. ap first_fault split ∙ first_of_both arguments results ∙ ap (λ o. option_or o (first_fault results)) (h.0 holds) ∙ n.0 e, λ all. n.1 (both_alone all).1)

  pub call_fails : (here : Bool) → IsTrue here ↔ AllHold arguments → here ≡ false → IsTrue false ↔ AllHold (call_points context filled place f gs named)
  call_fails here h fails = (λ e. cc, λ all. sym fails ∙ h.1 (both_alone all).0)

  -- a refusal of the arguments, or of the result, is one of the call
  pub call_stops_alone : {T E : Type 0} (r : Result T E) → RefusesFaultsAlone arguments r → RefusesFaultsAlone (call_points context filled place f gs named) r
  call_stops_alone (Ok t) h = tt
  call_stops_alone (Err e) h = λ none. h (both_alone none).0

  pub call_next_alone : {T E : Type 0} (r : Result T E) → RefusesFaultsAlone results r → RefusesFaultsAlone (call_points context filled place f gs named) r
  call_next_alone (Ok t) h = tt
  call_next_alone (Err e) h = λ none. h (both_alone none).1

-- the uses of a Call put nothing
pub call_puts : (xs : List ℕ) (acts : List Act) → puts_of (map Use xs ++ acts) ≡ puts_of acts
call_puts [] acts = refl
call_puts (x ∷ xs) acts = call_puts xs acts
