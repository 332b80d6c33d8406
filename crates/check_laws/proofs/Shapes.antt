-- What the visits of an accepted body say of its shape: where its Returns stand, and which cases its Switches have.
use Rattle.std.proofs.Common.{◌≡◌, ℕ, zero, suc, ◌+◌, Bool, true, false, not, ◌||◌, List, [], ◌∷◌, ◌++◌, Option, None, Some, Result, Ok, slice_get, cond, subst, refl, sym, ap, ◌∙◌, arith}
use Rattle.std.proofs.lemmas.Bool.Decides.{nat_tests}
use Rattle.std.proofs.lemmas.Cmp.{int_eq_equiv}
use Rattle.std.proofs.lemmas.List.Elements.{All-contains, All-from_recursion}
use Rattle.std.proofs.lemmas.List.Folds.{list_any-append}
use Rattle.std.proofs.lemmas.List.Recursion.{is_count_by}
use Rattle.std.specs.List.{AllByRecursion, list_any}
use Rattle.std.specs.Prelude.{map, is_none}
use Rattle.ir_arena.proofs.Points.{first_holds, both_hold, not_holds}
use Rattle.ir_arena.specs.Points.{first_fault, answer, and_then}
use Rattle.ir_statements.specs.Tree.{Stmt, Body, Cases, Switch, Return}
use Rattle.ir_types.specs.Unique.{AreDistinct}
use Rattle.ir_statements.specs.declared.operations.SwitchValue.{SwitchValue}
use Rattle.ir_statements.specs.declared.operations.SwitchValue.TheVariants.{I32, U32, Default}
use Rattle.ir_leaves.specs.declared.scalars.ScalarKind.{ScalarKind}
use Rattle.ir_leaves.specs.declared.scalars.ScalarKind.TheVariants as kind
use Rattle.ir_errors.specs.declared.function.FunctionError.{FunctionError}
use Rattle.ir_errors.specs.declared.function.FunctionError.TheVariants.{Expression, InvalidReturnSpot, InvalidReturnType, InvalidSwitchType, ConflictingCaseType, MissingDefaultCase, LastCaseFallTrough}
use Rattle.ir_errors.specs.declared.expression.ExpressionError.TheVariants.{NotInScope}
use Rattle.naga_runs.proofs.LastSteps.{abilities_by_last_step}
use Rattle.naga_runs.specs.ByTree.{judge_visits}
use Rattle.naga_runs.specs.Handles.{Handles}
use Rattle.naga_runs.specs.Positions.{BodyNode, StatementNode, Position, node_at}
use Rattle.naga_runs.specs.VisitOrder.{positions}
use Rattle.naga_runs.specs.Visits.{VisitPlace, Visit, at_begin, place_from, visit_at}
use Rattle.check_scope.specs.BodyTrees.{body_of}
use Rattle.check_flow.specs.walk.SwitchParts.{cases_points}
use Rattle.check_scope.specs.Context.{Context, pre_emitted}
use Rattle.check_flow.specs.Control.{declared_type, is_returned_as}
use Rattle.check_flow.specs.Switch.{has_signedness_of, same_value, repeated_fault, is_default, value_points, values_of, last_falls_through}
use Rattle.check_statement.specs.FunctionJudgement.{body_judgement}
use Rattle.check_statement.specs.Past.{Past}
use Rattle.check_scope.specs.ScopePoints.{use_point, may_use}
use Rattle.check_statement.specs.Rules.{points_at}
use Rattle.check_laws.specs.BodyShapes.{StandsAt, is_in_continuing, HasNoReturnInContinuing, IsOfKind, AreWhole, HasWholeSwitches}
use Rattle.check_statement.specs.walk.State.{State, seen, kept_rules, begin_state, state_left, state_behind}
use Rattle.check_scope.specs.ExpressionTypes.{is_integer_kind, scalar_kind_at}
use Rattle.check_laws.proofs.Accepted.{all_visits, walked}

-- the values of cases that pass

same_itself : (v : SwitchValue) → same_value v v ≡ true
same_itself (I32 n) = int_eq_equiv.refl n
same_itself (U32 n) = grind (arith, nat_tests)
same_itself Default = refl

of_kind : (k : Option ScalarKind) (v : SwitchValue) → has_signedness_of k v ≡ true → IsOfKind k v
of_kind (Some kind.Sint) (I32 n) e = refl
of_kind (Some kind.Uint) (U32 n) e = refl
of_kind k Default e = tt
of_kind k v e = cc

left_false : (a b : Bool) → (a || b) ≡ false → a ≡ false
left_false false b e = refl
left_false true b e = e

right_false : (a b : Bool) → (a || b) ≡ false → b ≡ false
right_false false b e = e
right_false true b e = cc

-- how many of some values are the default
abbrev defaults : List SwitchValue → ℕ
defaults [] = 0
defaults (v ∷ vs) = cond (is_default v) (1 + defaults vs) (defaults vs)

module _ (k : Option ScalarKind) where
  first_value : (earlier later : List SwitchValue) (v : SwitchValue) → first_fault (value_points k earlier (v ∷ later)) ≡ None →
      (has_signedness_of k v ≡ true) × (list_any (same_value v) earlier ≡ false) × (first_fault (value_points k (earlier ++ v ∷ []) later) ≡ None)
  first_value earlier later v e =
      let rest = value_points k (earlier ++ v ∷ []) later in
      let kind_holds = first_holds (has_signedness_of k v) ConflictingCaseType ((not (list_any (same_value v) earlier), repeated_fault v) ∷ rest) e in
      let is_new = first_holds (not (list_any (same_value v) earlier)) (repeated_fault v) rest kind_holds.1 in
      (kind_holds.0, not_holds (list_any (same_value v) earlier) is_new.0, is_new.1)

  all_signed : (earlier later : List SwitchValue) → first_fault (value_points k earlier later) ≡ None → AllByRecursion (IsOfKind k) later
  all_signed earlier [] e = tt
  all_signed earlier (v ∷ later) e =
      let first = first_value earlier later v e in (of_kind k v first.0, all_signed (earlier ++ v ∷ []) later first.2)

  -- no value is an earlier one
  none_earlier : (earlier later : List SwitchValue) → first_fault (value_points k earlier later) ≡ None →
      (j : ℕ) (v : SwitchValue) → slice_get later j ≡ Some v → list_any (same_value v) earlier ≡ false
  none_earlier earlier [] e j v is = cc
  none_earlier earlier (w ∷ later) e zero v is =
      let same : w ≡ v = cc in subst (λ z. list_any (same_value z) earlier ≡ false) same (first_value earlier later w e).1
  none_earlier earlier (w ∷ later) e (suc j) v is =
      let behind = none_earlier (earlier ++ w ∷ []) later (first_value earlier later w e).2 j v is in
      left_false _ _ (sym (list_any-append (same_value v) earlier (w ∷ [])) ∙ behind)

  not_again : (earlier later : List SwitchValue) (v : SwitchValue) → first_fault (value_points k earlier (v ∷ later)) ≡ None →
      (j : ℕ) → slice_get later j ≡ Some v → true ≡ false
  not_again earlier later v e j is =
      let behind = none_earlier (earlier ++ v ∷ []) later (first_value earlier later v e).2 j v is in
      let itself = right_false (list_any (same_value v) earlier) _ (sym (list_any-append (same_value v) earlier (v ∷ [])) ∙ behind) in
      sym (same_itself v) ∙ left_false (same_value v v) false itself

  are_distinct : (earlier later : List SwitchValue) → first_fault (value_points k earlier later) ≡ None → AreDistinct later
  are_distinct earlier [] e i j x p q = cc
  are_distinct earlier (v ∷ later) e zero zero x p q = refl
  are_distinct earlier (v ∷ later) e zero (suc j) x p q =
      let same : x ≡ v = cc in let no = not_again earlier later v e j (q ∙ ap Some same) in cc
  are_distinct earlier (v ∷ later) e (suc i) zero x p q =
      let same : x ≡ v = cc in let no = not_again earlier later v e i (p ∙ ap Some same) in cc
  are_distinct earlier (v ∷ later) e (suc i) (suc j) x p q =
      ap suc (are_distinct (earlier ++ v ∷ []) later (first_value earlier later v e).2 i j x p q)

  true_before : (earlier : List SwitchValue) (v : SwitchValue) → list_any (same_value Default) earlier ≡ true → list_any (same_value Default) (earlier ++ v ∷ []) ≡ true
  true_before earlier v is =
      list_any-append (same_value Default) earlier (v ∷ []) ∙ ap (λ b. b || (same_value Default v || false)) is

  or_true : (b : Bool) → (b || true) ≡ true
  or_true true = refl
  or_true false = refl

  -- behind a default there is none
  no_default : (earlier later : List SwitchValue) → first_fault (value_points k earlier later) ≡ None → list_any (same_value Default) earlier ≡ true → defaults later ≡ 0
  no_default earlier [] e is = refl
  no_default earlier (Default ∷ later) e is = let no = sym is ∙ (first_value earlier later Default e).1 in cc
  no_default earlier (I32 n ∷ later) e is =
      no_default (earlier ++ I32 n ∷ []) later (first_value earlier later (I32 n) e).2 (true_before earlier (I32 n) is)
  no_default earlier (U32 n ∷ later) e is =
      no_default (earlier ++ U32 n ∷ []) later (first_value earlier later (U32 n) e).2 (true_before earlier (U32 n) is)

  one_default : (earlier later : List SwitchValue) → first_fault (value_points k earlier later) ≡ None → list_any is_default later ≡ true → defaults later ≡ 1
  one_default earlier [] e is = cc
  one_default earlier (Default ∷ later) e is =
      let seen_one = list_any-append (same_value Default) earlier (Default ∷ []) ∙ or_true (list_any (same_value Default) earlier) in
      ap (λ n. 1 + n) (no_default (earlier ++ Default ∷ []) later (first_value earlier later Default e).2 seen_one)
  one_default earlier (I32 n ∷ later) e is = one_default (earlier ++ I32 n ∷ []) later (first_value earlier later (I32 n) e).2 is
  one_default earlier (U32 n ∷ later) e is = one_default (earlier ++ U32 n ∷ []) later (first_value earlier later (U32 n) e).2 is

  whole : (cases : Cases) → first_fault (value_points k [] (values_of cases)) ≡ None → first_fault (cases_points cases) ≡ None → AreWhole k cases
  whole cases values ends =
      let has_one = first_holds (list_any is_default (values_of cases)) MissingDefaultCase ((not (last_falls_through cases), LastCaseFallTrough) ∷ []) ends in
      let last = first_holds (not (last_falls_through cases)) LastCaseFallTrough [] has_one.1 in
      record {
        default = sym (is_count_by defaults is_default refl (λ v vs. refl) (values_of cases)) ∙ one_default [] (values_of cases) values has_one.0;
        distinct = are_distinct [] (values_of cases) values;
        signed = All-from_recursion (IsOfKind k) (values_of cases) (all_signed [] (values_of cases) values);
        ends = not_holds (last_falls_through cases) last.0;
      }

-- the points of a visit hold, whatever the visits before it did
record Passes (context : Context) (place : VisitPlace) (node : BodyNode) : Type 0 where
  past : Past
  holds : first_fault (points_at context past place node) ≡ None

module _ (context : Context) where
  one_passes : (o : Option FunctionError) (st end : State) (f : State → Result State FunctionError) → and_then (answer o st) f ≡ Ok end → (o ≡ None) × (f st ≡ Ok end)
  one_passes None st end f h = (refl, h)
  one_passes (Some x) st end f h = cc

  each_passes : (st end : State) (visits : List Visit) → judge_visits (kept_rules context) st visits ≡ Ok end → AllByRecursion (λ v. Passes context v.place v.node) visits
  unfolding judge_visits Rattle.naga_runs.specs.ByTree.judge
  each_passes st end [] h = tt
  each_passes st end (v ∷ visits) h =
      let next = state_behind context st v.node in
      let both = one_passes (first_fault (points_at context (seen st) v.place v.node)) next end (λ s. judge_visits (kept_rules context) s visits) h in
      (record { past = seen st; holds = both.0 }, each_passes next end visits both.1)

  able : (past : Past) (place : VisitPlace) (value : Option ℕ) → first_fault (points_at context past place (StatementNode (Return value))) ≡ None → place.abilities.can_return ≡ true
  able past place None e =
      (first_holds place.abilities.can_return InvalidReturnSpot ((is_none (declared_type context), InvalidReturnType None (declared_type context)) ∷ []) e).0
  able past place (Some h) e =
      (first_holds place.abilities.can_return InvalidReturnSpot (use_point place h ∷ (is_returned_as context h (declared_type context), InvalidReturnType (Some h) (declared_type context)) ∷ []) e).0

  switch_whole : (past : Past) (place : VisitPlace) (h : ℕ) (cases : Cases) → first_fault (points_at context past place (StatementNode (Switch h cases))) ≡ None → AreWhole (scalar_kind_at context h) cases
  switch_whole past place h cases e =
      let k = scalar_kind_at context h in
      let behind = value_points k [] (values_of cases) ++ cases_points cases in
      let used = first_holds (may_use place h) (Expression h NotInScope) ((is_integer_kind k, InvalidSwitchType h) ∷ behind) e in
      let of_integers = first_holds (is_integer_kind k) (InvalidSwitchType h) behind used.1 in
      let both = both_hold (value_points k [] (values_of cases)) (cases_points cases) of_integers.1 in
      whole k cases both.0 both.1

  at_positions : (Q : Visit → Type 0) (pre : Handles) (b : Body) (ps : List Position) → AllByRecursion Q (map (visit_at pre b) ps) → AllByRecursion (λ p. Q (visit_at pre b p)) ps
  at_positions Q pre b [] a = tt
  at_positions Q pre b (p ∷ ps) a = (a.0, at_positions Q pre b ps a.1)

  module _ (visits : List Visit) (is : body_judgement context ≡ Ok visits) where
    abbrev body : Body
    body = body_of context.fun

    abbrev place_at : Position → VisitPlace
    place_at p = place_from (at_begin (pre_emitted context)) body p

    at_each : (p : Position) (x : Stmt) → StandsAt body p x → Passes context (place_at p) (StatementNode x)
    at_each p x stands =
        let all = each_passes (begin_state context) (state_left context visits) visits (walked context visits is) in
        let by_position = at_positions (λ v. Passes context v.place v.node) (pre_emitted context) body (positions body) (subst (AllByRecursion (λ v. Passes context v.place v.node)) (all_visits context visits is) all) in
        let here = All-contains (λ p. Passes context (place_at p) (node_at body p)) (positions body) p (All-from_recursion _ (positions body) by_position) stands.0 in
        subst (Passes context (place_at p)) stands.1 here

    pub no_return_in_continuing : HasNoReturnInContinuing body
    no_return_in_continuing p value stands =
        let here = at_each p (Return value) stands in
        not_holds (is_in_continuing p) (sym (abilities_by_last_step.return p) ∙ able here.past (place_at p) value here.holds)

    pub whole_switches : HasWholeSwitches context.program context.info body
    whole_switches p h cases stands =
        let here = at_each p (Switch h cases) stands in switch_whole here.past (place_at p) h cases here.holds
