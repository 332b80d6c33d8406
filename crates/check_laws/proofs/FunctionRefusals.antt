-- The laws of refused functions, from the visit that the fault is of.
use Rattle.std.proofs.Common.{◌≡◌, ℕ, zero, suc, Bool, true, false, List, [], ◌∷◌, Option, None, Some, Result, Ok, Err, refl, sym, ap, ◌∙◌}
use Rattle.std.proofs.lemmas.List.Elements.{All-contains, All-from_recursion}
use Rattle.std.specs.Prelude.{length, not, if◌then◌else◌, Contains}
use Rattle.ir_module.specs.declared.functions.Function.{Function}
use Rattle.ir_arena.specs.Points.{first_fault, answer, and_then}
use Rattle.ir_errors.specs.declared.expression.ExpressionError.TheVariants.{NotInScope}
use Rattle.ir_facts.specs.WhatIsChecked.{checks_blocks, checks_expressions}
use Rattle.ir_errors.specs.declared.function.CallError.TheVariants.{Argument}
use Rattle.ir_errors.specs.declared.function.FunctionError.{FunctionError}
use Rattle.ir_errors.specs.declared.function.FunctionError.TheVariants.{Expression, InvalidCall, BreakOutsideOfLoopOrSwitch, ContinueOutsideOfLoop, InvalidReturnSpot, UnvisitedExpression}
use Rattle.naga_runs.specs.Abilities.{node_jump}
use Rattle.naga_runs.specs.ComesTo.{HasNoDeadCode}
use Rattle.naga_runs.specs.Guards.{IsRead}
use Rattle.naga_runs.specs.Handles.{Handles}
use Rattle.naga_runs.specs.Must.{must_at}
use Rattle.naga_runs.specs.Positions.{Position, node_at}
use Rattle.naga_runs.specs.PutsAndUses.{node_acts}
use Rattle.naga_runs.specs.Soundness.{HasAbility}
use Rattle.naga_runs.specs.VisitOrder.{positions}
use Rattle.naga_runs.specs.Visits.{Visit, visit_at}
use Rattle.naga_runs.proofs.Reading.{blocks_are_read}
use Rattle.naga_runs.proofs.Witnessed.{uses_are_witnessed, jumps_are_witnessed, fault_is_of_a_visit}
use Rattle.check_scope.specs.BodyTrees.{body_of, emitted_operands}
use Rattle.check_scope.specs.Context.{Context, pre_emitted}
use Rattle.check_scope.specs.Results.{filled_before, is_unfilled, filled_points_from, filled_points}
use Rattle.check_scope.specs.ScopePoints.{Points}
use Rattle.check_statement.specs.FunctionJudgement.{context_with, lower_step, declarations_step, expressions_known, body_judgement, body_step, unfilled_points, outcome_left, judged_with, function_judgement}
use Rattle.check_statement.specs.Past.{past_of}
use Rattle.check_statement.specs.Rules.{body_rules, points_at}
use Rattle.check_laws.specs.FunctionRefusals.{OfRefusedBody, UsesDeadIn, UsesSomeDeadIn, IsStuckIn, RefusedUseIsWitnessed, RefusedJumpIsStuck}
use Rattle.check_laws.proofs.Refused.{Refused, fault_says}
use Rattle.check_laws.proofs.RefusedNodes.{node_answered}

-- a fault of a body, at a position
record RefusedAt (context : Context) (fault : FunctionError) : Type 0 where
  position : Position
  listed : Contains (positions (body_of context.fun)) position
  says : Refused (must_at (pre_emitted context) (body_of context.fun) position)
      (node_acts (node_at (body_of context.fun) position))
      (HasAbility (node_jump (node_at (body_of context.fun) position)) position) fault

refused_at : (context : Context) (fault : FunctionError) → body_judgement context ≡ Err fault →
    RefusedAt context fault
unfolding body_judgement
refused_at context fault e =
    let at = fault_is_of_a_visit (body_rules context) [] (pre_emitted context) (body_of context.fun) fault e in
    let visit : Visit = visit_at (pre_emitted context) (body_of context.fun) at.position in
    let read : IsRead (emitted_operands context.fun) visit.node =
    All-contains (λ p. IsRead (emitted_operands context.fun) (node_at (body_of context.fun) p))
    (positions (body_of context.fun)) at.position
    (All-from_recursion (λ p. IsRead (emitted_operands context.fun) (node_at (body_of context.fun) p))
    (positions (body_of context.fun)) (blocks_are_read (emitted_operands context.fun) context.fun.body)) at.listed in
    record {
      position = at.position;
      listed = at.listed;
      says = fault_says visit.place.must (node_acts visit.node)
          (HasAbility (node_jump (node_at (body_of context.fun) at.position)) at.position)
          (points_at context (past_of context at.state) visit.place visit.node) fault
          (node_answered context (past_of context at.state) visit.place visit.node read) at.first;
    }

-- the fault of a function is that of its body, unless a result isn't filled
abbrev is_unvisited : FunctionError → Bool
is_unvisited (UnvisitedExpression h) = true
is_unvisited _ = false

unvisited_from : (context : Context) (filled : Handles) (first n : ℕ) (fault : FunctionError) →
    first_fault (filled_points_from context filled first n) ≡ Some fault → is_unvisited fault ≡ true
unvisited_from context filled first zero fault e = cc
unvisited_from context filled first (suc n) fault e =
    go (is_unfilled context filled first) (unvisited_from context filled (suc first) n fault) e
  where
    go : (b : Bool) →
        (first_fault (filled_points_from context filled (suc first) n) ≡ Some fault → is_unvisited fault ≡ true) →
        first_fault ((not b, UnvisitedExpression first) ∷ filled_points_from context filled (suc first) n)
        ≡ Some fault →
        is_unvisited fault ≡ true
    go false later e = later e
    go true later e = let same : UnvisitedExpression first ≡ fault = cc in ap is_unvisited (sym same)

if_fault : (c : Bool) (ps : Points) (fault : FunctionError) →
    (first_fault ps ≡ Some fault → is_unvisited fault ≡ true) →
    first_fault (if c then ps else []) ≡ Some fault → is_unvisited fault ≡ true
if_fault true ps fault f e = f e
if_fault false ps fault f e = cc

unfilled_fault : (context : Context) (visits : List Visit) (fault : FunctionError) →
    first_fault (unfilled_points context visits) ≡ Some fault → is_unvisited fault ≡ true
unfilled_fault context visits fault e =
    if_fault (checks_blocks context.settings.flags) (filled_points context (filled_before visits)) fault (λ e.
    if_fault (checks_expressions context.settings.flags)
    (filled_points_from context (filled_before visits) 0 (length context.fun.expressions)) fault
    (unvisited_from context (filled_before visits) 0 (length context.fun.expressions) fault) e) e

body_fault : (context : Context) (r : Result (List Visit) FunctionError) (fault : FunctionError) →
    is_unvisited fault ≡ false →
    and_then r (λ visits. answer (first_fault (unfilled_points context visits)) (outcome_left context visits))
    ≡ Err fault →
    r ≡ Err fault
body_fault context (Err f) fault other e = let same : f ≡ fault = cc in ap Err same
body_fault context (Ok visits) fault other e = go (first_fault (unfilled_points context visits)) refl e
  where
    go : (o : Option FunctionError) → first_fault (unfilled_points context visits) ≡ o →
        answer o (outcome_left context visits) ≡ Err fault → Ok visits ≡ Err fault
    go None f e = cc
    go (Some g) f e =
        let same : g ≡ fault = cc in
        let unvisited : is_unvisited fault ≡ true = unfilled_fault context visits fault (f ∙ ap Some same) in
        cc

steps_pass : {A B C D Fault : Type 0} (r : Result A Fault) (f : A → Result B Fault) (g : B → Result C Fault)
    (h : C → Result D Fault) (c : C) → and_then r (λ a. and_then (f a) g) ≡ Ok c →
    and_then r (λ a. and_then (f a) (λ b. and_then (g b) h)) ≡ h c
steps_pass (Err e) f g h c p = cc
steps_pass {A} {B} {C} {D} {Fault} (Ok a) f g h c p = two (f a) p
  where
    one : (s : Result C Fault) → s ≡ Ok c → and_then s h ≡ h c
    one (Err e) p = cc
    one (Ok x) p = let same : x ≡ c = cc in ap h same

    two : (s : Result B Fault) → and_then s g ≡ Ok c → and_then s (λ b. and_then (g b) h) ≡ h c
    two (Err e) p = cc
    two (Ok b) p = one (g b) p

if_true : {A : Type 0} (c : Bool) (a b : A) → c ≡ true → (if c then a else b) ≡ a
if_true true a b e = refl
if_true false a b e = cc

-- a law of refused bodies, from what their fault says
of_refused : (fault : FunctionError) (Holds : Function → Type 0) → is_unvisited fault ≡ false →
    ((context : Context) → RefusedAt context fault → HasNoDeadCode (body_of context.fun) → Holds context.fun) →
    OfRefusedBody fault Holds
unfolding function_judgement
of_refused fault Holds other says below settings infos trace program earlier fun entry_point info before e blocks
    clean =
    let context : Context = context_with below settings infos trace program earlier fun entry_point info in
    let judged : judged_with context ≡ Err fault = sym (steps_pass
    (lower_step below settings infos trace program earlier fun entry_point)
    (λ info. declarations_step infos entry_point
    (context_with below settings infos trace program earlier fun entry_point info))
    (λ info. expressions_known below (context_with below settings infos trace program earlier fun entry_point info))
    (λ info. judged_with (context_with below settings infos trace program earlier fun entry_point info)) info before)
    ∙ e in
    let stepped : body_step context ≡ Err fault = body_fault context (body_step context) fault other judged in
    says context (refused_at context fault
    (sym (if_true (checks_blocks settings.flags) (body_judgement context) (Ok []) blocks) ∙ stepped)) clean

stuck_in : (context : Context) (position : Position) → Contains (positions (body_of context.fun)) position →
    HasNoDeadCode (body_of context.fun) →
    (HasAbility (node_jump (node_at (body_of context.fun) position)) position → ⊥) → IsStuckIn context.fun
stuck_in context position listed clean lacks =
    record {
      position = position;
      listed = listed;
      lacks = lacks;
      is = jumps_are_witnessed (pre_emitted context) (body_of context.fun) clean position listed lacks;
    }

pub refused_use_is_witnessed : RefusedUseIsWitnessed
refused_use_is_witnessed =
    record {
      expression = λ h. of_refused (Expression h NotInScope) (UsesDeadIn h) refl (λ context r clean.
          uses_are_witnessed (pre_emitted context) (body_of context.fun) clean r.position r.listed h r.says);
      argument = λ f index. of_refused (InvalidCall f (Argument index NotInScope)) UsesSomeDeadIn refl
          (λ context r clean. record {
            handle = r.says.handle;
            is = uses_are_witnessed (pre_emitted context) (body_of context.fun) clean r.position r.listed
                r.says.handle r.says.is;
          });
    }

pub refused_jump_is_stuck : RefusedJumpIsStuck
refused_jump_is_stuck =
    record {
      break = of_refused BreakOutsideOfLoopOrSwitch IsStuckIn refl
          (λ context r clean. stuck_in context r.position r.listed clean r.says);
      continue = of_refused ContinueOutsideOfLoop IsStuckIn refl
          (λ context r clean. stuck_in context r.position r.listed clean r.says);
      return = of_refused InvalidReturnSpot IsStuckIn refl
          (λ context r clean. stuck_in context r.position r.listed clean r.says);
    }
