-- What a point that fails says of the acts and the jump at its visit: a use that isn't known, a jump without its
-- ability. What follows for lists of points.
use Rattle.std.proofs.Common.{◌≡◌, ℕ, Bool, true, false, List, [], ◌∷◌, ◌++◌, Some, subst, refl, ap}
use Rattle.std.specs.List.{AllByRecursion}
use Rattle.std.specs.Prelude.{⊤, map, if◌then◌else◌}
use Rattle.ir_statements.specs.Tree.{Act, Use, Put}
use Rattle.ir_arena.specs.Points.{first_fault}
use Rattle.ir_errors.specs.declared.expression.ExpressionError.{ExpressionError}
use Rattle.ir_errors.specs.declared.expression.ExpressionError.TheVariants.{NotInScope}
use Rattle.ir_errors.specs.declared.function.CallError.{CallError}
use Rattle.ir_errors.specs.declared.function.CallError.TheVariants.{Argument}
use Rattle.ir_errors.specs.declared.function.FunctionError.{FunctionError}
use Rattle.ir_errors.specs.declared.function.FunctionError.TheVariants.{Expression, InvalidCall, BreakOutsideOfLoopOrSwitch, ContinueOutsideOfLoop, InvalidReturnSpot}
use Rattle.naga_runs.specs.Handles.{Handles, with_handle}
use Rattle.naga_runs.specs.Witnesses.{HasUnknownUse}
use Rattle.check_scope.specs.ScopePoints.{Points}

-- some use is unknown
pub record SomeUnknownUse (known : Handles) (acts : List Act) : Type 0 where
  pub handle : ℕ
  pub is : HasUnknownUse known acts handle

-- what a fault says, where these are known, these acts are done, and a jump has its ability where that holds
abbrev pub RefusedAs : Handles → List Act → ℕ → ExpressionError → Type 0
RefusedAs known acts h NotInScope = HasUnknownUse known acts h
RefusedAs known acts h _ = ⊤

abbrev pub RefusedArgument : Handles → List Act → ExpressionError → Type 0
RefusedArgument known acts NotInScope = SomeUnknownUse known acts
RefusedArgument known acts _ = ⊤

abbrev pub RefusedCall : Handles → List Act → CallError → Type 0
RefusedCall known acts (Argument index source) = RefusedArgument known acts source
RefusedCall known acts _ = ⊤

abbrev pub Refused : Handles → List Act → Type 0 → FunctionError → Type 0
Refused known acts able (Expression h source) = RefusedAs known acts h source
Refused known acts able (InvalidCall f error) = RefusedCall known acts error
Refused known acts able BreakOutsideOfLoopOrSwitch = able → ⊥
Refused known acts able ContinueOutsideOfLoop = able → ⊥
Refused known acts able InvalidReturnSpot = able → ⊥
Refused known acts able _ = ⊤

-- each of the points that fails says so
abbrev pub Answered : Handles → List Act → Type 0 → Points → Type 0
Answered known acts able ps = AllByRecursion (λ p. p.0 ≡ false → Refused known acts able p.1) ps

-- so does the first
pub fault_says : (known : Handles) (acts : List Act) (able : Type 0) (ps : Points) (fault : FunctionError) →
    Answered known acts able ps → first_fault ps ≡ Some fault → Refused known acts able fault
fault_says known acts able [] fault a e = cc
fault_says known acts able ((true, f) ∷ ps) fault a e = fault_says known acts able ps fault a.1 e
fault_says known acts able ((false, f) ∷ ps) fault a e =
    let same : f ≡ fault = cc in subst (Refused known acts able) same (a.0 refl)

-- where a use is unknown among these acts, one is among those
refused_as_more : (known known' : Handles) (xs ys : List Act) (h : ℕ) (source : ExpressionError) →
    (HasUnknownUse known xs h → HasUnknownUse known' ys h) → RefusedAs known xs h source → RefusedAs known' ys h source
refused_as_more known known' xs ys h NotInScope f r = f r
refused_as_more known known' xs ys h _ f r = tt

argument_more : (known known' : Handles) (xs ys : List Act) (source : ExpressionError) →
    ((h : ℕ) → HasUnknownUse known xs h → HasUnknownUse known' ys h) → RefusedArgument known xs source →
    RefusedArgument known' ys source
argument_more known known' xs ys NotInScope f r = record { handle = r.handle; is = f r.handle r.is }
argument_more known known' xs ys _ f r = tt

pub call_more : (known known' : Handles) (xs ys : List Act) (error : CallError) →
    ((h : ℕ) → HasUnknownUse known xs h → HasUnknownUse known' ys h) → RefusedCall known xs error →
    RefusedCall known' ys error
call_more known known' xs ys (Argument index source) f r = argument_more known known' xs ys source f r
call_more known known' xs ys _ f r = tt

refused_more : (known known' : Handles) (xs ys : List Act) (able : Type 0) (fault : FunctionError) →
    ((h : ℕ) → HasUnknownUse known xs h → HasUnknownUse known' ys h) → Refused known xs able fault →
    Refused known' ys able fault
refused_more known known' xs ys able (Expression h source) f r = refused_as_more known known' xs ys h source (f h) r
refused_more known known' xs ys able (InvalidCall g error) f r = call_more known known' xs ys error f r
refused_more known known' xs ys able BreakOutsideOfLoopOrSwitch f r = r
refused_more known known' xs ys able ContinueOutsideOfLoop f r = r
refused_more known known' xs ys able InvalidReturnSpot f r = r
refused_more known known' xs ys able _ f r = tt

pub answered_more : (known known' : Handles) (xs ys : List Act) (able : Type 0) (ps : Points) →
    ((h : ℕ) → HasUnknownUse known xs h → HasUnknownUse known' ys h) → Answered known xs able ps →
    Answered known' ys able ps
answered_more known known' xs ys able [] f a = tt
answered_more known known' xs ys able (p ∷ ps) f a =
    (λ e. refused_more known known' xs ys able p.1 f (a.0 e), answered_more known known' xs ys able ps f a.1)

pub answered_both : (known : Handles) (acts : List Act) (able : Type 0) (ps qs : Points) → Answered known acts able ps →
    Answered known acts able qs → Answered known acts able (ps ++ qs)
answered_both known acts able [] qs a b = b
answered_both known acts able (p ∷ ps) qs a b = (a.0, answered_both known acts able ps qs a.1 b)

pub answered_if : (known : Handles) (acts : List Act) (able : Type 0) (c : Bool) (ps qs : Points) →
    Answered known acts able ps → Answered known acts able qs → Answered known acts able (if c then ps else qs)
answered_if known acts able true ps qs a b = a
answered_if known acts able false ps qs a b = b

-- unknown uses
pub first_use : (known : Handles) (rest : List Act) (h : ℕ) → known h ≡ false → HasUnknownUse known (Use h ∷ rest) h
first_use known rest h e = record { done = []; rest = rest; split = refl; unknown = e }

pub later_use : (known : Handles) (g : ℕ) (acts : List Act) (h : ℕ) → HasUnknownUse known acts h →
    HasUnknownUse known (Use g ∷ acts) h
later_use known g acts h u =
    record {
      done = Use g ∷ u.done;
      rest = u.rest;
      split = ap (λ l. Use g ∷ l) u.split;
      unknown = u.unknown;
    }

pub after_put : (known : Handles) (g : ℕ) (acts : List Act) (h : ℕ) → HasUnknownUse (with_handle known g) acts h →
    HasUnknownUse known (Put g ∷ acts) h
after_put known g acts h u =
    record {
      done = Put g ∷ u.done;
      rest = u.rest;
      split = ap (λ l. Put g ∷ l) u.split;
      unknown = u.unknown;
    }

pub after_uses : (known : Handles) (gs : List ℕ) (acts : List Act) (h : ℕ) → HasUnknownUse known acts h →
    HasUnknownUse known (map Use gs ++ acts) h
after_uses known [] acts h u = u
after_uses known (g ∷ gs) acts h u = later_use known g (map Use gs ++ acts) h (after_uses known gs acts h u)

-- the second and the third of uses
pub second_use : (known : Handles) (g h : ℕ) (rest : List Act) → known h ≡ false →
    HasUnknownUse known (Use g ∷ Use h ∷ rest) h
second_use known g h rest e = later_use known g (Use h ∷ rest) h (first_use known rest h e)

pub third_use : (known : Handles) (f g h : ℕ) (rest : List Act) → known h ≡ false →
    HasUnknownUse known (Use f ∷ Use g ∷ Use h ∷ rest) h
third_use known f g h rest e = later_use known f (Use g ∷ Use h ∷ rest) h (second_use known g h rest e)
