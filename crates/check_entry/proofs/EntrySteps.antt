-- What an answer says of an entry point's points that stand one behind another.
use Rattle.std.proofs.Common.{◌≡◌, ℕ, ◌+◌, ◌<◌, List, None, Some, Ok, Err, Result, ◌++◌, length, drop, get_or, sym, ap, ◌∙◌}
use Rattle.std.specs.Prelude.{IsErr}
use Rattle.std.specs.Option.{option_map, option_or}
use Rattle.ir_arena.proofs.Points.{first_of_both, first_within, first_turn}
use Rattle.ir_arena.specs.Points.{Point, first_fault, points_from, within}
use Rattle.ir_arena.specs.declared.span.Refusal.{Refusal}
use Rattle.ir_arena.specs.declared.span.Refusal.TheVariants as refusal
use Rattle.check_varyings.specs.VaryingFaults.{VaryingFault, varying_fault_of}
use Rattle.ir_errors.specs.declared.interface.VaryingError.{VaryingError}
use Rattle.check_entry.specs.EntryFaults.{EntryFault, OfArgument, OfResult, fault_of}
use Rattle.check_entry.specs.EntryAnswers.{EntryPoints}
use Rattle.check_faults.specs.declared.entry.EntryPointError.{EntryPointError}
use Rattle.check_faults.specs.declared.entry.EntryPointError.TheVariants as fault
use Rattle.ir_facts.proofs.Refusals.{fault_first, fault_second, refuses_first, refuses_second}
use Rattle.ir_arena.specs.Refusals.{IsRefusalFor}
use Rattle.ir_facts.specs.Answers.{Answers, FirstOf, IsFirstFault, read_by, refusal_read_by}

pub ruleset finding = (fault_first, fault_second)

pub ruleset meeting = (refuses_first, refuses_second)

-- the refusal for the first fault, as contracts see it
pub refuses_as : (fault : EntryPointError) (given : Refusal EntryPointError) (points : List (Point EntryFault)) → IsRefusalFor fault given →
    first_fault points ≡ Some (fault_of fault) → IsFirstFault points (refusal_read_by fault_of given)
refuses_as fault (refusal.Fault f) points is h = h ∙ ap (λ e. Some (fault_of e)) (sym is)
refuses_as fault refusal.Memory points is h = tt

-- points of which none fails
pub both_pass : {Fault : Type 0} (ps qs : List (Point Fault)) → first_fault ps ≡ None → first_fault qs ≡ None → first_fault (ps ++ qs) ≡ None
both_pass ps qs e f = first_of_both ps qs ∙ ap (λ o. option_or o (first_fault qs)) e ∙ f

-- points without a fault, inside others
pub passes_within : {Inner Outer : Type 0} (outer : Inner → Outer) (points : List (Point Inner)) → first_fault points ≡ None → first_fault (within outer points) ≡ None
passes_within outer points h = first_within outer points ∙ ap (option_map outer) h

-- an answer about points, as one about the faults that they are
pub judges_within : {T : Type 0} (r : Result T (Refusal EntryPointError)) (points : EntryPoints) → Answers (FirstOf points) r → Answers (FirstOf (within fault_of points)) (read_by fault_of r)
judges_within (Ok t) points h = passes_within fault_of points h
judges_within (Err (refusal.Fault f)) points h = first_within fault_of points ∙ ap (option_map fault_of) h
judges_within (Err refusal.Memory) points h = tt

module _ {A : Type 0} (points : ℕ → A → EntryPoints) (xs : List A) (i : ℕ) where
  -- the fault of this item is that of all, where those before it have none
  pub each_meets : {T : Type 0} (r : Result T (Refusal EntryPointError)) (x : A) → i < length xs → x ≡ get_or xs i x →
      first_fault (points_from points i (drop i xs)) ≡ first_fault (points_from points 0 xs) →
      IsErr r → Answers (FirstOf (points i x)) r → Answers (FirstOf (points_from points 0 xs)) r
  each_meets (Ok t) x lt is left err h = cc
  each_meets (Err (refusal.Fault f)) x lt is left err h =
      sym left ∙ first_turn points xs i x lt is ∙ ap (λ o. option_or o (first_fault (points_from points (i + 1) (drop (i + 1) xs)))) h
  each_meets (Err refusal.Memory) x lt is left err h = tt

  -- an item without a fault leaves what is behind it
  pub each_goes_on : (x : A) → i < length xs → x ≡ get_or xs i x →
      first_fault (points_from points i (drop i xs)) ≡ first_fault (points_from points 0 xs) →
      first_fault (points i x) ≡ None → first_fault (points_from points (i + 1) (drop (i + 1) xs)) ≡ first_fault (points_from points 0 xs)
  each_goes_on x lt is left h =
      sym (first_turn points xs i x lt is ∙ ap (λ o. option_or o (first_fault (points_from points (i + 1) (drop (i + 1) xs)))) h) ∙ left

-- a fault of an input or an output, as one of the entry point
pub argument_fault : (index : ℕ) (points : List (Point VaryingFault)) (error : VaryingError) → first_fault points ≡ Some (varying_fault_of error) →
    first_fault (within (OfArgument index) points) ≡ Some (fault_of (fault.Argument index error))
argument_fault index points error h = first_within (OfArgument index) points ∙ ap (option_map (OfArgument index)) h

pub result_fault : (points : List (Point VaryingFault)) (error : VaryingError) → first_fault points ≡ Some (varying_fault_of error) →
    first_fault (within OfResult points) ≡ Some (fault_of (fault.Result error))
result_fault points error h = first_within OfResult points ∙ ap (option_map OfResult) h
