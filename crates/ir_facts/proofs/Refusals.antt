-- What an answer says of points that stand one behind another, and of judgements that follow each other.
use Rattle.std.proofs.Common.{◌≡◌, List, Option, None, Some, Ok, Err, Result, ◌++◌, sym, ap, ◌∙◌}
use Rattle.std.specs.Prelude.{IsErr}
use Rattle.std.specs.Option.{option_or}
use Rattle.std.specs.Result.{result_err}
use Rattle.ir_arena.specs.declared.span.Refusal.{Refusal}
use Rattle.ir_arena.specs.declared.span.Refusal.TheVariants as refusal
use Rattle.ir_facts.specs.Answers.{IsFirstFault, Answers, FirstOf, Exactly, leaving, read_by}
use Rattle.ir_arena.specs.Points.{and_then, Point, first_fault}
use Rattle.ir_arena.specs.Refusals.{IsRefusalFor}
use Rattle.ir_arena.proofs.Points.{first_of_both}

-- the refusal for the first fault
pub refuses_fault : {E : Type 0} (fault : E) (given : Refusal E) (points : List (Point E)) → IsRefusalFor fault given → Some fault ≡ first_fault points → IsFirstFault points given
refuses_fault fault (refusal.Fault f) points e h = sym h ∙ ap Some (sym e)
refuses_fault fault refusal.Memory points e h = tt

-- a refusal at the first points of what is left, which decide the whole
pub first_refused : {E : Type 0} (given : Refusal E) (here behind whole : List (Point E)) → first_fault (here ++ behind) ≡ first_fault whole → IsFirstFault here given → IsFirstFault whole given
first_refused (refusal.Fault f) here behind whole e first =
    sym e ∙ first_of_both here behind ∙ ap (λ o. option_or o (first_fault behind)) first
first_refused refusal.Memory here behind whole e first = tt

-- a refusal at the first of them
pub refuses_first : {T E : Type 0} (r : Result T (Refusal E)) (first second : List (Point E)) → IsErr r → Answers (FirstOf first) r → Answers (FirstOf (first ++ second)) r
refuses_first (Err (refusal.Fault f)) first second e h = first_of_both first second ∙ ap (λ o. option_or o (first_fault second)) h
refuses_first (Err refusal.Memory) first second e h = tt
refuses_first (Ok t) first second e h = cc

-- an answer at the second, where no point of the first fails
pub refuses_second : {T E : Type 0} (r : Result T (Refusal E)) (first second : List (Point E)) → first_fault first ≡ None → Answers (FirstOf second) r → Answers (FirstOf (first ++ second)) r
refuses_second (Ok t) first second e h = first_of_both first second ∙ ap (λ o. option_or o (first_fault second)) e ∙ h
refuses_second (Err (refusal.Fault f)) first second e h = first_of_both first second ∙ ap (λ o. option_or o (first_fault second)) e ∙ h
refuses_second (Err refusal.Memory) first second e h = tt

-- a refusal stays one, however its fault is read
pub stays_refused : {A E F : Type 0} (read : E → F) (r : Result A (Refusal E)) → IsErr r → IsErr (read_by read r)
stays_refused read (Err refused) e = e
stays_refused read (Ok x) e = e

pub passes : {S E : Type 0} (o : Result S E) (f : S → Result S E) (st end : S) → o ≡ Ok st → f st ≡ Ok end → and_then o f ≡ Ok end
passes o f st end e g = ap (λ z. and_then z f) e ∙ g

pub stops_first : {S E : Type 0} (e : Refusal E) (o : Result S E) (f : S → Result S E) → Answers (Exactly o) (Err e) → Answers (Exactly (and_then o f)) (Err e)
stops_first (refusal.Fault x) o f h = ap (λ z. and_then z f) h
stops_first refusal.Memory o f h = tt

pub stops_next : {S E : Type 0} (e : Refusal E) (o : Result S E) (f : S → Result S E) (st : S) → o ≡ Ok st → Answers (Exactly (f st)) (Err e) → Answers (Exactly (and_then o f)) (Err e)
stops_next (refusal.Fault x) o f st e h = ap (λ z. and_then z f) e ∙ h
stops_next refusal.Memory o f st e h = tt

pub answers_next : {S T E : Type 0} (r : Result T (Refusal E)) (o : Result S E) (f : S → Result S E) (st end : S) → o ≡ Ok st → Answers (Exactly (f st)) (leaving end r) → Answers (Exactly (and_then o f)) (leaving end r)
answers_next (Ok n) o f st end e h = ap (λ z. and_then z f) e ∙ h
answers_next (Err x) o f st end e h = stops_next x o f st e h

-- where the first leaves a state, the next from there is the whole
pub next_is : {S E : Type 0} (whole o : Result S E) (f : S → Result S E) (st : S) → whole ≡ and_then o f → o ≡ Ok st → f st ≡ whole
next_is whole o f st e n = sym (e ∙ ap (λ z. and_then z f) n)

-- a fault of the first points, and one behind them
pub fault_first : {T Fault : Type 0} (r : Result T Fault) (ps qs : List (Point Fault)) → IsErr r → result_err r ≡ first_fault ps → result_err r ≡ first_fault (ps ++ qs)
fault_first (Ok t) ps qs err e = cc
fault_first (Err f) ps qs err e = ap (λ o. option_or o (first_fault qs)) e ∙ sym (first_of_both ps qs)

pub fault_second : {Fault : Type 0} (o : Option Fault) (ps qs : List (Point Fault)) → first_fault ps ≡ None → o ≡ first_fault qs → o ≡ first_fault (ps ++ qs)
fault_second o ps qs none e =
    e ∙ sym (first_of_both ps qs ∙ ap (λ z. option_or z (first_fault qs)) none)
