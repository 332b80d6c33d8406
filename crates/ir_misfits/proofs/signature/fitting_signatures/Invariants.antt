use Rattle.std.proofs.Common.{◌≡◌, ◌↔◌, length, true}
use Rattle.ir_facts.specs.Each.{EachAt}
use Rattle.ir_facts.specs.FitsBody.{CalleeFits}
use Rattle.ir_misfits.proofs.signature.fitting_signatures.Given as goal

-- one mark for each function so far
abbrev pub invariant-loop-fun : goal.invariant-loop-fun
invariant-loop-fun l =
    record {
      place : length l.marks.items ≡ l.fun-index;
      exact : EachAt (λ h mark. (mark ≡ true) ↔ CalleeFits l.«module» h) l.marks.items;
    }
