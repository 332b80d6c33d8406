use Rattle.std.proofs.Common.{◌≡◌, None, Some, sym, ap, ◌∙◌}
use Rattle.std.specs.Option.{option_map}
use Rattle.ir_arena.proofs.Points.{first_within}
use Rattle.ir_arena.specs.Points.{first_fault, within}
use Rattle.check_entry.specs.EntryFaults.{fault_of}
use Rattle.check_entry.proofs.EntrySteps.{passes_within, refuses_as}
use Rattle.ir_facts.proofs.Refusals.{refuses_fault}
use Rattle.check_entry.proofs.answers.answer.Goals as goal

pub returns-in-Ok-clause-judges : goal.returns-in-Ok-clause-judges
returns-in-Ok-clause-judges c = λ points h.
    let found : None ≡ first_fault points = rw c.in-Ok.is at h in
    passes_within fault_of points (sym found)

pub returns-in-Err-clause-meets : goal.returns-in-Err-clause-meets
returns-in-Err-clause-meets c = λ points h.
    let found : Some c.in-Err.fault ≡ first_fault points = rw c.in-Err.is at h in
    refuses_fault c.in-Err.fault c.unplaced.result points c.unplaced.ensures found

pub returns-in-Err-clause-judges : goal.returns-in-Err-clause-judges
returns-in-Err-clause-judges c = λ points h.
    let found : Some c.in-Err.fault ≡ first_fault points = rw c.in-Err.is at h in
    refuses_as c.in-Err.fault c.unplaced.result (within fault_of points) c.unplaced.ensures
    (first_within fault_of points ∙ ap (option_map fault_of) (sym found))
