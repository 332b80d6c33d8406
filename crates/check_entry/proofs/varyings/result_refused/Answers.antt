use Rattle.std.proofs.Common.{◌≡◌, Some, sym, ap, ◌∙◌}
use Rattle.ir_arena.specs.Points.{first_fault, within}
use Rattle.check_varyings.specs.VaryingFaults.{varying_fault_of}
use Rattle.check_entry.specs.EntryFaults.{OfResult, fault_of}
use Rattle.check_entry.proofs.EntrySteps.{refuses_as, result_fault}
use Rattle.check_entry.proofs.varyings.result_refused.Goals as goal

pub returns-in-Fault : goal.returns-in-Fault
returns-in-Fault c = λ points h.
    let found : first_fault points ≡ Some (varying_fault_of c.in-Fault.fault) = rw c.in-Fault.is at h in
    refuses_as c.into_other.result c.new.result (within OfResult points) c.new.ensures
    (result_fault points c.in-Fault.fault found ∙ ap (λ e. Some (fault_of e)) (sym c.into_other.ensures))
