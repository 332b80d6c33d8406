use Rattle.std.proofs.Common.{◌≡◌, Some, sym, ap, ◌∙◌}
use Rattle.ir_arena.specs.Points.{first_fault, within}
use Rattle.check_varyings.specs.VaryingFaults.{varying_fault_of}
use Rattle.check_entry.specs.EntryFaults.{OfArgument, fault_of}
use Rattle.check_faults.specs.declared.entry.EntryPointError.TheVariants as fault
use Rattle.check_entry.proofs.EntrySteps.{argument_fault, refuses_as}
use Rattle.check_entry.proofs.varyings.argument_refused.Goals as goal

pub returns-in-Fault : goal.returns-in-Fault
returns-in-Fault c = λ points h.
    let found : first_fault points ≡ Some (varying_fault_of c.in-Fault.fault) = rw c.in-Fault.is at h in
    refuses_as (fault.Argument c.args.index c.into_inner.result) c.unplaced.result (within (OfArgument c.args.index) points) c.unplaced.ensures
    (argument_fault c.args.index points c.in-Fault.fault found ∙ ap (λ e. Some (fault_of (fault.Argument c.args.index e))) (sym c.into_inner.ensures))
