use Rattle.std.proofs.Common.{sym, ap, ◌∙◌}
use Rattle.std.specs.Result.{result_err}
use Rattle.check_varyings.proofs.item.first_fault_of_bound.Goals as goal

pub returns-in-Ok : goal.returns-in-Ok
returns-in-Ok c = rw c.in-Location.is (sym c.check_location.ensures ∙ ap result_err c.in-Ok.is)

pub returns-in-Err : goal.returns-in-Err
returns-in-Err c = rw (c.in-Location.is, c.refusal.ensures) (sym c.check_location.ensures ∙ ap result_err c.in-Err.is)
