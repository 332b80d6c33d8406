-- The exit status of a verdict.
use Rattle.std.specs.Prelude.{ℕ}
use Rattle.check_faults.specs.declared.module.ModuleFault.TheVariants as fault
use Rattle.json_answers.specs.declared.verdict.Verdict as judge
use Rattle.json_answers.specs.declared.verdict.Verdict.TheVariants as verdict

-- the exit status that says a verdict
abbrev pub status_of : judge.Verdict → ℕ
status_of (verdict.Accepted m infos) = 0
status_of (verdict.Refused fault.Memory) = 3
status_of (verdict.Refused fault.NotFit) = 1
status_of (verdict.Refused (fault.Global place inner)) = 1
status_of (verdict.Refused (fault.Function place inner)) = 1
status_of (verdict.Refused (fault.EntryPoint place inner)) = 1
status_of (verdict.Unreadable unreadable) = 2
