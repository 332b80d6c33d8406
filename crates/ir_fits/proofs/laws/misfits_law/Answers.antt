use Rattle.ir_fits.proofs.ExactTypes.{types_exact}
use Rattle.ir_fits.proofs.ExactGlobals.{globals_exact}
use Rattle.ir_fits.proofs.ExactEntries.{entry_exact}
use Rattle.ir_facts.specs.Infos.{empty_info}
use Rattle.ir_fits.proofs.ExactFunctions.{function_exact}
use Rattle.ir_fits.proofs.laws.misfits_law.Goals as goal

pub returns-clause-types : goal.returns-clause-types
returns-clause-types c = λ m. let e = types_exact m in (e.holds, e.passes)

pub returns-clause-globals : goal.returns-clause-globals
returns-clause-globals c = λ m types. let e = globals_exact m (record empty_info { global_types = types }) in (e.holds, e.passes)

pub returns-clause-functions : goal.returns-clause-functions
returns-clause-functions c = λ of f m earlier. let e = function_exact of f m earlier in (e.holds, e.passes)

pub returns-clause-entries : goal.returns-clause-entries
returns-clause-entries c = λ k p m. let e = entry_exact k p m in (e.holds, e.passes)
