use Rattle.std.proofs.Common.{rules}
use Rattle.ir_fits.proofs.function.fits_function_with.Goals as goal

-- what edits of the gate leave open

pub returns-then-references_fit : goal.returns-then-references_fit
returns-then-references_fit c = search rules

pub returns-else-references_fit : goal.returns-else-references_fit
returns-else-references_fit c = search rules
