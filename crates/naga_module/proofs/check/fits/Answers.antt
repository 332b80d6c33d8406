use Rattle.std.proofs.Common.{rules}
use Rattle.naga_module.proofs.check.fits.Goals as goal

-- what edits of the gate leave open

pub returns-then-fits_types : goal.returns-then-fits_types
returns-then-fits_types g c = search rules
