use Rattle.std.proofs.Common.{sym}
use Rattle.ir_fits.proofs.ExactEntries.{entry_exact}
use Rattle.ir_fits.proofs.entry.check_entry_fits.Goals as goal

pub returns-then-fits_entry : goal.returns-then-fits_entry
returns-then-fits_entry c =
    sym ((entry_exact c.args.index c.args.ep.now c.args.module.now).passes (c.fits_entry.ensures.0 c.if-fits_entry.true))
