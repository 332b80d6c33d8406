use Rattle.ir_fits.proofs.ExactTypes.{types_exact}
use Rattle.ir_misfits.proofs.Tests.{decides}
use Rattle.ir_fits.proofs.fits.fits_types.Goals as goal

pub returns : goal.returns
returns c = decides c.check_types_fit.result c.is_ok.result c.check_types_fit.ensures c.is_ok.ensures.value (types_exact c.args.module.now)
