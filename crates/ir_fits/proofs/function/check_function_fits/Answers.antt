use Rattle.std.proofs.Common.{sym}
use Rattle.ir_fits.proofs.ExactFunctions.{function_exact}
use Rattle.ir_fits.proofs.function.check_function_fits.Goals as goal

pub returns-then-fits_function_with : goal.returns-then-fits_function_with
returns-then-fits_function_with c =
    sym ((function_exact c.args.owner c.args.fun.now c.args.module.now c.args.earlier).passes (c.fits_function_with.ensures.0 c.if-fits_function_with.true))
