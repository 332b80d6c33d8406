use Rattle.std.proofs.Common.{◌∙◌, ap}
use Rattle.ir_arena.specs.Points.{first_fault}
use Rattle.ir_fits.specs.OfGlobals.{globals_points}
use Rattle.ir_fits.proofs.ExactGlobals.{globals_exact}
use Rattle.ir_misfits.proofs.Tests.{decides}
use Rattle.ir_fits.proofs.fits.fits_globals.Goals as goal

pub returns : goal.returns
returns c =
    let told = c.check_globals_fit.ensures ∙ ap (λ types. first_fault (globals_points c.args.module.now types)) c.as_slice.ensures in
    decides c.check_globals_fit.result c.is_ok.result told c.is_ok.ensures.value (globals_exact c.args.module.now c.args.mod_info.now)
