use Rattle.ir_misfits.specs.declared.misfit.Owner.TheVariants.{Module}
use Rattle.ir_misfits.proofs.ExactBodies.{leaf_exact}
use Rattle.ir_misfits.proofs.Tests.{decides}
use Rattle.ir_misfits.proofs.leaf.leaf_fits.Goals as goal

pub returns : goal.returns
returns c =
    let ranges = c.args.ranges.now in
    decides c.check_leaf.result c.is_ok.result c.check_leaf.ensures c.is_ok.ensures.value (leaf_exact ranges.module.now ranges.expressions ranges.earlier Module 0 c.args.statement.now)
