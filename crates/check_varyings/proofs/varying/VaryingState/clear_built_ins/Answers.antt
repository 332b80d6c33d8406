use Rattle.check_varyings.specs.Varyings.{far_in}
use Rattle.check_varyings.proofs.Kept.{cleared_by}
use Rattle.check_varyings.proofs.varying.VaryingState.clear_built_ins.Goals as goal

pub returns : goal.returns
returns c = cleared_by c.args.self.now.near c.new-self.result (far_in c.args.self.now) c.new-self.ensures
