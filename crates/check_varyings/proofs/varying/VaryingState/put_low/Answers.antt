use Rattle.check_varyings.specs.Varyings.{far_in}
use Rattle.check_varyings.proofs.Kept.{with_low}
use Rattle.check_varyings.proofs.varying.VaryingState.put_low.Goals as goal

pub returns-clause-seen : goal.returns-clause-seen
returns-clause-seen c =
    with_low c.args.self.now.near (far_in c.args.self.now) c.args.location c.insert.new.self c.requires c.insert.ensures
