use Rattle.check_varyings.specs.Varyings.{far_in}
use Rattle.check_varyings.proofs.Kept.{on_err, on_ok, same_far, with_far}
use Rattle.check_varyings.proofs.varying.VaryingState.put_far.Goals as goal

pub returns-clause-put : goal.returns-clause-put
returns-clause-put c =
    on_ok c.insert.result (with_far c.args.self.now.near (far_in c.args.self.now) c.args.location _ c.requires) c.insert.ensures.put

pub returns-clause-err : goal.returns-clause-err
returns-clause-err c =
    on_err c.insert.result (same_far c.args.self.now.near _ (far_in c.args.self.now)) c.insert.ensures.err
