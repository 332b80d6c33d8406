use Rattle.check_varyings.proofs.SmallSets.{inserted_has}
use Rattle.check_varyings.proofs.small_set.SmallSet.insert.Goals as goal

pub returns : goal.returns
returns c n = inserted_has c.args.self.now.bits c.args.number n c.requires
