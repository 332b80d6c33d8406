use Rattle.check_varyings.proofs.SmallSets.{empty_has}
use Rattle.check_varyings.proofs.small_set.SmallSet.new.Goals as goal

pub returns : goal.returns
returns c n = empty_has n
