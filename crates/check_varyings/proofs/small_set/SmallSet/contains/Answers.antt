use Rattle.std.proofs.lemmas.Nat.Bits.{shr_and_one}
use Rattle.check_varyings.proofs.small_set.SmallSet.contains.Goals as goal

pub returns : goal.returns
returns c = rw shr_and_one
