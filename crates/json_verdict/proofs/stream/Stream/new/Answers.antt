use Rattle.std.proofs.Common.{refl}
use Rattle.json_verdict.proofs.Ended.{taken_none}
use Rattle.json_verdict.proofs.stream.Stream.new.Goals as goal

pub returns : goal.returns
returns c = λ start. taken_none _ start c.new.ensures refl refl
