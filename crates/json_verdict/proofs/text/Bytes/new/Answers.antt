use Rattle.json_verdict.proofs.Kept.{kept_none}
use Rattle.json_verdict.specs.walk.Stream.{Holds, most}
use Rattle.json_verdict.proofs.text.Bytes.new.Goals as goal

pub returns : goal.returns
unfolding Holds
returns c = λ known. kept_none most _ c.new.ensures.items
