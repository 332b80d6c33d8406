use Rattle.json_verdict.proofs.Cut.{cut_at, none_plain, take_plain}
use Rattle.json_verdict.proofs.stream.cut.Goals as goal

pub returns-in-Some : goal.returns-in-Some
returns-in-Some c =
    let (first, is) = c.in-Some.ensures in
    (take_plain c.args.bytes.now c.in-Some.end first.high first.before, cut_at c.args.bytes.now c.in-Some.end first.high is)

pub returns-in-None : goal.returns-in-None
returns-in-None c = none_plain c.args.bytes.now c.in-None.ensures
