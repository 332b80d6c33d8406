use Rattle.json_verdict.proofs.Ended.{taken_last, taken_no_more}
use Rattle.json_verdict.proofs.stream.Stream.finish.Goals as goal

pub returns-then-self : goal.returns-then-self
returns-then-self g c = λ input start f.
    rw c.greater.ensures (taken_last c.args.self.now input start _ _ _ f c.if-self.true c.in_ok-status.ensures)

pub returns : goal.returns
returns g c = λ input start f. taken_no_more c.args.self.now input start _ f c.if-self.false
