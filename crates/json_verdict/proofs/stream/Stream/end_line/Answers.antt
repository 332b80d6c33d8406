use Rattle.std.proofs.Common.{refl}
use Rattle.json_verdict.proofs.Ended.{taken_end}
use Rattle.json_verdict.proofs.stream.Stream.end_line.Goals as goal

pub returns : goal.returns
returns g c = λ input start f.
    taken_end c.args.self.now _ input start _ _ _ f c.in_ok-status.ensures c.clear.ensures refl c.greater-self.ensures
