use Rattle.std.proofs.Common.{◌≡◌, true, refl, rules}
use Rattle.json_verdict.specs.walk.Lines.{is_begun}
use Rattle.json_verdict.proofs.Ended.{taken_nothing, taken_part, no_byte}
use Rattle.json_verdict.proofs.stream.Stream.take.Goals as goal

pub returns-then-is_empty : goal.returns-then-is_empty
returns-then-is_empty c = λ input start written f.
    taken_nothing c.args.self.now input c.args.part.now start written (no_byte c.args.part.now (search rules)) f

pub returns : goal.returns
returns c = λ input start written f.
    let more : is_begun c.args.part.now ≡ true = search rules in
    taken_part c.args.self.now _ input c.args.part.now start written c.requires.plain more f c.push_all.ensures refl refl
