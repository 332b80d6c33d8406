use Rattle.std.proofs.Common.{◌∙◌, arith}
use Rattle.json_verdict.proofs.Kept.{kept_append}
use Rattle.json_verdict.specs.walk.Stream.{Holds, most}
use Rattle.json_verdict.proofs.text.Bytes.append.Goals as goal

pub returns-in-Ok : goal.returns-in-Ok
unfolding Holds
returns-in-Ok c = λ text held known.
    let room = c.requires.room in
    rw c.in-Ok.is at c.extend_from_slice.ensures.items
    ∙ kept_append most c.args.self.now.kept.items text c.args.bytes.now (omega (arith, room)) (held known)

pub returns-in-Err : goal.returns-in-Err
unfolding Holds
returns-in-Err c = λ text held known. cc
