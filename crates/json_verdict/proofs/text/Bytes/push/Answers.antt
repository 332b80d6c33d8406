use Rattle.std.proofs.Common.{◌∷◌, [], length, ap, ◌∙◌, arith}
use Rattle.json_verdict.proofs.Kept.{kept_push, settled_full}
use Rattle.json_verdict.specs.walk.Stream.{Holds, most}
use Rattle.json_verdict.proofs.text.Bytes.push.Goals as goal

pub returns-then-as_slice-gt-MOST_BYTES : goal.returns-then-as_slice-gt-MOST_BYTES
unfolding Holds
returns-then-as_slice-gt-MOST_BYTES c = λ text held.
    let sized = ap length c.as_slice.ensures.value in
    settled_full c.args.self.now (omega (arith, c.if-as_slice-gt-MOST_BYTES.true, sized)) text (c.args.byte ∷ []) held

pub returns-in-Ok : goal.returns-in-Ok
unfolding Holds
returns-in-Ok c = λ text held known.
    let sized = ap length c.as_slice.ensures.value in
    c.in-Ok.ensures.items ∙ kept_push most c.args.self.now.kept.items text c.args.byte
    (omega (arith, c.if-as_slice-gt-MOST_BYTES.false, sized)) (held known)

pub returns-in-Err : goal.returns-in-Err
unfolding Holds
returns-in-Err c = λ text held known. cc
