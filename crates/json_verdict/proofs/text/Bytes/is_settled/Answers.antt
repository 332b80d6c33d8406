use Rattle.std.proofs.Common.{length, ap, arith}
use Rattle.json_verdict.proofs.Kept.{settled_full, settled_lost}
use Rattle.json_verdict.proofs.text.Bytes.is_settled.Goals as goal

pub returns-then-self : goal.returns-then-self
returns-then-self c = settled_lost c.args.self.now c.if-self.true

pub returns-then-as_slice-gt-MOST_BYTES : goal.returns-then-as_slice-gt-MOST_BYTES
returns-then-as_slice-gt-MOST_BYTES c =
    let sized = ap length c.as_slice.ensures.value in
    settled_full c.args.self.now (omega (arith, c.if-as_slice-gt-MOST_BYTES.true, sized))
