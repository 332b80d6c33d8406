use Rattle.std.proofs.Common.{arith}
use Rattle.std.proofs.KnownBytes.{Consumes-trans}
use Rattle.case_run.proofs.Cases.{take_mid}
use Rattle.case_run.proofs.run.fill.Goals as goal

pub loop-at-preserved : goal.loop-at-preserved
loop-at-preserved g c =
    let bound = c.in_ok-count.ensures.bound.0 in
    record {
      within = omega (arith, bound);
      taken = rw (take_mid c.loop-at.at c.in_ok-count.count c.loop-at.buffer c.read.new.buf _ (omega arith) bound) (Consumes-trans _ _ _ _ _ c.loop-at.invariant.taken c.in_ok-count.ensures.bytes.0);
    }
