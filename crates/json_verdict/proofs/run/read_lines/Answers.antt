use Rattle.std.proofs.Common.{rules}
use Rattle.std.proofs.KnownBytes.{Consumes-trans}
use Rattle.json_verdict.proofs.Ended.{taken_kept}
use Rattle.json_verdict.proofs.run.read_lines.Goals as goal

pub reads-preserved : goal.reads-preserved
reads-preserved g c =
    let (room, input, consumed, f) = c.reads.invariant in (
      search rules,
      _,
      Consumes-trans _ _ _ _ _ consumed c.in_ok-count.ensures.bytes.0,
      taken_kept _ _ _ _ _ (c.in_ok-take_all.ensures input _ f) c.flush.ensures.bytes,
    )
