use Rattle.std.proofs.Common.{length, arith}
use Rattle.case_run.proofs.Cases.{heard}
use Rattle.case_run.proofs.run.reply_within.Goals as goal

pub returns : goal.returns
returns g c =
    let h = c.in_ok-count.ensures.bytes in
    let r = c.reply_to.ensures in
    heard _ (length c.fill.new.buffer) _ _ (omega arith) h r
