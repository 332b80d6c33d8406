use Rattle.json_verdict.proofs.Told.{told_reply}
use Rattle.json_verdict.proofs.reply.reply_to.Goals as goal

pub returns : goal.returns
returns g c =
    let examined = c.examine-examined.result in
    told_reply c.reply-replied.result c.args.form examined.id examined.verdict examined.misfit c.args.bytes.now _ _
    c.examine-examined.ensures.judged c.examine-examined.ensures.misfit c.examine-examined.ensures.id c.reply-replied.ensures
