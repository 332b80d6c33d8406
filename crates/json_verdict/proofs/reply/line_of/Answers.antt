use Rattle.std.specs.Prelude.{string_bytes}
use Rattle.json_verdict.specs.Runs.{IsLineOf}
use Rattle.json_verdict.proofs.reply.line_of.Goals as goal

pub returns-in-Ok : goal.returns-in-Ok
unfolding IsLineOf
returns-in-Ok c = (string_bytes c.in_ok-line.line, c.in_ok-line.ensures, c.in-Ok.ensures.bytes)
