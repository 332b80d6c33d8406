use Rattle.std.proofs.Common.{◌<◌, ℕ, List, length}
use Rattle.std.specs.Io.KnownBytes.{Consumes}
use Rattle.json_verdict.specs.walk.Lines.{HasTaken}
use Rattle.json_verdict.proofs.run.read_lines.Given as goal

abbrev pub invariant-reads : goal.invariant-reads
invariant-reads g l =
    (0 < length l.chunk) × (input : List ℕ) × Consumes (g.R.Read.remaining l.fn.reader) (g.R.Read.remaining l.reader) input
    × HasTaken l.stream input (g.W.Write.contents l.fn.writer) (g.W.Write.contents l.writer)
