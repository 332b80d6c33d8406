use Rattle.std.proofs.Common.{length}
use Rattle.case_notation.specs.Views.{state_of}
use Rattle.case_notation.proofs.Reading.Fed.{Fed}
use Rattle.case_notation.proofs.reader.read_body.Given as goal

abbrev pub invariant-loop-word : goal.invariant-loop-word
invariant-loop-word l = Fed l.bench l.text (state_of l.reader) l.rest

abbrev pub decreases-loop-word : goal.decreases-loop-word
decreases-loop-word l = length l.rest
