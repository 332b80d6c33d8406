use Rattle.std.proofs.Common.{◌≡◌, true, length}
use Rattle.case_notation.specs.Lookup.{options_of}
use Rattle.case_notation.specs.Words.{IsPrintable, words_of}
use Rattle.case_notation.proofs.head.options_of.Given as goal

abbrev pub invariant-loop-word : goal.invariant-loop-word
invariant-loop-word l = record {
  leads : options_of l.flags.expressions l.flags.blocks (words_of l.rest) ≡ options_of true true (words_of l.text);
  printable : IsPrintable l.rest → IsPrintable l.text;
}

abbrev pub decreases-loop-word : goal.decreases-loop-word
decreases-loop-word l = length l.rest
