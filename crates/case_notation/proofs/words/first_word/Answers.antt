use Rattle.std.proofs.lemmas.List.Sums.{prefix_len-le-length}
use Rattle.case_notation.specs.Words.{is_space}
use Rattle.case_notation.proofs.Reading.Scan.{is_zero, is_some, no_word, cut_word}
use Rattle.case_notation.proofs.words.first_word.Goals as goal

pub split_at-requires : goal.split_at-requires
split_at-requires c = rw c.space_in_front.ensures (prefix_len-le-length is_space c.args.text.now)

pub returns-then-is_empty : goal.returns-then-is_empty
returns-then-is_empty c =
    no_word c.args.text.now c.split_at.result.1.now _ _ c.space_in_front.ensures c.split_at.ensures.back c.cut_at_space.ensures.long (is_zero _ _ c.is_empty.ensures c.if-is_empty.true)

pub returns : goal.returns
returns c =
    cut_word c.args.text.now c.split_at.result.1.now _ _ _ c.space_in_front.ensures c.split_at.ensures.back c.cut_at_space.ensures (is_some _ _ c.is_empty.ensures c.if-is_empty.false)
