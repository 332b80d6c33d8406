use Rattle.std.proofs.Common.{sym, ap, ◌∙◌, arith, length}
use Rattle.std.specs.Prelude.{not}
use Rattle.std.proofs.lemmas.List.Sums.{prefix_len_is}
use Rattle.case_notation.specs.Scanning.{is_other}
use Rattle.case_notation.proofs.Reading.Scan.{cut_there, cut_nowhere}
use Rattle.case_notation.proofs.words.cut_at_space.Goals as goal

pub returns-then-is_space : goal.returns-then-is_space
returns-then-is_space c =
    cut_there c.args.text.now _ _ c.loop-i.i (prefix_len_is is_other c.args.text.now c.loop-i.i 0 (omega arith) (λ k lt. ap not (c.loop-i.invariant k lt)) (λ lt. ap not (sym c.is_space.ensures ∙ c.if-is_space.true))) (omega arith) (sym c.is_space.ensures ∙ c.if-is_space.true) c.split_at.ensures.front c.split_at.ensures.front_len c.split_at-then-is_space.ensures.back

pub returns : goal.returns
returns c =
    cut_nowhere c.args.text.now _ _ (prefix_len_is is_other c.args.text.now (length c.args.text.now) 0 (omega arith) (λ k lt. ap not (c.loop-i.invariant k (omega arith))) (λ lt. absurd (omega arith))) c.split_at-2.ensures.front c.split_at-2.ensures.front_len c.split_at-2.ensures.back
