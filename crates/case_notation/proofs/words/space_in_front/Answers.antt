use Rattle.std.proofs.Common.{sym, ◌∙◌, arith, length}
use Rattle.std.proofs.lemmas.List.Sums.{prefix_len_is}
use Rattle.case_notation.specs.Words.{is_space}
use Rattle.case_notation.proofs.words.space_in_front.Goals as goal

pub returns-then-not-is_space : goal.returns-then-not-is_space
returns-then-not-is_space c =
    sym (prefix_len_is is_space c.args.text.now c.loop-i.i 0 (omega arith) (λ k lt. c.loop-i.invariant k lt) (λ lt. sym c.is_space.ensures ∙ c.if-not-is_space.true))

pub returns : goal.returns
returns c =
    sym (prefix_len_is is_space c.args.text.now (length c.args.text.now) 0 (omega arith) (λ k lt. c.loop-i.invariant k (omega arith)) (λ lt. absurd (omega arith)))
