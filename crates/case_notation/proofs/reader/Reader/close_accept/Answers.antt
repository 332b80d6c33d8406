use Rattle.std.proofs.Common.{ap, ◌∙◌, arith}
use Rattle.case_notation.specs.CaseBlocks.{block_from}
use Rattle.case_notation.proofs.Reading.Stack.{moved, accept_closed, no_accept}
use Rattle.case_notation.proofs.reader.Reader.close_accept.Goals as goal

pub returns-in-Accept : goal.returns-in-Accept
returns-in-Accept c =
    moved _ _ _ _ (accept_closed c.args.self.now.opened.items _ c.in-Some.frame.now (omega (arith, c.args.self.now.opened.ok.0, c.in-Some.ensures.item.3.0)) c.in-Some.ensures.value _ _ _ _ c.in-Accept.is (c.block_from.ensures ∙ ap block_from c.replace-list.ensures.value) (c.replace-list.ensures.after ∙ c.new.ensures)) c.want.ensures

pub returns-in_default-kind : goal.returns-in_default-kind
returns-in_default-kind c =
    no_accept c.args.self.now.opened.items _ c.in-Some.frame.now (omega (arith, c.args.self.now.opened.ok.0, c.in-Some.ensures.item.3.0)) c.in-Some.ensures.value _ c.in_default-kind.not-Accept
