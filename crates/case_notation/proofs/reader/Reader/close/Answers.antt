use Rattle.std.proofs.Common.{arith}
use Rattle.case_notation.proofs.Reading.Stack.{moved, close_an_accept, close_a_turn, close_continuing, close_a_block, close_an_if, close_a_case, no_list}
use Rattle.case_notation.proofs.reader.Reader.close.Goals as goal

pub returns-in-Accept : goal.returns-in-Accept
returns-in-Accept c =
    moved _ _ _ _ (close_an_accept c.args.self.now.opened.items _ c.in-Some.frame.now (omega (arith, c.args.self.now.opened.ok.0, c.in-Some.ensures.item.3.0)) c.in-Some.ensures.value _ _ c.in-Accept.is) c.close_accept.ensures

pub returns-in-Turn : goal.returns-in-Turn
returns-in-Turn c =
    moved _ _ _ _ (close_a_turn c.args.self.now.opened.items _ c.in-Some.frame.now (omega (arith, c.args.self.now.opened.ok.0, c.in-Some.ensures.item.3.0)) c.in-Some.ensures.value _ c.in-Turn.is) c.close_turn.ensures

pub returns-in-Continuing : goal.returns-in-Continuing
returns-in-Continuing c =
    moved _ _ _ _ (close_continuing c.args.self.now.opened.items _ c.in-Some.frame.now (omega (arith, c.args.self.now.opened.ok.0, c.in-Some.ensures.item.3.0)) c.in-Some.ensures.value _ _ c.in-Continuing.is) c.want.ensures

pub returns-in-Block : goal.returns-in-Block
returns-in-Block c =
    moved _ _ _ _ (close_a_block c.args.self.now.opened.items _ c.in-Some.frame.now (omega (arith, c.args.self.now.opened.ok.0, c.in-Some.ensures.item.3.0)) c.in-Some.ensures.value _ c.in-Block.is) c.close_block.ensures

pub returns-in-Reject : goal.returns-in-Reject
returns-in-Reject c =
    moved _ _ _ _ (close_an_if c.args.self.now.opened.items _ c.in-Some.frame.now (omega (arith, c.args.self.now.opened.ok.0, c.in-Some.ensures.item.3.0)) c.in-Some.ensures.value _ _ _ c.in-Reject.is) c.close_if.ensures

pub returns-in-Case : goal.returns-in-Case
returns-in-Case c =
    moved _ _ _ _ (close_a_case c.args.self.now.opened.items _ c.in-Some.frame.now (omega (arith, c.args.self.now.opened.ok.0, c.in-Some.ensures.item.3.0)) c.in-Some.ensures.value _ _ _ c.in-Case.is) c.close_case.ensures

pub returns-in-Cases : goal.returns-in-Cases
returns-in-Cases c = no_list c.args.self.now.opened.items _ c.in-Some.frame.now (omega (arith, c.args.self.now.opened.ok.0, c.in-Some.ensures.item.3.0)) c.in-Some.ensures.value _ _ _ c.in-Cases.is
