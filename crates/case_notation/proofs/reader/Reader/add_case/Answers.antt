use Rattle.std.proofs.Common.{arith}
use Rattle.case_notation.proofs.Reading.Stack.{moved, case_added, case_alone}
use Rattle.case_notation.proofs.reader.Reader.add_case.Goals as goal

pub returns-in_default-kind : goal.returns-in_default-kind
returns-in_default-kind c =
    case_alone c.args.self.now.opened.items _ c.in-Some.frame.now (omega (arith, c.args.self.now.opened.ok.0, c.in-Some.ensures.item.3.0)) c.in-Some.ensures.value _ _ c.in_default-kind.not-Cases

pub returns : goal.returns
returns c =
    moved _ _ _ _ (case_added c.args.self.now.opened.items _ c.in-Some.frame.now (omega (arith, c.args.self.now.opened.ok.0, c.in-Some.ensures.item.3.0)) c.in-Some.ensures.value _ _ _ _ _ c.in-Cases.is c.in_ok-push.ensures.pushed) c.want.ensures
