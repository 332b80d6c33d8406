use Rattle.case_notation.proofs.Reading.Head.{at_colon, at_option, at_other, at_end, colon_shown, option_shown}
use Rattle.case_notation.proofs.head.options_of.Goals as goal

pub returns-then-eq : goal.returns-then-eq
returns-then-eq c = (
  at_colon _ _ _ c.in-Some.ensures _ _ _ c.loop-word.invariant.leads (cc),
  λ h. c.loop-word.invariant.printable (c.in-Some.ensures.printable (colon_shown c.in-Some.word.now (cc)) h),
)

pub returns-in_default-take_option : goal.returns-in_default-take_option
returns-in_default-take_option c =
    at_other _ _ _ c.in-Some.ensures _ _ _ c.loop-word.invariant.leads (cc) c.in_default-take_option.ensures

pub loop-word-preserved : goal.loop-word-preserved
loop-word-preserved c = record {
  leads = at_option _ _ _ c.in-Some.ensures _ _ _ c.loop-word.invariant.leads (cc) _ _ c.in-Some-take_option.ensures;
  printable = λ h. c.loop-word.invariant.printable (c.in-Some.ensures.printable (option_shown _ _ c.in-Some.word.now _ c.in-Some-take_option.ensures) h);
}

pub returns : goal.returns
returns c = at_end _ c.in_default.ensures _ _ _ c.loop-word.invariant.leads
