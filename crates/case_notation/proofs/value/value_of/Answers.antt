use Rattle.case_notation.proofs.Reading.Values.{no_value, none_too, signed_value_none}
use Rattle.case_notation.proofs.value.value_of.Goals as goal

pub returns-then-last-eq105-clause-none : goal.returns-then-last-eq105-clause-none
returns-then-last-eq105-clause-none c =
    none_too c.signed_of.result c.map.result c.map.ensures.variant c.signed_of.ensures.none (λ none. signed_value_none c.args.text.now c.in-Some.number.now c.in-Some.last.now c.in-Some.ensures.cases.0 c.if-last-eq105.true (cc) none)

pub returns-in-None-clause-none : goal.returns-in-None-clause-none
returns-in-None-clause-none c = no_value c.args.text.now c.in-None.ensures.cases
