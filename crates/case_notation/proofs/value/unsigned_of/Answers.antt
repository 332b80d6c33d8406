use Rattle.std.proofs.Common.{sym, ◌∙◌, ◌+◌, arith}
use Rattle.std.proofs.lemmas.Int.Digits.{digits_more, digits_value_more}
use Rattle.case_notation.proofs.Reading.Values.{unsigned_unlike, digit_worth, digits_read, no_digit, too_great}
use Rattle.case_notation.proofs.value.unsigned_of.Goals as goal

pub returns-then-not-begins_number-clause-none : goal.returns-then-not-begins_number-clause-none
returns-then-not-begins_number-clause-none c =
    unsigned_unlike c.args.text.now (sym c.begins_number.ensures ∙ c.if-not-begins_number.true)

pub returns-in_default-clause-none : goal.returns-in_default-clause-none
returns-in_default-clause-none c =
    no_digit c.args.text.now c.loop-byte.byte-index (omega arith) c.in_default.ensures

pub returns-then-number-clause-none : goal.returns-then-number-clause-none
returns-then-number-clause-none c =
    let worth = digit_worth _ c.in-Some.ensures.0 c.in-Some.ensures.1 in
    let more = digits_value_more 10 c.args.text.now c.loop-byte.byte-index (omega arith) in
    too_great c.args.text.now (c.loop-byte.byte-index + 1) (omega (arith, more, worth, c.in-Some.ensures.2, c.loop-byte.invariant.value, c.if-number.true))

pub loop-byte-preserved : goal.loop-byte-preserved
loop-byte-preserved c =
    let worth = digit_worth _ c.in-Some.ensures.0 c.in-Some.ensures.1 in
    let more = digits_value_more 10 c.args.text.now c.loop-byte.byte-index (omega arith) in
    record {
      digits = digits_more 10 c.args.text.now c.loop-byte.byte-index (omega arith) c.loop-byte.invariant.digits worth.0;
      value = omega (arith, more, worth, c.in-Some.ensures.2, c.loop-byte.invariant.value);
      low = omega (arith, c.if-number.false);
    }

pub returns-clause-found : goal.returns-clause-found
returns-clause-found c = (
  omega (arith, c.loop-byte.invariant.low),
  rw c.loop-byte.invariant.value (digits_read c.args.text.now c.loop-byte.byte-index (omega arith) (sym c.begins_number.ensures ∙ c.if-not-begins_number.false) c.loop-byte.invariant.digits (rw c.loop-byte.invariant.value at c.loop-byte.invariant.low)),
)
