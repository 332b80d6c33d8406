use Rattle.std.proofs.Common.{sym, ◌∙◌}
use Rattle.case_notation.proofs.Reading.Values.{signed_read, signed_unlike, signed_bytes, signed_none}
use Rattle.case_notation.proofs.value.signed_of.Goals as goal

pub returns-then-not-begins_signed-clause-none : goal.returns-then-not-begins_signed-clause-none
returns-then-not-begins_signed-clause-none c =
    signed_unlike c.args.text.now (sym c.begins_signed.ensures ∙ c.if-not-begins_signed.true)

pub returns-in-Ok-clause-found : goal.returns-in-Ok-clause-found
returns-in-Ok-clause-found c =
    let same = c.in-Ok.ensures.cases.0 in
    rw (← same) (signed_read c.in-Ok.text.now c.parse.result _ (rw same (sym c.begins_signed.ensures ∙ c.if-not-begins_signed.false)) c.parse.ensures.value.0 c.ok.ensures.value)

pub returns-in-Ok-clause-none : goal.returns-in-Ok-clause-none
returns-in-Ok-clause-none c =
    let same = c.in-Ok.ensures.cases.0 in
    rw (← same) (signed_none c.in-Ok.text.now c.parse.result _ c.parse.ensures.value.0 c.ok.ensures.value)

pub returns-in-Err-clause-none : goal.returns-in-Err-clause-none
returns-in-Err-clause-none c = signed_bytes c.args.text.now c.in-Err.ensures.cases.0
