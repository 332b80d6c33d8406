use Rattle.std.proofs.Common.{◌≡◌, sym, ap, ◌∙◌, arith, Err}
use Rattle.std.proofs.lemmas.Result.{err_from_is_err_and}
use Rattle.case_notation.specs.declared.case.CaseError.TheVariants.{Unreadable}
use Rattle.case_notation.proofs.Reading.Sayable.{read_is_sayable}
use Rattle.case_notation.proofs.Reading.Whole.{no_options, no_body, case_found}
use Rattle.case_notation.proofs.case.read_case.Goals as goal

pub returns-in_default-options_of-clause-none : goal.returns-in_default-options_of-clause-none
returns-in_default-options_of-clause-none c = λ is.
    no_options _ _ _ c.in-Some.ensures c.in_default-options_of.ensures

pub returns-in_err-body-clause-none : goal.returns-in_err-body-clause-none
returns-in_err-body-clause-none c =
    let p = err_from_is_err_and c.from_residual.result c.from_residual.ensures.1 in
    rw (p.1, p.2) (λ is. no_body _ _ _ c.in-Some.ensures _ _ _ c.in-Some-options_of.text.now (sym c.named.ensures ∙ c.in-Some-named.is) c.in-Some-options_of.ensures.0 (c.in_err-body.ensures.none (let same : c.in_err-body.field-0.0 ≡ Unreadable = cc in ap Err same)))

pub returns-clause-found : goal.returns-clause-found
returns-clause-found c =
    case_found _ _ _ c.in-Some.ensures _ _ _ c.in-Some-options_of.text.now (sym c.named.ensures ∙ c.in-Some-named.is) c.in-Some-options_of.ensures.0 _ c.in_ok-body.ensures.found (omega arith) (c.in-Some-options_of.ensures.1 c.in_ok-body.ensures.printable)

pub returns-clause-sayable : goal.returns-clause-sayable
returns-clause-sayable c =
    read_is_sayable _ _ (case_found _ _ _ c.in-Some.ensures _ _ _ c.in-Some-options_of.text.now (sym c.named.ensures ∙ c.in-Some-named.is) c.in-Some-options_of.ensures.0 _ c.in_ok-body.ensures.found (omega arith) (c.in-Some-options_of.ensures.1 c.in_ok-body.ensures.printable))
