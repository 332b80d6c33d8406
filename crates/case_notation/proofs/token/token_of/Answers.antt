use Rattle.std.proofs.Common.{sym, ◌∙◌}
use Rattle.case_notation.proofs.Reading.Values.{none_too}
use Rattle.case_notation.proofs.Reading.Tokens.{shared_found, own_found, no_token}
use Rattle.case_notation.proofs.token.token_of.Goals as goal

pub returns-in-Some-clause-found : goal.returns-in-Some-clause-found
returns-in-Some-clause-found c =
    shared_found c.args.bench c.args.word.now c.in-Some.token (sym c.shared_meaning_of.ensures ∙ c.in-Some.is)

pub returns-in-Some-own_meaning_of-clause-found : goal.returns-in-Some-own_meaning_of-clause-found
returns-in-Some-own_meaning_of-clause-found c =
    own_found c.args.bench c.args.word.now c.in-Some-own_meaning_of.token (sym c.own_meaning_of.ensures ∙ c.in-Some-own_meaning_of.is)

pub returns-clause-none : goal.returns-clause-none
returns-clause-none c =
    none_too c.value_of.result c.map.result c.map.ensures.variant c.value_of.ensures.none (no_token c.args.bench c.args.word.now (sym c.shared_meaning_of.ensures ∙ c.in_default.is) (sym c.own_meaning_of.ensures ∙ c.in_default-own_meaning_of.is))
