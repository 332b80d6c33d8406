use Rattle.check_laws.proofs.Chains.{chains_are_kept, none_is_vetted, one_more_is_vetted, fits_calls_below}
use Rattle.check_laws.proofs.laws.chains_law.Goals as goal

pub returns-clause-kept : goal.returns-clause-kept
returns-clause-kept c = chains_are_kept

pub returns-clause-none : goal.returns-clause-none
returns-clause-none c = none_is_vetted

pub returns-clause-more : goal.returns-clause-more
returns-clause-more c = one_more_is_vetted

pub returns-clause-calls : goal.returns-clause-calls
returns-clause-calls c = fits_calls_below
