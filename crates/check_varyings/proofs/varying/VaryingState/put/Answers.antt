use Rattle.std.proofs.Common.{sym, ◌∙◌}
use Rattle.check_varyings.specs.Varyings.{seen_in}
use Rattle.check_varyings.proofs.Kept.{far_is, is_far, on_ok}
use Rattle.check_varyings.proofs.varying.VaryingState.put.Goals as goal

pub put_far-requires : goal.put_far-requires
put_far-requires c = is_far c.args.binding c.in-Some.location (sym c.far_location.ensures ∙ c.in-Some.is)

pub returns-in-Some-clause-put : goal.returns-in-Some-clause-put
returns-in-Some-clause-put c =
    on_ok c.put_far.result (λ e. e ∙ far_is (seen_in c.args.self.now) c.args.binding c.in-Some.location (sym c.far_location.ensures ∙ c.in-Some.is)) c.put_far.ensures.put
