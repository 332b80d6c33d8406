use Rattle.std.proofs.Common.{sym, ◌∙◌}
use Rattle.check_varyings.specs.Varyings.{seen_in}
use Rattle.check_varyings.proofs.Kept.{far_is, is_far, more_is, on_ok}
use Rattle.check_varyings.proofs.item.hold.Goals as goal

pub hold_far-requires : goal.hold_far-requires
hold_far-requires c = is_far c.args.binding c.in-Some.location (sym c.far_location.ensures ∙ c.in-Some.is)

pub returns-in-Some-clause-seen : goal.returns-in-Some-clause-seen
returns-in-Some-clause-seen c =
    let far = far_is (seen_in c.args.state.now) c.args.binding c.in-Some.location (sym c.far_location.ensures ∙ c.in-Some.is) in
    on_ok c.hold_far.result (λ e. e ∙ far ∙ more_is (seen_in c.args.state.now) 0 c.args.binding) c.hold_far.ensures.seen

pub returns-in-None-clause-seen : goal.returns-in-None-clause-seen
returns-in-None-clause-seen c = c.put_near.ensures.seen ∙ more_is (seen_in c.args.state.now) 0 c.args.binding
