use Rattle.std.proofs.Common.{sym, ◌∙◌}
use Rattle.check_varyings.specs.Varyings.{far_in, seen_in}
use Rattle.check_varyings.proofs.Kept.{far_location_is, held_less, taken_is}
use Rattle.check_varyings.proofs.item.hold_far.Goals as goal

pub returns-then-has_location-clause-seen : goal.returns-then-has_location-clause-seen
returns-then-has_location-clause-seen c = taken_is (seen_in c.args.state.now) c.args.location (sym c.has_location.ensures ∙ c.if-has_location.true)

pub returns-clause-added : goal.returns-clause-added
returns-clause-added c =
    held_less (far_in c.args.state.now) (far_in c.put_far.new.self) c.args.added.now.items c.push.new.self.items c.args.location
    (sym (far_location_is c.args.state.now.near (far_in c.args.state.now) c.args.location c.requires) ∙ sym c.has_location.ensures ∙ c.if-has_location.false)
    c.in_ok-push.ensures.items c.put_far.result c.put_far.ensures.far c.put_far.ensures.far_err
