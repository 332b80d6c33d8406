use Rattle.std.proofs.Common.{sym, ap, ◌∙◌}
use Rattle.check_varyings.specs.CodeVaryings.{far_location, location_of}
use Rattle.check_varyings.specs.Varyings.{far_in, seen_in}
use Rattle.check_varyings.proofs.Kept.{is_near, low_is, with_built_in}
use Rattle.check_varyings.proofs.varying.VaryingState.put_near.Goals as goal

pub returns-in-BuiltIn-clause-seen : goal.returns-in-BuiltIn-clause-seen
returns-in-BuiltIn-clause-seen c =
    rw c.in-BuiltIn.is (with_built_in c.args.self.now.near (far_in c.args.self.now) c.insert.new.self c.in-BuiltIn.built_in (rw (c.number_of.ensures.number, c.canonical.ensures) at c.insert.ensures))

pub put_low-requires : goal.put_low-requires
put_low-requires c = is_near c.in-Location.location (sym (ap far_location c.in-Location.is) ∙ c.requires)

pub returns-in-Location-clause-seen : goal.returns-in-Location-clause-seen
returns-in-Location-clause-seen c =
    c.put_low.ensures.seen ∙ low_is (seen_in c.args.self.now) c.args.binding c.in-Location.location (ap location_of c.in-Location.is)
