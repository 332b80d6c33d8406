use Rattle.check_varyings.proofs.holds.bound_holds.Goals as goal

pub returns-in-Location : goal.returns-in-Location
returns-in-Location c = rw c.in-Location.is c.location_holds.ensures
