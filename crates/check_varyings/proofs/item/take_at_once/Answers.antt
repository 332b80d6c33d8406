use Rattle.std.proofs.Common.{◌≡◌, None, List, sym, subst, ◌∙◌}
use Rattle.ir_arena.specs.Points.{Point, first_fault}
use Rattle.check_varyings.specs.VaryingFaults.{VaryingFault}
use Rattle.check_varyings.specs.Varyings.{Bound, seen_in}
use Rattle.check_varyings.proofs.Kept.{more_is}
use Rattle.check_varyings.proofs.Members.{one_part}
use Rattle.check_varyings.proofs.item.take_at_once.Goals as goal

pub returns-in-Some-clause-holds : goal.returns-in-Some-clause-holds
returns-in-Some-clause-holds c taken =
    let alone = one_part c.args.place.now c.args.types.now c.args.infos.now (seen_in c.args.state.now) (Bound c.args.ty c.in-Some.binding) in
    rw c.in-Some.is (subst (λ (points : List (Point VaryingFault)). first_fault points ≡ None) (sym alone) (c.take_bound_at_once.ensures.holds taken))

pub returns-in-Some-clause-seen : goal.returns-in-Some-clause-seen
returns-in-Some-clause-seen c taken =
    rw c.in-Some.is (c.take_bound_at_once.ensures.seen taken ∙ more_is (seen_in c.args.state.now) c.args.ty c.in-Some.binding)
