use Rattle.std.proofs.Common.{List, sym, subst, ◌∙◌}
use Rattle.ir_arena.specs.Points.{Point}
use Rattle.check_varyings.specs.VaryingFaults.{VaryingFault, varying_fault_of}
use Rattle.check_varyings.specs.Varyings.{Bound, seen_in}
use Rattle.check_varyings.proofs.Kept.{more_is, on_ok}
use Rattle.check_varyings.proofs.Members.{one_part}
use Rattle.check_varyings.proofs.item.check_varying_item.Goals as goal
use Rattle.ir_facts.specs.Answers.{Answers, FirstOf, read_by}

pub returns-in-Some-clause-fault : goal.returns-in-Some-clause-fault
returns-in-Some-clause-fault c =
    let Meant : List (Point VaryingFault) → Type 0 = λ points. Answers (FirstOf points) (read_by varying_fault_of c.check_bound_item.result) in
    let alone = one_part c.args.place.now c.args.types.now c.args.infos.now (seen_in c.args.state.now) (Bound c.args.ty c.in-Some.binding) in
    rw c.in-Some.is (subst Meant (sym alone) c.check_bound_item.ensures.fault)

pub returns-in-Some-clause-seen : goal.returns-in-Some-clause-seen
returns-in-Some-clause-seen c =
    rw c.in-Some.is (on_ok c.check_bound_item.result (λ e. e ∙ more_is (seen_in c.args.state.now) c.args.ty c.in-Some.binding) c.check_bound_item.ensures.seen)
