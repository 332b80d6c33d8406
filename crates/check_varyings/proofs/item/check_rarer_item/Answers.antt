use Rattle.std.proofs.Common.{rules, Result, Ok}
use Rattle.ir_arena.specs.declared.span.Refusal.{Refusal}
use Rattle.check_varyings.specs.Varyings.{seen_in}
use Rattle.ir_errors.specs.declared.interface.VaryingError.{VaryingError}
use Rattle.check_varyings.proofs.PlainFaults.{part_answers}
use Rattle.check_varyings.proofs.item.check_rarer_item.Goals as goal

pub returns-in_err-first_fault_of_bound-clause-fault : goal.returns-in_err-first_fault_of_bound-clause-fault
returns-in_err-first_fault_of_bound-clause-fault c =
    let context = c.args.context.now in
    part_answers context.place.now context.types.now context.infos.now (seen_in c.args.state.now) c.args.ty c.args.binding c.from_residual.result (search rules)

pub returns-clause-fault : goal.returns-clause-fault
returns-clause-fault c =
    let context = c.args.context.now in
    let passed : Result (Unit {0}) (Refusal VaryingError) = Ok tt in
    part_answers context.place.now context.types.now context.infos.now (seen_in c.args.state.now) c.args.ty c.args.binding passed c.in_ok-first_fault_of_bound.ensures
