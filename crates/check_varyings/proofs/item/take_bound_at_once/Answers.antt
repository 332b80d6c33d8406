use Rattle.std.proofs.Common.{rules, Result, Ok}
use Rattle.std.specs.Prelude.{IsTrue}
use Rattle.ir_arena.specs.declared.span.Refusal.{Refusal}
use Rattle.check_varyings.specs.Varyings.{seen_in}
use Rattle.ir_errors.specs.declared.interface.VaryingError.{VaryingError}
use Rattle.check_varyings.proofs.PlainFaults.{part_answers}
use Rattle.check_varyings.proofs.item.take_bound_at_once.Goals as goal

pub returns-clause-holds : goal.returns-clause-holds
returns-clause-holds c taken =
    let context = c.args.context.now in
    let passed : Result (Unit {0}) (Refusal VaryingError) = Ok tt in
    let holds : IsTrue c.bound_holds.result = search rules in
    part_answers context.place.now context.types.now context.infos.now (seen_in c.args.state.now) c.args.ty c.args.binding passed (c.bound_holds.ensures holds)
