use Rattle.check_flow.specs.Emit.{emitted_points}
use Rattle.check_scope.specs.walk.Place.{place_at}
use Rattle.check_scope.specs.walk.SeenContext.{context_of}
use Rattle.check_scope.specs.walk.Table.{known}
use Rattle.check_flow.proofs.emit.first_fault_of_emitted.Goals as goal

pub returns-clause-fault : goal.returns-clause-fault
returns-clause-fault c =
    let place = place_at (known c.args.scope.now) in
    c.answer.ensures.fault (emitted_points (context_of c.args.context.now) place place c.args.handle) c.check_emitted_points-checked.ensures

pub returns-clause-refused : goal.returns-clause-refused
returns-clause-refused c =
    let place = place_at (known c.args.scope.now) in
    c.answer.ensures.refused (emitted_points (context_of c.args.context.now) place place c.args.handle) c.check_emitted_points-checked.ensures
