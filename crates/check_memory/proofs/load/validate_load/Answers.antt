use Rattle.std.proofs.Common.{rules}
use Rattle.check_memory.specs.Load.{load_points}
use Rattle.check_scope.specs.walk.Place.{place_at}
use Rattle.check_scope.specs.walk.SeenContext.{context_of}
use Rattle.check_scope.specs.walk.Table.{known}
use Rattle.check_memory.proofs.Loads.{load_is_allowed}
use Rattle.check_memory.proofs.load.validate_load.Goals as goal

pub returns-in_err-answer-clause-fault : goal.returns-in_err-answer-clause-fault
returns-in_err-answer-clause-fault c =
    let points = load_points (context_of c.args.context.now) (place_at (known c.args.scope.now)) c.args.pointer c.args.loaded in
    let first = c.in_err-answer.ensures.fault points c.check_load-checked.ensures in
    search (rules, first)

pub returns-in_err-answer-clause-refused : goal.returns-in_err-answer-clause-refused
returns-in_err-answer-clause-refused c =
    let points = load_points (context_of c.args.context.now) (place_at (known c.args.scope.now)) c.args.pointer c.args.loaded in
    let refused = c.in_err-answer.ensures.refused points c.check_load-checked.ensures in
    search (rules, refused)

pub put-requires-clause-new : goal.put-requires-clause-new
put-requires-clause-new c =
    let context = context_of c.args.context.now in
    let s = place_at (known c.args.scope.now) in
    let points = load_points context s c.args.pointer c.args.loaded in
    let holds = c.in_ok-answer.ensures.fault points c.check_load-checked.ensures in
    (load_is_allowed context s c.args.pointer c.args.loaded holds).1

pub returns-clause-fault : goal.returns-clause-fault
returns-clause-fault c =
    let points = load_points (context_of c.args.context.now) (place_at (known c.args.scope.now)) c.args.pointer c.args.loaded in
    c.in_ok-answer.ensures.fault points c.check_load-checked.ensures
