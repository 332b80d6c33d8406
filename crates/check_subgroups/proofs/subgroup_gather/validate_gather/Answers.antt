use Rattle.std.proofs.Common.{rules}
use Rattle.check_scope.specs.walk.Place.{place_at}
use Rattle.check_scope.specs.walk.SeenContext.{context_of}
use Rattle.check_subgroups.specs.SubgroupGather.{gather_points}
use Rattle.check_scope.specs.walk.Table.{known}
use Rattle.check_subgroups.proofs.Subgroups.{gather_is_new}
use Rattle.check_subgroups.proofs.subgroup_gather.validate_gather.Goals as goal

pub returns-in_err-answer-clause-fault : goal.returns-in_err-answer-clause-fault
returns-in_err-answer-clause-fault c =
    let points = gather_points (context_of c.args.context.now) (place_at (known c.args.scope.now)) c.args.mode.now c.args.argument c.args.gathered in
    let first = c.in_err-answer.ensures.fault points c.check_gather-checked.ensures in
    search (rules, first)

pub returns-in_err-answer-clause-refused : goal.returns-in_err-answer-clause-refused
returns-in_err-answer-clause-refused c =
    let points = gather_points (context_of c.args.context.now) (place_at (known c.args.scope.now)) c.args.mode.now c.args.argument c.args.gathered in
    let refused = c.in_err-answer.ensures.refused points c.check_gather-checked.ensures in
    search (rules, refused)

pub put-requires-clause-new : goal.put-requires-clause-new
put-requires-clause-new c =
    let context = context_of c.args.context.now in
    let s = place_at (known c.args.scope.now) in
    let points = gather_points context s c.args.mode.now c.args.argument c.args.gathered in
    let holds = c.in_ok-answer.ensures.fault points c.check_gather-checked.ensures in
    gather_is_new context s c.args.mode.now c.args.argument c.args.gathered holds

pub returns-clause-fault : goal.returns-clause-fault
returns-clause-fault c =
    let points = gather_points (context_of c.args.context.now) (place_at (known c.args.scope.now)) c.args.mode.now c.args.argument c.args.gathered in
    c.in_ok-answer.ensures.fault points c.check_gather-checked.ensures
