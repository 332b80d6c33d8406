use Rattle.std.proofs.Common.{rules}
use Rattle.check_scope.specs.walk.Place.{place_at}
use Rattle.check_scope.specs.walk.SeenContext.{context_of}
use Rattle.check_subgroups.specs.SubgroupCollective.{collective_points}
use Rattle.check_scope.specs.walk.Table.{known}
use Rattle.check_subgroups.proofs.Subgroups.{collective_is_new}
use Rattle.check_subgroups.proofs.subgroup_collective.validate_collective.Goals as goal

pub returns-in_err-answer-clause-fault : goal.returns-in_err-answer-clause-fault
returns-in_err-answer-clause-fault c =
    let points = collective_points (context_of c.args.context.now) (place_at (known c.args.scope.now)) c.args.collective.now.operation c.args.collective.now.part c.args.collective.now.argument c.args.collective.now.combined in
    let first = c.in_err-answer.ensures.fault points c.check_collective-checked.ensures in
    search (rules, first)

pub returns-in_err-answer-clause-refused : goal.returns-in_err-answer-clause-refused
returns-in_err-answer-clause-refused c =
    let points = collective_points (context_of c.args.context.now) (place_at (known c.args.scope.now)) c.args.collective.now.operation c.args.collective.now.part c.args.collective.now.argument c.args.collective.now.combined in
    let refused = c.in_err-answer.ensures.refused points c.check_collective-checked.ensures in
    search (rules, refused)

pub put-requires-clause-new : goal.put-requires-clause-new
put-requires-clause-new c =
    let context = context_of c.args.context.now in
    let s = place_at (known c.args.scope.now) in
    let points = collective_points context s c.args.collective.now.operation c.args.collective.now.part c.args.collective.now.argument c.args.collective.now.combined in
    let holds = c.in_ok-answer.ensures.fault points c.check_collective-checked.ensures in
    collective_is_new context s c.args.collective.now.operation c.args.collective.now.part c.args.collective.now.argument c.args.collective.now.combined holds

pub returns-clause-fault : goal.returns-clause-fault
returns-clause-fault c =
    let points = collective_points (context_of c.args.context.now) (place_at (known c.args.scope.now)) c.args.collective.now.operation c.args.collective.now.part c.args.collective.now.argument c.args.collective.now.combined in
    c.in_ok-answer.ensures.fault points c.check_collective-checked.ensures
