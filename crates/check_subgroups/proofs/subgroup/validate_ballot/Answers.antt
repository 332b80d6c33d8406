use Rattle.std.proofs.Common.{rules}
use Rattle.check_scope.specs.walk.Place.{place_at}
use Rattle.check_scope.specs.walk.SeenContext.{context_of}
use Rattle.check_subgroups.specs.Subgroup.{ballot_points}
use Rattle.check_scope.specs.walk.Table.{known}
use Rattle.check_subgroups.proofs.Subgroups.{ballot_is_new}
use Rattle.check_subgroups.proofs.subgroup.validate_ballot.Goals as goal

pub returns-in_err-answer-clause-fault : goal.returns-in_err-answer-clause-fault
returns-in_err-answer-clause-fault c =
    let points = ballot_points (context_of c.args.context.now) (place_at (known c.args.scope.now)) c.args.ballot c.args.predicate.now in
    let first = c.in_err-answer.ensures.fault points c.check_ballot-checked.ensures in
    search (rules, first)

pub returns-in_err-answer-clause-refused : goal.returns-in_err-answer-clause-refused
returns-in_err-answer-clause-refused c =
    let points = ballot_points (context_of c.args.context.now) (place_at (known c.args.scope.now)) c.args.ballot c.args.predicate.now in
    let refused = c.in_err-answer.ensures.refused points c.check_ballot-checked.ensures in
    search (rules, refused)

pub put-requires-clause-new : goal.put-requires-clause-new
put-requires-clause-new c =
    let context = context_of c.args.context.now in
    let s = place_at (known c.args.scope.now) in
    let points = ballot_points context s c.args.ballot c.args.predicate.now in
    let holds = c.in_ok-answer.ensures.fault points c.check_ballot-checked.ensures in
    ballot_is_new context s c.args.ballot c.args.predicate.now holds

pub returns-clause-fault : goal.returns-clause-fault
returns-clause-fault c =
    let points = ballot_points (context_of c.args.context.now) (place_at (known c.args.scope.now)) c.args.ballot c.args.predicate.now in
    c.in_ok-answer.ensures.fault points c.check_ballot-checked.ensures
