use Rattle.std.proofs.Common.{rules, [], sym, ◌∙◌}
use Rattle.check_varyings.specs.Varyings.{member_part, member_parts, part_points, points_behind, seen_in}
use Rattle.check_varyings.proofs.Members.{next, passed_at, refused_at, rest_turns, seen_turns}
use Rattle.check_varyings.proofs.item.check_members.Goals as goal

pub returns-in_err-check_member-clause-fault : goal.returns-in_err-check_member-clause-fault
returns-in_err-check_member-clause-fault c =
    let at = c.args.context.now in
    let place = at.place.now in
    let types = at.types.now in
    let infos = at.infos.now in
    let ms = c.args.members.now in
    let i = c.loop-index.index in
    let m = c.index-members-index.result in
    let start = seen_in c.args.state.now in
    let now = seen_in c.loop-index.state in
    let points = part_points place types infos now (member_part i m.ty m.binding) in
    let whole = points_behind place types infos start [] (member_parts 0 ms) in
    let turn = rest_turns ms i m c.loop-index-test.true c.index-members-index.is place types infos start now c.loop-index.invariant.seen in
    refused_at c.from_residual.result points whole (next ms i m c.loop-index-test.true c.index-members-index.is place types infos start) (search rules) (sym c.loop-index.invariant.rest ∙ turn) (search rules)

pub loop-index-preserved : goal.loop-index-preserved
loop-index-preserved c =
    let at = c.args.context.now in
    let place = at.place.now in
    let types = at.types.now in
    let infos = at.infos.now in
    let ms = c.args.members.now in
    let i = c.loop-index.index in
    let m = c.index-members-index.result in
    let start = seen_in c.args.state.now in
    let now = seen_in c.loop-index.state in
    let points = part_points place types infos now (member_part i m.ty m.binding) in
    let turn = rest_turns ms i m c.loop-index-test.true c.index-members-index.is place types infos start now c.loop-index.invariant.seen in
    record {
      rest = passed_at points _ _ turn c.in_ok-check_member.ensures.fault ∙ c.loop-index.invariant.rest;
      seen = seen_turns ms i m c.loop-index-test.true c.index-members-index.is start now (seen_in c.check_member.new.state) c.loop-index.invariant.seen c.in_ok-check_member.ensures.seen;
      added = λ l. c.check_member.ensures.added l ∙ c.loop-index.invariant.added l;
    }
