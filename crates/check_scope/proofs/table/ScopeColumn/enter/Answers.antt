use Rattle.std.proofs.Common.{rules, ◌≡◌, length, arith}
use Rattle.check_scope.specs.walk.Table.{known, shown}
use Rattle.check_scope.proofs.Columns.{known_entered, entered, last_entered}
use Rattle.check_scope.proofs.table.ScopeColumn.enter.Goals as goal

pub returns-clause-known : goal.returns-clause-known
unfolding known shown
returns-clause-known c =
    let t = c.args.self.now in
    known_entered t.numbers.items t.states.items t.innermost t.sound _ c.in_ok-push.ensures.items c.len-number.result

pub returns-clause-outside : goal.returns-clause-outside
unfolding known shown
returns-clause-outside c =
    let t = c.args.self.now in
    let next : c.len-number.result ≡ length t.states.items = search rules in
    entered t.numbers.items t.states.items t.innermost t.sound _ c.in_ok-push.ensures.items _ next

pub returns-clause-entered : goal.returns-clause-entered
unfolding shown
returns-clause-entered c =
    let t = c.args.self.now in
    let next : c.len-number.result ≡ length t.states.items = search rules in
    let more = c.in_ok-push.ensures.len in
    record {
      last = λ n e. let le = last_entered t.states.items _ c.in_ok-push.ensures.items n e in omega (arith, le, next);
      number = next;
      taken = omega (arith, more);
    }
