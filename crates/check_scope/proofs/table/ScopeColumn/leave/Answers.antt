use Rattle.std.proofs.Common.{rules, ◌≡◌, length, ap, ◌∙◌, arith}
use Rattle.check_scope.specs.walk.Table.{shown}
use Rattle.check_scope.proofs.Columns.{not_some, shows, was_left, both_left, none_skipped}
use Rattle.check_scope.proofs.table.ScopeColumn.leave.Goals.{in-Some+then-number-len, in-Some+else-number-len, in_default}
use Rattle.check_scope.proofs.table.ScopeColumn.leave.Goals as goal

pub returns-clause-shown : goal.returns-clause-shown
unfolding shown
returns-clause-shown c =
    let t = c.args.self.now in
    let both = both_left t.numbers.items t.states.items t.innermost t.sound c.args.outer in
    let none = none_skipped t.numbers.items t.states.items t.innermost t.sound c.args.outer in
    elim c.match-skipped.branch [
      | in-Some+then-number-len w ↦ rw w.in-Some.is (ap (λ z. shows t.numbers.items (z.1.1.0).items c.args.outer) w.self-is ∙ both w.in-Some.number (let n : w.len.result ≡ length t.states.items = search rules in omega (arith, n, w.if-number-len.true)))
      | in-Some+else-number-len w ↦ rw w.in-Some.is (ap (λ z. shows t.numbers.items (z.1.1.0).items c.args.outer) w.self-is ∙ none w.in-Some.number (let n : w.len.result ≡ length t.states.items = search rules in omega (arith, n, w.if-number-len.false)))
      | in_default w ↦ rw (not_some c.args.skipped w.in_default.not-Some) (ap (λ z. shows t.numbers.items (z.1.1.0).items c.args.outer) w.self-is ∙ was_left t.numbers.items t.states.items t.innermost t.sound c.args.outer)
    ]
