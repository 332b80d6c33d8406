use Rattle.check_scope.specs.walk.Table.{shown}
use Rattle.check_scope.proofs.Columns.{was_skipped}
use Rattle.check_scope.proofs.table.ScopeColumn.skip.Goals as goal

pub returns-clause-shown : goal.returns-clause-shown
unfolding shown
returns-clause-shown c =
    let t = c.args.self.now in was_skipped t.numbers.items t.states.items t.innermost t.sound c.args.outer
