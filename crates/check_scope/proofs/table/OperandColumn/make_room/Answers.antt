use Rattle.std.proofs.Common.{◌≤◌, length, ap, ◌∙◌, arith}
use Rattle.std.specs.Prelude.{slice_index_or}
use Rattle.check_scope.specs.walk.Table.{kept_at}
use Rattle.check_scope.proofs.Columns.{read_filled}
use Rattle.check_scope.proofs.table.OperandColumn.make_room.Goals as goal

pub returns-clause-same : goal.returns-clause-same
unfolding kept_at
returns-clause-same c h =
    let xs = c.args.self.now.numbers.items in
    let fewer : length xs ≤ c.args.expressions = omega arith in
    ap (λ l. slice_index_or l h 0) c.in_ok-resize.ensures.items ∙ read_filled xs c.args.expressions _ h 0 fewer
