use Rattle.std.proofs.Common.{◌<◌, ◌==◌, length, ap, ◌∙◌, arith}
use Rattle.std.specs.Prelude.{if◌then◌else◌}
use Rattle.check_scope.specs.walk.Table.{kept_at}
use Rattle.check_scope.proofs.Columns.{set_at}
use Rattle.check_scope.proofs.table.OperandColumn.keep.Goals as goal

pub returns-clause-ok : goal.returns-clause-ok
unfolding kept_at
returns-clause-ok c h =
    let xs = c.make_room.new.self.numbers.items in
    let i = c.index.result in
    let is = c.index.ensures.value in
    let room = c.in_ok-make_room.ensures.room in
    let below = c.requires in
    let lt : i < length xs = omega (arith, is, room, below) in
    set_at xs i h c.args.number 0 lt
    ∙ ap (λ k. if h == k then c.args.number else kept_at c.make_room.new.self h) is
    ∙ ap (λ n. if h == c.args.handle then c.args.number else n) (c.in_ok-make_room.ensures.same h)
