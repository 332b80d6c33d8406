use Rattle.std.proofs.Common.{◌≡◌, ◌≤◌, ◌-◌}
use Rattle.ir_arena.specs.Points.{first_fault}
use Rattle.check_scope.specs.walk.Place.{place_at}
use Rattle.check_flow.specs.Emit.{emit_points, emit_points_from}
use Rattle.check_flow.specs.walk.Emitted.{handles_between}
use Rattle.check_scope.specs.walk.SeenContext.{context_of}
use Rattle.check_scope.specs.BodyTrees.{emitted_operands}
use Rattle.check_scope.specs.walk.Table.{HasPut, KnowsOperands, known}
use Rattle.check_flow.proofs.emit.validate_emit.Given as goal

abbrev pub invariant-loop-index : goal.invariant-loop-index
invariant-loop-index l = record {
  scope : HasPut l.initial.scope l.scope (handles_between l.fn.range.start l.index);
  operands : KnowsOperands (emitted_operands (context_of l.fn.context).fun) l.operands l.scope;
  stays : l.fn.range.end ≤ l.fn.range.start → l.index ≡ l.fn.range.start;
  faults : first_fault (emit_points_from (context_of l.fn.context) (place_at (known l.initial.scope)) l.fn.range.start l.index (l.fn.range.end - l.index)) ≡ first_fault (emit_points (context_of l.fn.context) (place_at (known l.initial.scope)) l.fn.range.start l.fn.range.end);
}
