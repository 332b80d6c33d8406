use Rattle.std.proofs.Common.{◌≡◌, ℕ, [], take, drop}
use Rattle.ir_arena.specs.Points.{first_fault}
use Rattle.check_varyings.specs.CodeVaryings.{far_less}
use Rattle.check_varyings.specs.Varyings.{member_parts, points_behind, far_in, seen_in, seen_with}
use Rattle.check_varyings.proofs.item.check_members.Given as goal

abbrev pub invariant-loop-index : goal.invariant-loop-index
invariant-loop-index l = record {
  rest : first_fault (points_behind l.context.place.now l.context.types.now l.context.infos.now (seen_in l.initial.state) (member_parts 0 (take l.index l.members)) (member_parts l.index (drop l.index l.members)))
      ≡ first_fault (points_behind l.context.place.now l.context.types.now l.context.infos.now (seen_in l.initial.state) [] (member_parts 0 l.members));
  seen : seen_in l.state ≡ seen_with (seen_in l.initial.state) (member_parts 0 (take l.index l.members));
  added : (n : ℕ) → far_less (far_in l.state) l.added.items n ≡ far_less (far_in l.initial.state) l.initial.added.items n;
}
