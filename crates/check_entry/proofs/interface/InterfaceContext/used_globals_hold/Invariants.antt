use Rattle.std.proofs.Common.{◌≡◌, ◌≤◌, drop}
use Rattle.ir_arena.specs.Points.{first_fault, points_from}
use Rattle.check_variables.specs.TakenBindings.{AreTaken}
use Rattle.check_entry.specs.UsedGlobals.{global_points, used_immediates}
use Rattle.check_entry.proofs.interface.InterfaceContext.used_globals_hold.Given as goal

-- what is left decides, the set has what is taken, and the immediates so far are counted
abbrev pub invariant-loop-index : goal.invariant-loop-index
invariant-loop-index g l =
    let points = global_points (g.B.Below.meaning l.self.below.now) l.self.settings.flags l.self.program.now l.self.entry_point.now l.self.info.now.global_uses in record {
      faults : first_fault (points_from points l.index (drop l.index l.globals)) ≡ first_fault (points_from points 0 l.globals);
      taken : AreTaken l.taken l.self.info.now.global_uses l.globals l.index;
      counted : l.immediates ≡ used_immediates l.self.info.now.global_uses l.globals l.index;
      small : l.immediates ≤ l.index;
    }
