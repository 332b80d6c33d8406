use Rattle.std.proofs.Common.{◌≡◌, [], drop, map, take}
use Rattle.ir_arena.specs.Points.{first_fault}
use Rattle.check_varyings.specs.Varyings.{group_points_from, seen_at, seen_in, group_parts}
use Rattle.check_entry.specs.EntryFaults.{OfArgument}
use Rattle.check_entry.specs.EntryVaryings.{argument_item}
use Rattle.check_entry.proofs.interface.InterfaceContext.check_arguments.Given as goal

-- what is left decides, and the state has seen what is seen behind the arguments so far
abbrev pub invariant-loop-index : goal.invariant-loop-index
invariant-loop-index g l =
    let types = l.self.program.now.types in
    let infos = l.self.infos.now in
    let items = map (argument_item l.self.settings l.self.entry_point.now) l.arguments in
    let before = group_parts types infos (take l.index items) in record {
      faults : first_fault (group_points_from types infos OfArgument before l.index (drop l.index items)) ≡ first_fault (group_points_from types infos OfArgument [] 0 items);
      seen : seen_in l.state ≡ seen_at l.place before;
    }
