-- Check points of an entry point.
use Rattle.std.specs.Prelude.{List}
use Rattle.ir_arena.specs.Points.{Point}
use Rattle.check_faults.specs.declared.entry.EntryPointError.{EntryPointError}

abbrev pub EntryPoints : Type 0
EntryPoints = List (Point EntryPointError)
