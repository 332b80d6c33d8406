use Rattle.std.proofs.Common.{◌≡◌, drop}
use Rattle.json_values.specs.Form.{lookup}
use Rattle.json_values.specs.Reads.{rows_of}
use Rattle.json_values.proofs.variant.look_up.Given as goal

abbrev pub invariant-loop-row : goal.invariant-loop-row
invariant-loop-row g l = lookup (rows_of (drop l.row-index l.table)) l.name ≡ lookup (rows_of l.table) l.name
