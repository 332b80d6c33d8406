use Rattle.std.proofs.Common.{◌≡◌, drop}
use Rattle.json_nodes.specs.Nodes.{data_of}
use Rattle.json_values.specs.Reads.{rows_of}
use Rattle.json_expressions.specs.Forms.{no_parts, parts_from}
use Rattle.json_expressions.proofs.forms.read_fields.Given as goal

abbrev pub invariant-loop-row : goal.invariant-loop-row
invariant-loop-row l = parts_from l.parts (rows_of (drop l.row-index l.form)) (data_of l.held.value.now) ≡ parts_from no_parts (rows_of l.form) (data_of l.held.value.now)
