use Rattle.std.proofs.Common.{◌≡◌, drop}
use Rattle.json_nodes.specs.Nodes.{data_of}
use Rattle.json_nodes.specs.Fields.{has_each}
use Rattle.json_values.specs.Reads.{rows_of}
use Rattle.json_expressions.specs.Forms.{names_in}
use Rattle.json_expressions.proofs.forms.has_each.Given as goal

abbrev pub invariant-loop-row : goal.invariant-loop-row
invariant-loop-row l = has_each (names_in (rows_of (drop l.row-index l.form))) (data_of l.value) ≡ has_each (names_in (rows_of l.form)) (data_of l.value)
