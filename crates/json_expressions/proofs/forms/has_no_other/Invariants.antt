use Rattle.std.proofs.Common.{◌≡◌, length, take}
use Rattle.json_values.specs.Reads.{rows_of, texts_of}
use Rattle.json_expressions.specs.Forms.{names_in}
use Rattle.json_expressions.proofs.forms.has_no_other.Given as goal

abbrev pub invariant-loop-index : goal.invariant-loop-index
invariant-loop-index l = record {
  room : length l.names ≡ 9;
  same : texts_of (take l.index l.names) ≡ names_in (rows_of (take l.index l.form));
}
