use Rattle.std.proofs.Common.{arith, ◌∙◌}
use Rattle.std.proofs.lemmas.List.{length-set}
use Rattle.json_expressions.proofs.Names.{name_more}
use Rattle.json_expressions.proofs.forms.has_no_other.Goals as goal

pub loop-index-preserved : goal.loop-index-preserved
loop-index-preserved c = record {
  room = length-set c.loop-index.names c.loop-index.index _ ∙ c.loop-index.invariant.room;
  same = name_more c.loop-index.names c.args.form.now c.loop-index.index _ (omega arith) (omega arith) c.loop-index.invariant.same;
}
