use Rattle.std.proofs.Common.{[], None}
use Rattle.std.specs.Prelude.{codes}
use Rattle.json_answers.proofs.Objects.{text_named}
use Rattle.json_answers.specs.VerdictJson.{refused_form}
use Rattle.json_answers.proofs.line.write_refused.Goals as goal

pub returns-in-NotFit : goal.returns-in-NotFit
unfolding refused_form
returns-in-NotFit c = ([], c.write_fault.ensures.0, rw c.in-NotFit.is c.write_fault.ensures.1)

pub returns-in-Global : goal.returns-in-Global
unfolding refused_form
returns-in-Global c =
    ([], c.write_fault-in-Global.ensures.0, rw c.in-Global.is (rw c.index.ensures.value at c.write_fault-in-Global.ensures.1))

pub returns-in-Function : goal.returns-in-Function
unfolding refused_form
returns-in-Function c = (
  c.spans.result.now,
  c.write_fault-in-Function.ensures.0,
  rw c.in-Function.is (rw (c.index-in-Function.ensures.value, c.as_inner.ensures) at c.write_fault-in-Function.ensures.1),
)

pub returns-in-EntryPoint : goal.returns-in-EntryPoint
unfolding refused_form
returns-in-EntryPoint c = (
  c.spans-in-EntryPoint.result.now,
  c.write_fault-in-EntryPoint.ensures.0,
  rw c.in-EntryPoint.is (rw c.as_inner-in-EntryPoint.ensures at c.write_fault-in-EntryPoint.ensures.1),
)

pub returns-in-Memory : goal.returns-in-Memory
unfolding refused_form
returns-in-Memory c = ([], None, rw (c.in-Memory.is, text_named c.args.examined.now.id (codes "memory")) c.string.ensures)
