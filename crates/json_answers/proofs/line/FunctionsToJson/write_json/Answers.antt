use Rattle.std.proofs.Common.{arith}
use Rattle.json_faults.proofs.Lists.{list_on}
use Rattle.json_answers.specs.VerdictJson.{function_form}
use Rattle.json_answers.proofs.line.FunctionsToJson.write_json.Goals as goal

pub loop-function-preserved : goal.loop-function-preserved
loop-function-preserved c =
    list_on function_form c.loop-function.out _ _ c.function-item.result c.loop-function.function-index _ (omega arith)
    c.function-item.is c.in_ok-write_json.ensures c.loop-function.invariant
