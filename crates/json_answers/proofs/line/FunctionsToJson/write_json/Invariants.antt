use Rattle.std.proofs.Common.{◌≡◌, ◌++◌, drop}
use Rattle.json.specs.Tree.{items_tokens}
use Rattle.json_faults.specs.JsonForm.{each}
use Rattle.json_answers.specs.VerdictJson.{function_form}
use Rattle.json_answers.proofs.line.FunctionsToJson.write_json.Given as goal

abbrev pub invariant-loop-function : goal.invariant-loop-function
invariant-loop-function l =
    l.out ++ items_tokens (each function_form (drop l.function-index l.function-items))
    ≡ l.initial.out ++ items_tokens (each function_form l.function-items)
