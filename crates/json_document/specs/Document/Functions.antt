-- Functions.
use Rattle.std.specs.Prelude.{codes, Option}
use Rattle.serde_json.specs.Data.{Data}
use Rattle.serde_json.specs.Find.{as_str}
use Rattle.ir_module.specs.declared.functions.LocalVariable.{LocalVariable}
use Rattle.ir_module.specs.declared.functions.FunctionArgument.{FunctionArgument}
use Rattle.ir_module.specs.declared.functions.FunctionResult.{FunctionResult}
use Rattle.ir_module.specs.declared.functions.Function.{Function}
use Rattle.json_values.specs.Form.{five_fields, list_of, made_of_five, made_of_three, made_of_two, optional, three_fields, two_fields}
use Rattle.json_values.specs.ReadNumbers.{u32_of}
use Rattle.json_types.specs.Bindings.{binding_of}
use Rattle.json_expressions.specs.Expressions.{expression_of}
use Rattle.json_statements.specs.Statements.{block_of}

-- a local variable
abbrev pub local_variable_of : Data → Option LocalVariable
local_variable_of d = made_of_three (λ name ty init. record { name = name; ty = ty; init = init })
    (three_fields (codes "name") (optional as_str) (codes "ty") u32_of (codes "init") (optional u32_of) d)

-- an argument
abbrev pub function_argument_of : Data → Option FunctionArgument
function_argument_of d = made_of_three (λ name ty binding. record { name = name; ty = ty; binding = binding })
    (three_fields (codes "name") (optional as_str) (codes "ty") u32_of (codes "binding") (optional binding_of) d)

-- what a function returns
abbrev pub function_result_of : Data → Option FunctionResult
function_result_of d = made_of_two (λ ty binding. record { ty = ty; binding = binding })
    (two_fields (codes "ty") u32_of (codes "binding") (optional binding_of) d)

-- a function
abbrev pub function_of : Data → Option Function
function_of d = made_of_five
    (λ arguments result local_variables expressions body. record {
      arguments = arguments;
      result = result;
      local_variables = local_variables;
      expressions = expressions;
      body = body;
    })
    (five_fields (codes "arguments") (list_of function_argument_of) (codes "result") (optional function_result_of)
    (codes "local_variables") (list_of local_variable_of) (codes "expressions") (list_of expression_of)
    (codes "body") block_of d)
